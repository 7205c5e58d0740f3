-- What a call answers that changes the graph it is lent, before it writes.
-- Assumes nothing.
use Rattle.std.specs.Prelude.{ℕ, Bool, cond, List}
use Rattle.edge.specs.Answers.{done, bad_sizes, no_room, or_else}
use Rattle.graph.specs.Graph.{Lent}
use Rattle.graph.specs.Check.{CheckSeen, check_call}

-- 1, 2 and 3 of the graph; 1 too where what else is lent passes a limit; then 5, where "rows, list entries .. still free are fewer than the call needs"
unfoldable pub change_checked : Bool → Bool → Lent → List ℕ → CheckSeen
change_checked limits room g marks =
    cond limits
    (record { given = or_else (check_call g marks).given (cond room done no_room); marks = (check_call g marks).marks })
    (record { given = bad_sizes; marks = marks })
