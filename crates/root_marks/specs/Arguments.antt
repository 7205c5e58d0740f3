-- What a call answers that takes a whole graph and a list of arguments, and has slices of its own: 1 to 4.
-- Assumes nothing.
use Rattle.std.specs.Prelude.{ℕ, List, [], ◌∷◌, Bool, true, cond, ◌&&◌}
use Rattle.edge.specs.Answers.{done, bad_sizes, bad_argument, or_else}
use Rattle.graph.specs.Graph.{Lent}
use Rattle.graph.specs.Check.{CheckSeen, check_call}

-- every entry of a list is good
unfoldable pub every : (ℕ → Bool) → List ℕ → Bool
every good [] = true
every good (x ∷ xs) = good x && every good xs

-- 1 where the call's own slices or the graph have wrong sizes, then 2 and 3, then 4 where an argument is not good. The marks are as `check` leaves them: nothing is
-- touched where the call's own slices are wrong.
unfoldable pub args_call : Bool → Bool → Lent → List ℕ → CheckSeen
args_call room good g marks =
    cond room
    (record { given = or_else (check_call g marks).given (cond good done bad_argument); marks = (check_call g marks).marks })
    (record { given = bad_sizes; marks = marks })
