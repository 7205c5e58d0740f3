-- What `merge` answers and writes.
-- Assumes nothing.
use Rattle.std.specs.Prelude.{◌≡◌, List, cond, ℕ}
use Rattle.edge.specs.Answers.{done, no_room, or_else}
use Rattle.rows.specs.Reading.{if_done}
use Rattle.graph.specs.Graph.{Lent}
use Rattle.graph.specs.Check.{CheckSeen}
use Rattle.two_graphs.specs.Pair.{check_two_call}
use Rattle.renumber.specs.Seen.{Rebuilt, RebuiltSeen, rebuilt_seen, SameRebuilt, rebuilt_determined}
use Rattle.output.specs.Room.{has_room}
use Rattle.merge.specs.Merge.{summed, merged}

-- the answer, and the marks: 1 for both, 2 and 3 of the first, then of the second; then 5, where "rows, list entries .. still free are fewer than the call needs"
unfoldable pub merge_checked : Lent → Lent → List ℕ → CheckSeen
merge_checked a b marks =
    record {
      given = or_else (check_two_call a b marks).given (cond (has_room a (summed a.counts b.counts)) done no_room);
      marks = (check_two_call a b marks).marks;
    }

-- "A refusal changes no row, list, output or state", and the counts come back as given
unfoldable pub merge_call : Lent → Lent → List ℕ → RebuiltSeen
merge_call a b marks =
    let seen = merge_checked a b marks in
    record { given = seen.given; graph = if_done seen.given (merged a b) a; marks = seen.marks }

-- any two results that the promise allows are equal: the answer, every lent word with the counts, and the marks
pub merge_determined : (a b : Lent) (marks : List ℕ) (r s : Rebuilt) (x y : Lent) (m n : List ℕ)
    → rebuilt_seen r x m ≡ merge_call a b marks → rebuilt_seen s y n ≡ merge_call a b marks → SameRebuilt r x m s y n
merge_determined a b = rebuilt_determined (merge_call a b)
