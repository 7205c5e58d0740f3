-- What `aig_move` answers and writes.
-- Assumes nothing.
use Rattle.std.specs.Prelude.{ℕ, ◌≡◌, List, true, cond}
use Rattle.edge.specs.declared.answer.Given.{Given}
use Rattle.edge.specs.Answers.{done, no_room, or_else}
use Rattle.rows.specs.Reading.{if_done}
use Rattle.graph.specs.declared.Counts.{Counts}
use Rattle.graph.specs.Graph.{Lent}
use Rattle.graph.specs.Check.{CheckSeen}
use Rattle.renumber.specs.Seen.{Rebuilt, RebuiltSeen, rebuilt_seen, SameRebuilt, rebuilt_determined}
use Rattle.output.specs.Room.{room_in, fits_in}
use Rattle.output.specs.Asking.{asked_in}
use Rattle.aig_move.specs.Moving.{moved_counts, moved}

-- answers 1 to 3, and the marks, where there is so much room for the output: there is no argument that could be wrong
abbrev pub move_asked : Lent → Counts → List ℕ → CheckSeen
move_asked g room marks = asked_in true g room marks

-- then 5: "rows, list entries .. still free are fewer than the call needs"
unfoldable pub move_answer : Lent → Counts → List ℕ → Given
move_answer g room marks = or_else (move_asked g room marks).given (cond (fits_in room (moved_counts g)) done no_room)

-- ---- the call
-- "A refusal changes no row, list, output or state": `out` has the output's words and the counts that were given, which then come back
unfoldable pub move_call : Lent → Lent → List ℕ → RebuiltSeen
move_call g out marks =
    let t = move_answer g (room_in out) marks in
    record { given = t; graph = if_done t (moved g out) out; marks = (move_asked g (room_in out) marks).marks }

-- any two results that the promise allows are equal: the answer, every lent word with the counts, and the marks
pub aig_move_determined : (g out : Lent) (marks : List ℕ) (r s : Rebuilt) (x y : Lent) (m n : List ℕ)
    → rebuilt_seen r x m ≡ move_call g out marks → rebuilt_seen s y n ≡ move_call g out marks → SameRebuilt r x m s y n
aig_move_determined g out = rebuilt_determined (move_call g out)
