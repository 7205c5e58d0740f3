-- What `coi_refine` answers and writes.
-- Assumes nothing.
use Rattle.std.specs.Prelude.{ℕ, ◌≡◌, List, Bool, true, cond, ◌&&◌, length, leb}
use Rattle.edge.specs.declared.answer.Given.{Given}
use Rattle.edge.specs.Answers.{done, no_room, or_else}
use Rattle.rows.specs.Reading.{if_done}
use Rattle.graph.specs.declared.Counts.{Counts}
use Rattle.graph.specs.Graph.{Lent}
use Rattle.graph.specs.Check.{CheckSeen}
use Rattle.renumber.specs.Seen.{Rebuilt, ListedSeen, listed_seen, SameListed, listed_determined}
use Rattle.output.specs.Room.{room_in, fits_in}
use Rattle.output.specs.Asking.{asked_in}
use Rattle.refine.specs.Refining.{refined_counts, refined, old_rows}

-- answers 1 to 3, and the marks, where there is so much room for the output: there is no argument that could be wrong
abbrev pub refine_asked : Lent → Counts → List ℕ → CheckSeen
refine_asked g room marks = asked_in true g room marks

-- "rows, list entries .. still free are fewer than the call needs": in the output graph, and in the new-to-old list
abbrev pub refine_room : Lent → Counts → ℕ → Bool
refine_room g room old = fits_in room (refined_counts g) && leb (refined_counts g).rows old

-- then 5
unfoldable pub refine_answer : Lent → Counts → ℕ → List ℕ → Given
refine_answer g room old marks = or_else (refine_asked g room marks).given (cond (refine_room g room old) done no_room)

-- ---- the call
-- "A refusal changes no row, list, output or state": `out` has the output's words and the counts that were given, which then come back
unfoldable pub refine_call : Lent → Lent → List ℕ → List ℕ → ListedSeen
refine_call g out old marks =
    let t = refine_answer g (room_in out) (length old) marks in
    record { given = t; graph = if_done t (refined g out) out; old = if_done t (old_rows g old) old; marks = (refine_asked g (room_in out) marks).marks }

-- any two results that the promise allows are equal: the answer, every lent word with the counts, the new-to-old list, and the marks
pub coi_refine_determined : (g out : Lent) (old marks : List ℕ) (r s : Rebuilt) (x y : Lent) (o p m n : List ℕ)
    → listed_seen r x o m ≡ refine_call g out old marks → listed_seen s y p n ≡ refine_call g out old marks → SameListed r x o m s y p n
coi_refine_determined g out old = listed_determined (refine_call g out old)
