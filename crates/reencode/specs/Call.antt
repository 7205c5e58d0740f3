-- What `reencode` answers and writes.
-- Assumes nothing.
use Rattle.std.specs.Prelude.{ℕ, ◌≡◌, List, Bool, cond, eqb}
use Rattle.edge.specs.Answers.{done, no_room, or_else}
use Rattle.rows.specs.Reading.{if_done}
use Rattle.graph.specs.declared.Counts.{Counts}
use Rattle.graph.specs.Graph.{Lent}
use Rattle.graph.specs.Check.{CheckSeen}
use Rattle.renumber.specs.Seen.{Rebuilt, RebuiltSeen, rebuilt_seen, SameRebuilt, rebuilt_determined}
use Rattle.output.specs.Room.{room_in, fits_in}
use Rattle.output.specs.Asking.{asked_in}
use Rattle.reencode.specs.Numbers.{orphans}
use Rattle.reencode.specs.Rebuilding.{reencoded}

-- "an orphan: 4"
abbrev pub no_orphan : Lent → Bool
no_orphan g = eqb (orphans g) 0

-- answers 1 to 4, and the marks, where there is so much room for the output
abbrev pub reencode_asked : Lent → Counts → List ℕ → CheckSeen
reencode_asked g room marks = asked_in (no_orphan g) g room marks

-- then 5: "rows, list entries .. still free are fewer than the call needs"
unfoldable pub reencode_checked : Lent → Counts → List ℕ → CheckSeen
reencode_checked g room marks =
    record { given = or_else (reencode_asked g room marks).given (cond (fits_in room g.counts) done no_room); marks = (reencode_asked g room marks).marks }

-- "A refusal changes no row, list, output or state": `out` has the output's words and the counts that were given, which then come back
unfoldable pub reencode_call : Lent → Lent → List ℕ → RebuiltSeen
reencode_call g out marks =
    let seen = reencode_checked g (room_in out) marks in
    record { given = seen.given; graph = if_done seen.given (reencoded g out) out; marks = seen.marks }

-- any two results that the promise allows are equal: the answer, every lent word with the counts, and the marks
pub reencode_determined : (g out : Lent) (marks : List ℕ) (r s : Rebuilt) (x y : Lent) (m n : List ℕ)
    → rebuilt_seen r x m ≡ reencode_call g out marks → rebuilt_seen s y n ≡ reencode_call g out marks → SameRebuilt r x m s y n
reencode_determined g out = rebuilt_determined (reencode_call g out)
