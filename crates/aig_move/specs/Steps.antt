-- What only the proofs need: what a step asks of its caller, and what its functions count on the way.
-- Assumes nothing.
use Rattle.std.specs.Prelude.{ℕ, ◌+◌, ◌*◌, ◌≤◌, List, length}
use Rattle.graph.specs.declared.Counts.{Counts}
use Rattle.aig_move.specs.declared.making.Made.{Made}
use Rattle.rows.specs.Sizes.{max_rows, max_entries}
use Rattle.graph.specs.Latches.{latch_words}
use Rattle.graph.specs.Graph.{Lent, Sized}
use Rattle.output.specs.Room.{Room}
use Rattle.aig_move.specs.Moving.{moved_counts}
use Rattle.rows.specs.Reading.{if_done}
use Rattle.renumber.specs.Steps.{FoundSeen}
use Rattle.aig_move.specs.Call.{move_asked, move_answer}
use Rattle.aig_move.specs.Making.{Making}

abbrev pub making_seen : List ℕ → Made → Making
making_seen rows r = record { rows = rows; used = r.used; next = r.next; bad = r.bad; output = r.output }

-- the lists have the entries that are counted, and all new edges are words
pub record MakeReady (g : Lent) : Type 0 where
  pub rows : g.counts.rows ≤ max_rows
  pub constraints_has : g.counts.constraints ≤ length g.constraints
  pub few : g.counts.constraints ≤ max_entries
  pub bads_has : g.counts.bads ≤ length g.bads
  pub outputs_has : g.counts.outputs ≤ length g.outputs

-- the same, and the copy c has room for the latch
pub record FinishReady (g c : Lent) : Type 0 where
  pub make : MakeReady g
  pub latch : latch_words * (g.counts.latches + 1) ≤ length c.latches
  pub bads_room : g.counts.bads ≤ length c.bads
  pub outputs_room : g.counts.outputs ≤ length c.outputs

-- no answer is left
pub record MoveReady (g out : Lent) : Type 0 where
  pub marked : ℕ
  pub sized : Sized g marked
  pub room : Room out (moved_counts g)

-- ---- between the check and the writing
-- where no answer is left, the counts are those of the result
unfoldable pub move_checked : Lent → Counts → List ℕ → FoundSeen
move_checked g room marks =
    let t = move_answer g room marks in
    record { given = t; counts = if_done t (moved_counts g) g.counts; marks = (move_asked g room marks).marks }
