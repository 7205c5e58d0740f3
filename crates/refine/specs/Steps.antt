-- What only the proofs need: what a step asks of its caller, and what its functions count on the way.
-- Assumes nothing.
use Rattle.std.specs.Prelude.{ℕ, ◌≤◌, ◌≡◌, List, ◌++◌, length, replicate, drop}
use Rattle.graph.specs.Graph.{Lent, Sized}
use Rattle.graph.specs.WellFormed.{WellFormed}
use Rattle.renumber.specs.Steps.{MarksHold, FoundSeen}
use Rattle.output.specs.Room.{Room}
use Rattle.kept_rows.specs.Kept.{kept_flags}
use Rattle.kept_rows.specs.Keeping.{kept_id, new_ids}
use Rattle.refine.specs.Refining.{refined_counts}
use Rattle.rows.specs.Reading.{if_done}
use Rattle.graph.specs.declared.Counts.{Counts}
use Rattle.refine.specs.Call.{refine_asked, refine_answer}

-- no answer is left but 5, and the marks, one for each used row, are 0
pub record RefineReady (g : Lent) (marks : List ℕ) : Type 0 where
  pub sized : Sized g (length marks)
  pub well_formed : WellFormed g
  pub zeros : marks ≡ replicate g.counts.rows 0

-- no answer is left, and the marks hold the new numbers
pub record WriteReady (g out : Lent) (old map : List ℕ) : Type 0 where
  pub sized : Sized g (length map)
  pub well_formed : WellFormed g
  pub room : Room out (refined_counts g)
  pub old_room : (refined_counts g).rows ≤ length old
  pub holds : MarksHold g.counts.rows (kept_id (kept_flags g)) map

-- ---- between the check and the writing
-- where no answer is left, the counts are those of the result, and the marks of the used rows hold their new numbers
unfoldable pub refine_checked : Lent → Counts → ℕ → List ℕ → FoundSeen
refine_checked g room old marks =
    let t = refine_answer g room old marks in
    record { given = t; counts = if_done t (refined_counts g) g.counts; marks = if_done t (new_ids (kept_flags g) ++ drop g.counts.rows marks) (refine_asked g room marks).marks }
