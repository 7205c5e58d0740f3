-- What the new graph means.
-- Assumes nothing.
use Rattle.std.specs.Prelude.{ℕ, ◌≤◌, ◌<◌, ◌≡◌, ◌⊎◌, true, List, length, get_or}
use Rattle.edge.specs.Edges.{id_of}
use Rattle.rows.specs.Rows.{none}
use Rattle.graph.specs.Latches.{latch_at}
use Rattle.graph.specs.Graph.{Lent, Sized, no_counts}
use Rattle.graph.specs.WellFormed.{WellFormed}
use Rattle.graph.specs.Exactly.{Answers}
use Rattle.root_marks.specs.Flags.{Flagged}
use Rattle.coi.specs.Meaning.{IsCoi}
use Rattle.graph.specs.Count.{count_below}
use Rattle.renumber.specs.Renumber.{lists_of}
use Rattle.output.specs.Room.{room_in, limits, Limited, Room}
use Rattle.renumber.specs.Entries.{Renumbered}
use Rattle.renumber.specs.Meaning.{Carried, SameValues}
use Rattle.kept_rows.specs.Kept.{refine_roots, kept_flags}
use Rattle.kept_rows.specs.Keeping.{kept_input}
use Rattle.refine.specs.Refining.{is_kept, new_row, refined_counts}
use Rattle.refine.specs.Call.{refine_room, refine_call}

-- row i is kept
abbrev pub Kept : Lent → ℕ → Type 0
Kept g i = Flagged (kept_flags g) i

-- ---- no list loses an entry
abbrev pub KeptEdges : Lent → List ℕ → ℕ → Type 0
KeptEdges g list n = (j : ℕ) → j < n → Kept g (id_of (get_or list j 0))

-- every row that a list but the inputs names is kept: "no latch is dropped"
pub record NamedKept (g : Lent) : Type 0 where
  pub latches : (j : ℕ) → j < g.counts.latches → Kept g (latch_at g.latches j).input
  pub nexts : (j : ℕ) → j < g.counts.latches → Kept g (id_of (latch_at g.latches j).next)
  pub inits : (j : ℕ) → j < g.counts.latches → ((latch_at g.latches j).init ≡ none) ⊎ Kept g (id_of (latch_at g.latches j).init)
  pub constraints : KeptEdges g g.constraints g.counts.constraints
  pub bads : KeptEdges g g.bads g.counts.bads
  pub outputs : KeptEdges g g.outputs g.counts.outputs
  pub edges : KeptEdges g g.edges g.counts.edges
  pub fairness : KeptEdges g g.fairness g.counts.fairness

-- ---- the inputs
-- how many kept inputs stand before input j
abbrev pub input_place : Lent → ℕ → ℕ
input_place g j = count_below (kept_input (is_kept g) g.inputs) j

-- entry k of the new inputs is one of the old, and that is kept
pub record InputFrom (g : Lent) (after : List ℕ) (k : ℕ) : Type 0 where
  pub from : ℕ
  pub within : from < g.counts.inputs
  pub kept : Kept g (get_or g.inputs from 0)
  pub place : input_place g from ≡ k
  pub same : get_or after k 0 ≡ new_row g (get_or g.inputs from 0)

-- ---- the rows
-- "the new-to-old list comes back": it and the new numbers undo each other
pub record Inverse (g : Lent) (used' : ℕ) (old : List ℕ) : Type 0 where
  pub back : (i : ℕ) → i < g.counts.rows → Kept g i → get_or old (new_row g i) 0 ≡ i
  pub kept : (k : ℕ) → k < used' → Kept g (get_or old k 0)
  pub forth : (k : ℕ) → k < used' → new_row g (get_or old k 0) ≡ k

-- `after` is g without the rows that are not kept, and `old` says which are
pub record Refined (g after : Lent) (old : List ℕ) : Type 0 where
  pub counts : after.counts ≡ refined_counts g
  -- the kept rows are those that `coi` flags from the roots
  pub is_coi : IsCoi g (refine_roots g) (kept_flags g)
  -- "kept rows keep their order"
  pub in_order : (i j : ℕ) → i < j → Kept g i → Kept g j → new_row g i < new_row g j
  pub inverse : Inverse g after.counts.rows old
  -- each kept row stands in the new graph; so it, and each edge to one, has the same value there under the corresponding leaf values
  pub carried : Carried (new_row g) (Kept g) g.rows g.counts.rows after.rows after.counts.rows
  pub values : SameValues (new_row g) (Kept g) g.rows g.counts.rows after.rows
  -- every entry of every list: it is the same edge, to a kept row, numbered anew, and so has the same value
  pub named : NamedKept g
  pub lists : Renumbered (new_row g) no_counts (lists_of g) g.counts (lists_of after)
  pub inputs : (k : ℕ) → k < after.counts.inputs → InputFrom g after.inputs k
  -- the result may be given to any call
  pub sized : (marks : ℕ) → after.counts.rows ≤ marks → Sized after marks
  pub well_formed : WellFormed after

-- what is lent to the call is right, and there is room
pub record RefineLent (g out : Lent) (old marks : List ℕ) : Type 0 where
  pub limited : Limited out
  pub sized : Sized g (length marks)
  pub well_formed : WellFormed g
  pub room : Room out (refined_counts g)
  pub old_room : (refined_counts g).rows ≤ length old

-- `coi_refine` is done exactly where what is lent is right and there is room, and then the output is the graph without the rows that are not kept. Else the output and the
-- new-to-old list are as they were.
pub record RefineRight (g out : Lent) (old marks : List ℕ) : Type 0 where
  pub accepts : RefineLent g out old marks → (refine_call g out old marks).given.number ≡ 0
  pub accepted : (refine_call g out old marks).given.number ≡ 0 → RefineLent g out old marks
  -- each answer exactly in its case, and the marks
  pub answers : Answers (limits out) true (refine_room g (room_in out) (length old)) g marks (refine_call g out old marks).given (refine_call g out old marks).marks
  pub refines : (refine_call g out old marks).given.number ≡ 0 → Refined g (refine_call g out old marks).graph (refine_call g out old marks).old
  pub refused : ((refine_call g out old marks).given.number ≡ 0 → ⊥) → ((refine_call g out old marks).graph ≡ out) × ((refine_call g out old marks).old ≡ old)
