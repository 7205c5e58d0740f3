-- Laws of the check of a whole graph.
-- Assumes nothing.
use Prim.Native.Nat.{ℕ}
use mathlib.Core.Path.{◌≡◌, refl, ◌∙◌}
use mathlib.Core.Bool.{true, false}
use mathlib.Core.List.{List, ◌++◌}
use lib.ListN.{length}
use lib.Dec.{leb}
use borrow.Author.Tests.{leb-true}
use Rattle.edge.specs.declared.answer.Refusal.{Refusal}
use Rattle.edge.specs.declared.answer.Refusal.TheVariants.{BadSizes}
use Rattle.edge.specs.Answers.{given, done, refused, told}
use Rattle.edge.proofs.Tests.{both}
use Rattle.rows.specs.Sizes.{max_entries, fits, rows_fit}
use Rattle.rows.proofs.Laws.{fit, rows_fit_lem}
use Rattle.graph.specs.Latches.{latches_lent}
use Rattle.graph.specs.declared.Counts.{Counts}
use Rattle.std.specs.Prelude.{Some, None, Result, Err}
use Rattle.graph.specs.Stages.{Stage, found, first_fault}
use Rattle.graph.specs.Graph.{Lent, sizes_right, Sized, ListsLent}
use Rattle.graph.specs.Check.{row_stage, leaf_stages, justice_stages, list_stages, contents, cleared, check_seen, check_call}
use Rattle.graph.proofs.Stages.{Entries, stage_stops, stage_goes, stops_within, goes_beyond}
use Rattle.graph.proofs.Stages.{ends, also}

pub sized : (g : Lent) (marks : ℕ) → sizes_right g marks ≡ true → Sized g marks
unfolding sizes_right
sized g marks h =
    let a = both {b = fits g.counts.fairness (length g.fairness) max_entries} h in
    let b = both {b = fits g.counts.edges (length g.edges) max_entries} a.0 in
    let c = both {b = fits g.counts.sets (length g.ends) max_entries} b.0 in
    let d = both {b = fits g.counts.outputs (length g.outputs) max_entries} c.0 in
    let e = both {b = fits g.counts.bads (length g.bads) max_entries} d.0 in
    let f = both {b = fits g.counts.constraints (length g.constraints) max_entries} e.0 in
    let i = both {b = fits g.counts.latches (latches_lent g.latches) max_entries} f.0 in
    let j = both {b = fits g.counts.inputs (length g.inputs) max_entries} i.0 in
    let k = both {a = rows_fit g.counts.rows g.rows} {b = leb g.counts.rows marks} j.0 in
    record {
      rows = rows_fit_lem g.counts.rows g.rows k.0;
      marked = leb-true _ _ k.1;
      inputs = fit _ _ _ j.1;
      latches = fit _ _ _ i.1;
      constraints = fit _ _ _ f.1;
      bads = fit _ _ _ e.1;
      outputs = fit _ _ _ d.1;
      ends = fit _ _ _ c.1;
      edges = fit _ _ _ b.1;
      fairness = fit _ _ _ a.1;
    }

-- right sizes lend the entries of lists 3 to 7
pub lists_lent : {g : Lent} {marks : ℕ} → Sized g marks → ListsLent g
lists_lent s =
    record {
      constraints = s.constraints.within;
      bads = s.bads.within;
      outputs = s.outputs.within;
      ends = s.ends.within;
      edges = s.edges.within;
      fairness = s.fairness.within;
    }

-- ---- the stages of lists answer by 3
pub leaf_entries : (rows inputs latches : List ℕ) (n : Counts) → Entries (leaf_stages rows inputs latches n)
leaf_entries rows inputs latches n = also (λ i. refl) (also (λ i. refl) ends)

pub justice_entries : (used : ℕ) (ends' : List ℕ) (sets : ℕ) (edges : List ℕ) (n : ℕ) → Entries (justice_stages used ends' sets edges n)
justice_entries used ends' sets edges n = also (λ i. refl) (also (λ i. refl) (also (λ i. refl) ends))

-- ---- the contents, stage by stage
module _ (g : Lent) where
  abbrev row_stage_lem : Stage
  row_stage_lem = row_stage g.rows g.counts.rows

  abbrev leaf_stages_lem : List Stage
  leaf_stages_lem = leaf_stages g.rows g.inputs g.latches g.counts

  abbrev list_stages_lem : List Stage
  list_stages_lem = list_stages g.constraints g.bads g.outputs g.ends g.edges g.fairness g.counts

  pub at_row : {i : ℕ} → found row_stage_lem ≡ Some i → contents g ≡ given 2 i 0 0
  unfolding contents
  at_row e = stage_stops row_stage_lem (leaf_stages_lem ++ list_stages_lem) e

  module _ (rows : found row_stage_lem ≡ None) where
    pub at_leaves : (f : Refusal) → refused f ≡ first_fault leaf_stages_lem → contents g ≡ refused f
    unfolding contents
    at_leaves f e = stage_goes row_stage_lem (leaf_stages_lem ++ list_stages_lem) rows ∙ stops_within list_stages_lem (leaf_entries g.rows g.inputs g.latches g.counts) f e

    pub at_lists : done ≡ first_fault leaf_stages_lem → contents g ≡ first_fault list_stages_lem
    unfolding contents
    at_lists e = stage_goes row_stage_lem (leaf_stages_lem ++ list_stages_lem) rows ∙ goes_beyond list_stages_lem (leaf_entries g.rows g.inputs g.latches g.counts) e

-- ---- the call
module _ (g : Lent) (marks : List ℕ) where
  pub check_refused_lem : sizes_right g (length marks) ≡ false → check_seen (Err BadSizes) marks ≡ check_call g marks
  unfolding check_call
  check_refused_lem e = rw e

  pub check_goes : (r : Result Unit Refusal) (after : List ℕ) → sizes_right g (length marks) ≡ true → told r ≡ contents g → after ≡ cleared g.counts.rows marks
      → check_seen r after ≡ check_call g marks
  unfolding check_call
  check_goes r after e t w = rw (e, t, w)
