-- Renumbered lists keep the entries before those that are written, and hold edges to used rows.
-- Assumes nothing.
use Prim.Native.Nat.{ℕ, zero, suc, ◌+◌, ◌-◌, ◌≤◌, ◌<◌}
use native.Mathlib.Omega.{arith}
use mathlib.Core.Path.{◌≡◌, refl, ap, ◌∙◌}
use mathlib.Core.Logic.{⊎_elim}
use mathlib.Core.List.{List}
use lib.ListN.{get_or}
use Rattle.edge.specs.Edges.{id_of}
use Rattle.edge.proofs.Tests.{lt_or_le}
use Rattle.rows.specs.Sizes.{max_rows}
use Rattle.rows.specs.Rows.{none}
use Rattle.graph.specs.declared.Counts.{Counts}
use Rattle.graph.specs.Latches.{latch_at}
use Rattle.graph.proofs.Latches.{latch_kept}
use Rattle.renumber.specs.Renumber.{renamed, renamed_latch, edges_of, ends_of, latches_written, Lists, renumber}
use Rattle.renumber.specs.Entries.{SameEntries}
use Rattle.renumber.specs.Kept.{SameBefore, ListsKept}
use Rattle.output.proofs.Writing.{written_before}
use Rattle.renumber.proofs.Carrying.{renamed_row}

latches_before : (m : ℕ → ℕ) (out : List ℕ) (at : ℕ) (from : List ℕ) (n j : ℕ) → j < at → latch_at (latches_written m out at from n) j ≡ latch_at out j
unfolding latches_written
latches_before m out at from zero j l = refl
latches_before m out at from (suc n) j l =
    latch_kept (latches_written m out at from n) (at + n) (renamed_latch m (latch_at from n)) j (λ e. absurd (omega arith)) ∙ latches_before m out at from n j l

pub lists_kept : (m : ℕ → ℕ) (out : Lists) (at : Counts) (from : Lists) (n : Counts) → ListsKept at out (renumber m out at from n)
unfolding renumber
lists_kept m out at from n =
    record {
      latches = λ j l. latches_before m out.latches at.latches from.latches n.latches j l;
      constraints = λ j l. written_before out.constraints at.constraints (edges_of m from.constraints) n.constraints j l;
      bads = λ j l. written_before out.bads at.bads (edges_of m from.bads) n.bads j l;
      outputs = λ j l. written_before out.outputs at.outputs (edges_of m from.outputs) n.outputs j l;
      ends = λ j l. written_before out.ends at.sets (ends_of at.edges from.ends) n.sets j l;
      edges = λ j l. written_before out.edges at.edges (edges_of m from.edges) n.edges j l;
      fairness = λ j l. written_before out.fairness at.fairness (edges_of m from.fairness) n.fairness j l;
    }

-- ---- an edge to a used row stays one, where m sends used rows to used rows
module _ (m : ℕ → ℕ) (used used' : ℕ) (limit : used ≤ max_rows) (within : (i : ℕ) → i < used → m i < used') where
  pub renamed_used : (e : ℕ) → id_of e < used → id_of (renamed m e) < used'
  renamed_used e l = rw (renamed_row m e (λ (q : e ≡ none). absurd (omega arith))) (within (id_of e) l)

  -- the entries before, and those written
  pub entries_used : (before after from : List ℕ) (at n : ℕ) → SameBefore at before after → SameEntries m at from n after
      → ((j : ℕ) → j < at → id_of (get_or before j 0) < used') → ((j : ℕ) → j < n → id_of (get_or from j 0) < used)
      → (j : ℕ) → j < at + n → id_of (get_or after j 0) < used'
  entries_used before after from at n p q u v j l =
      ⊎_elim
      (λ (h : j < at). rw (p j h) (u j h))
      (λ (h : at ≤ j).
      let e : j ≡ at + (j - at) = omega arith in
      let k : j - at < n = omega arith in
      rw (ap (λ (x : ℕ). get_or after x 0) e ∙ q (j - at) k) (renamed_used (get_or from (j - at) 0) (v (j - at) k)))
      (lt_or_le j at)
