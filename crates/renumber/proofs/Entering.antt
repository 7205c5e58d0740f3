-- Every entry of every renumbered list stands where it belongs.
-- Assumes nothing.
use Prim.Native.Nat.{ℕ, zero, suc, ◌+◌, ◌*◌, ◌≤◌, ◌<◌}
use native.Mathlib.Omega.{arith}
use native.Mathlib.Nat.{eq-or-lt_of_le}
use mathlib.Core.Path.{◌≡◌, ◌∙◌}
use mathlib.Core.Logic.{⊎_elim}
use mathlib.Core.List.{List}
use lib.ListN.{length}
use Rattle.graph.specs.declared.Counts.{Counts}
use Rattle.graph.specs.Latches.{latch_words, latch_at}
use Rattle.graph.proofs.Latches.{latch_kept, latch_set_at}
use Rattle.renumber.specs.Renumber.{renamed_latch, edges_of, ends_of, latches_written, Lists, renumber}
use Rattle.renumber.specs.Steps.{ListsRoom}
use Rattle.renumber.specs.Entries.{Renumbered}
use Rattle.output.proofs.Writing.{written_at_lem}
use Rattle.renumber.proofs.Writing.{latches_length}

-- ---- the latches
pub latches_at : (m : ℕ → ℕ) (out : List ℕ) (at : ℕ) (from : List ℕ) (n j : ℕ) → latch_words * (at + n) ≤ length out → j < n
    → latch_at (latches_written m out at from n) (at + j) ≡ renamed_latch m (latch_at from j)
unfolding latches_written
latches_at m out at from zero j r l = absurd (omega arith)
latches_at m out at from (suc n) j r l =
    ⊎_elim
    (λ (e : suc j ≡ suc n). let q : j ≡ n = omega arith in rw q
    (latch_set_at (latches_written m out at from n) (at + n) (renamed_latch m (latch_at from n)) (omega (arith, latches_length m out at from n))))
    (λ (h : suc j < suc n). latch_kept (latches_written m out at from n) (at + n) (renamed_latch m (latch_at from n)) (at + j) (λ e. absurd (omega arith)) ∙ latches_at m out at from n j
    (omega arith) (omega arith)) (eq-or-lt_of_le l)

-- ---- all lists
pub renumbered : (m : ℕ → ℕ) (out : Lists) (at : Counts) (from : Lists) (n : Counts) → ListsRoom out at n → Renumbered m at from n (renumber m out at from n)
unfolding renumber
renumbered m out at from n r =
    record {
      latches = λ j l. latches_at m out.latches at.latches from.latches n.latches j r.latches l;
      constraints = λ j l. written_at_lem out.constraints at.constraints (edges_of m from.constraints) n.constraints j r.constraints l;
      bads = λ j l. written_at_lem out.bads at.bads (edges_of m from.bads) n.bads j r.bads l;
      outputs = λ j l. written_at_lem out.outputs at.outputs (edges_of m from.outputs) n.outputs j r.outputs l;
      ends = λ j l. written_at_lem out.ends at.sets (ends_of at.edges from.ends) n.sets j r.ends l;
      edges = λ j l. written_at_lem out.edges at.edges (edges_of m from.edges) n.edges j r.edges l;
      fairness = λ j l. written_at_lem out.fairness at.fairness (edges_of m from.fairness) n.fairness j r.fairness l;
    }
