-- Laws of the loops.
-- Assumes nothing.
use Prim.Native.Nat.{ℕ, suc, ◌+◌, ◌≤◌, ◌<◌}
use native.Mathlib.Omega.{arith}
use native.Mathlib.Numerals.{add-one}
use mathlib.Core.Path.{◌≡◌, refl, sym, ap, ◌∙◌}
use mathlib.Core.Bool.{true, false, cond}
use mathlib.Core.List.{List}
use Rattle.edge.specs.Edges.{id_of}
use Rattle.rows.specs.Sizes.{max_rows}
use Rattle.rows.specs.Rows.{none, word0, word1, gate_at}
use Rattle.rows.proofs.Laws.{gate_below}
use Rattle.gates.specs.declared.Grown.{Grown}
use Rattle.gates.specs.Gates.{State, state_of, row_added, add_gate}
use Rattle.renumber.specs.Renumber.{renamed}
use Rattle.renumber.specs.Steps.{Known, MappedEdge}
use Rattle.reencode.specs.Rebuilding.{leaves_added, gate_added}

-- ---- leaves
pub leaves_turn : (out : List ℕ) (i : ℕ) {now after : List ℕ} → now ≡ leaves_added out i → after ≡ row_added now (i + 1) none 0 → after ≡ leaves_added out (i + 1)
unfolding leaves_added
leaves_turn out i e w = let s : i + 1 ≡ suc i = add-one i in w ∙ (ap (λ (x : List ℕ). row_added x (i + 1) none 0) e ∙ ap (λ (k : ℕ). leaves_added out k) (sym s))

-- ---- a gate
module _ (rows : List ℕ) (i : ℕ) where
  pub gate_mapped : gate_at rows i ≡ true → (marks : List ℕ) → i ≤ max_rows → ((j : ℕ) → j < i → Known marks j) → MappedEdge marks (word0 rows i) × MappedEdge marks (word1 rows i)
  gate_mapped g marks l k =
      let b = gate_below i (word0 rows i) (word1 rows i) g in
      (record { edge = omega (arith, b.0); known = k (id_of (word0 rows i)) b.0 }, record { edge = omega (arith, b.1); known = k (id_of (word1 rows i)) b.1 })

  module _ (m : ℕ → ℕ) (k : ℕ) (out : List ℕ) where
    pub gate_passed : gate_at rows i ≡ false → out ≡ gate_added m rows i k out
    unfolding gate_added
    gate_passed g = rw g refl

    pub gate_rebuilt : gate_at rows i ≡ true → {x y : ℕ} {after : List ℕ} {r : Grown} → x ≡ renamed m (word0 rows i) → y ≡ renamed m (word1 rows i) → state_of after r ≡ add_gate out k x y
        → (r.used ≡ cond (gate_at rows i) (k + 1) k) × (after ≡ gate_added m rows i k out)
    unfolding gate_added add_gate
    gate_rebuilt g p q s = rw g (ap (λ (w : State). w.used) s, ap (λ (w : State). w.rows) (rw (p, q) at s))
