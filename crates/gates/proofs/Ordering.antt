-- Laws of the order of a gate's two edges. Where another proof needs the order, it cites `ordered`, or the laws of an added row in `Growing`.
-- Assumes nothing.
use Prim.Native.Nat.{ℕ, ◌≤◌, ◌<◌}
use native.Mathlib.Omega.{arith}
use mathlib.Core.Path.{◌≡◌, refl}
use mathlib.Core.Bool.{Bool, true, false, cond}
use mathlib.Core.Logic.{inl, inr, ⊎_elim}
use lib.Dec.{ltb}
use borrow.Author.Tests.{ltb-true, ltb-false}
use Rattle.edge.specs.Edges.{id_of}
use Rattle.gates.specs.Gates.{Ordered, first, second}

pub ordered : (a b : ℕ) → Ordered a b (first a b) (second a b)
unfolding first second
ordered a b = go (ltb (id_of b) (id_of a)) refl
  where
    go : (t : Bool) → ltb (id_of b) (id_of a) ≡ t → Ordered a b (cond t b a) (cond t a b)
    go true h =
        let l = ltb-true (id_of b) (id_of a) h in
        record { sorted = omega arith; either = inr (refl, refl); stay = λ (s : id_of a ≤ id_of b). absurd (omega arith) }
    go false h = record { sorted = ltb-false (id_of b) (id_of a) h; either = inl (refl, refl); stay = λ s. (refl, refl) }

-- what is true of both edges, in any order, is true of them in order
pub both_ordered : (P : ℕ → ℕ → Type 0) (a b : ℕ) → P a b → P b a → P (first a b) (second a b)
both_ordered P a b p q =
    ⊎_elim
    (λ (e : (first a b ≡ a) × (second a b ≡ b)). rw (e.0, e.1) p)
    (λ (e : (first a b ≡ b) × (second a b ≡ a)). rw (e.0, e.1) q)
    (ordered a b).either

pub order_used : (used a b : ℕ) → id_of a < used → id_of b < used → (id_of (first a b) < used) × (id_of (second a b) < used)
order_used used a b p q = both_ordered (λ (x y : ℕ). (id_of x < used) × (id_of y < used)) a b (p, q) (q, p)
