-- Laws of the recognisers: what each test of the code comes to in the definitions.
-- Assumes nothing.
use Prim.Native.Nat.{ℕ}
use mathlib.Core.Bool.{Bool, true, false, not, ◌&&◌, ◌||◌, and-false}
use mathlib.Core.Path.{◌≡◌, ◌∙◌}
use mathlib.Core.List.{List}
use lib.Dec.{eqb}
use borrow.Author.Tests.{eq-eqb, ne_eqb, not-true, not-false}
use Rattle.edge.specs.Edges.{id_of, is_complemented, complement}
use Rattle.rows.specs.Rows.{word0, word1, gate_at}
use Rattle.gate_clauses.specs.declared.Shape.{Shape}
use Rattle.gate_clauses.specs.declared.Shape.TheVariants.{Plain, Xor, Ite}
use Rattle.gate_clauses.specs.Shapes.{is_xor, ite_or, pairing, recognised, shape_of}

-- x is compared with y, which is the complement of e
pub equal : (x e : ℕ) {y : ℕ} → y ≡ complement e → x ≡ y → eqb x (complement e) ≡ true
equal x e p h = eq-eqb x (complement e) (h ∙ p)

pub unequal : (x e : ℕ) {y : ℕ} → y ≡ complement e → (x ≡ y → ⊥) → eqb x (complement e) ≡ false
unequal x e p h = rw (← p) (ne_eqb x _ h)

-- ---- if-then-else
module _ (plain : Shape) (c t e : ℕ) {i j k : ℕ} (pi : i ≡ id_of c) (pj : j ≡ id_of t) (pk : k ≡ id_of e) where
  pub ite_not : eqb i j || eqb i k || eqb j k ≡ true → plain ≡ ite_or plain c t e
  unfolding ite_or
  ite_not h = rw (← pi, ← pj, ← pk, h)

  pub ite_is : eqb i j || eqb i k || eqb j k ≡ false → Ite c t e ≡ ite_or plain c t e
  unfolding ite_or
  ite_is h = rw (← pi, ← pj, ← pk, h)

-- the pairings one by one; x and y are the operands
module _ (plain : Shape) (a b c d : ℕ) where
  module _ {r : Shape} {x y : ℕ} where
    pub pairs₁ : eqb a (complement c) ≡ true → x ≡ complement b → y ≡ complement d → r ≡ ite_or plain a x y → r ≡ pairing plain a b c d
    unfolding pairing
    pairs₁ h p q e = e ∙ rw (h, p, q)

    pub pairs₂ : eqb a (complement c) ≡ false → eqb a (complement d) ≡ true → x ≡ complement b → y ≡ complement c → r ≡ ite_or plain a x y → r ≡ pairing plain a b c d
    unfolding pairing
    pairs₂ h₁ h p q e = e ∙ rw (h₁, h, p, q)

    pub pairs₃ : eqb a (complement c) ≡ false → eqb a (complement d) ≡ false → eqb b (complement c) ≡ true → x ≡ complement a → y ≡ complement d → r ≡ ite_or plain b x y → r ≡ pairing plain a b c d
    unfolding pairing
    pairs₃ h₁ h₂ h p q e = e ∙ rw (h₁, h₂, h, p, q)

    pub pairs₄ :
        eqb a (complement c) ≡ false → eqb a (complement d) ≡ false → eqb b (complement c) ≡ false → eqb b (complement d) ≡ true → x ≡ complement a → y ≡ complement c → r ≡ ite_or plain b x y
        → r ≡ pairing plain a b c d
    unfolding pairing
    pairs₄ h₁ h₂ h₃ h p q e = e ∙ rw (h₁, h₂, h₃, h, p, q)

  pub pairs_not : eqb a (complement c) ≡ false → eqb a (complement d) ≡ false → eqb b (complement c) ≡ false → eqb b (complement d) ≡ false → plain ≡ pairing plain a b c d
  unfolding pairing
  pairs_not h₁ h₂ h₃ h₄ = rw (h₁, h₂, h₃, h₄)

  module _ {t : Bool} (p : t ≡ is_xor a b c d) where
    pub xor_first : t ≡ true → Xor a b ≡ recognised plain a b c d
    unfolding recognised
    xor_first h = rw (← p, h)

    pub then_ite : t ≡ false → {r : Shape} → r ≡ pairing plain a b c d → r ≡ recognised plain a b c d
    unfolding recognised
    then_ite h e = e ∙ rw (← p, h)

-- ---- the shape of a gate
module _ (shortcuts : Bool) (rows : List ℕ) (f g : ℕ) where
  pub shape_off : not shortcuts ≡ true → Plain f g ≡ shape_of shortcuts rows f g
  unfolding shape_of
  shape_off h = rw (not-true shortcuts h)

  module _ {s t u v : Bool} (ps : s ≡ is_complemented f) (pt : t ≡ gate_at rows (id_of f)) (pu : u ≡ is_complemented g) (pv : v ≡ gate_at rows (id_of g)) where
    pub shape_plain : not ((s && t) && (u && v)) ≡ true → Plain f g ≡ shape_of shortcuts rows f g
    unfolding shape_of
    shape_plain h = rw (← ps, ← pt, ← pu, ← pv, not-true ((s && t) && (u && v)) h, and-false)

    pub shape_inner : not shortcuts ≡ false → not ((s && t) && (u && v)) ≡ false → {r : Shape}
        → r ≡ recognised (Plain f g) (word0 rows (id_of f)) (word1 rows (id_of f)) (word0 rows (id_of g)) (word1 rows (id_of g)) → r ≡ shape_of shortcuts rows f g
    unfolding shape_of
    shape_inner o h e = e ∙ rw (not-false shortcuts o, ← ps, ← pt, ← pu, ← pv, not-false ((s && t) && (u && v)) h)
