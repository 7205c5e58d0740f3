-- Laws of values: they obey the paper's rules, nothing else does, and they hang on the cone alone.
-- Assumes nothing.
use Prim.Native.Nat.{ℕ, zero, suc, ◌*◌, ◌/◌, ◌≤◌, ◌<◌}
use native.Mathlib.Omega.{arith}
use mathlib.Core.Path.{◌≡◌, refl, sym, ap, ap₂, ◌∙◌}
use mathlib.Core.List.{List}
use mathlib.Core.Logic.{⊎_elim}
use mathlib.Core.Bool.{Bool, true, false, cond, not, ◌&&◌, ◌||◌}
use lib.Dec.{eqb, ltb}
use borrow.Author.Tests.{eqb-true, le-ltb}
use Rattle.edge.specs.Edges.{id_of, is_complemented}
use Rattle.edge.specs.Meaning.{edge_value}
use Rattle.edge.proofs.Tests.{both, either}
use Rattle.rows.specs.Sizes.{max_rows}
use Rattle.rows.specs.Rows.{word0, word1, false_word, none, is_false_row, is_leaf, is_gate, is_row, leaf_at, gate_at, AllRows}
use Rattle.rows.specs.Value.{Obeys, row_value, value_below, value, Values, InCone, Agree, Local}
use Rattle.rows.specs.Value.InCone.{here, by0, by1}
use Rattle.rows.proofs.Laws.{gate_below}

-- ---- a row's value hangs on the rows below it alone
pub row_same : (leaf v w : ℕ → Bool) (i a b : ℕ) → ((j : ℕ) → j < i → v j ≡ w j) → row_value leaf v i a b ≡ row_value leaf w i a b
unfolding row_value edge_value
row_same leaf v w i a b h = go (is_gate i a b) refl
  where
    go : (t : Bool) → is_gate i a b ≡ t
        → cond t (edge_value v a && edge_value v b) (cond (is_leaf i a b) (leaf i) false) ≡ cond t (edge_value w a && edge_value w b) (cond (is_leaf i a b) (leaf i) false)
    go true e = let t = gate_below i a b e in rw (h (a / 2) t.0, h (b / 2) t.1)
    go false e = refl

module _ (rows : List ℕ) (leaf : ℕ → Bool) where
  stable : (n m i : ℕ) → i < n → n ≤ m → value_below rows leaf m i ≡ value_below rows leaf n i
  unfolding value_below
  stable zero m i l h = absurd (omega arith)
  stable (suc n) zero i l h = absurd (omega arith)
  stable (suc n) (suc m) i l h =
      row_same leaf (value_below rows leaf m) (value_below rows leaf n) i (word0 rows i) (word1 rows i) (λ j k. stable n m j (omega arith) (omega arith))

  -- the value of a row, by those of the rows below it
  pub value_row : (i : ℕ) → value rows leaf i ≡ row_value leaf (value rows leaf) i (word0 rows i) (word1 rows i)
  unfolding value value_below
  value_row i =
      row_same leaf (value_below rows leaf i) (value rows leaf) i (word0 rows i) (word1 rows i) (λ j k. stable (suc j) i j (omega arith) (omega arith))

  -- a gate, and another row
  pub value_gate : (i : ℕ) → gate_at rows i ≡ true → value rows leaf i ≡ edge_value (value rows leaf) (word0 rows i) && edge_value (value rows leaf) (word1 rows i)
  unfolding row_value
  value_gate i g = value_row i ∙ rw g

  pub value_other : (i : ℕ) → gate_at rows i ≡ false → value rows leaf i ≡ cond (leaf_at rows i) (leaf i) false
  unfolding row_value
  value_other i g = value_row i ∙ rw g

  pub value_zero : value rows leaf 0 ≡ false
  unfolding row_value is_gate is_leaf
  value_zero = value_row 0 ∙ rw (le-ltb (word0 rows 0) 0 (omega arith))

-- ---- the rules
-- a leaf within the limit is no gate
pub leaf_no_gate : (i a b : ℕ) → i ≤ max_rows → is_leaf i a b ≡ true → is_gate i a b ≡ false
unfolding is_leaf is_gate
leaf_no_gate i a b l h =
    let t = both {a = ltb 0 i && eqb a none} {b = eqb b 0} h in
    let u = both {a = ltb 0 i} {b = eqb a none} t.0 in
    let q = eqb-true a none u.1 in
    let m : 2 * i ≤ a = omega arith in
    rw (le-ltb a (2 * i) m)

module _ (rows : List ℕ) (used : ℕ) (leaf : ℕ → Bool) (limit : used ≤ max_rows) where
  pub value_leaf : (i : ℕ) → i < used → leaf_at rows i ≡ true → value rows leaf i ≡ leaf i
  value_leaf i l h = value_other rows leaf i (leaf_no_gate i (word0 rows i) (word1 rows i) (omega arith) h) ∙ rw h

  value_obeys : Obeys rows used leaf (value rows leaf)
  value_obeys = record { constant = value_zero rows leaf; leaves = value_leaf; gates = λ i l g. value_gate rows leaf i g }

  module _ (good : AllRows rows used) (v : ℕ → Bool) (o : Obeys rows used leaf v) where
    -- a row, where the rows below it agree
    only_step : (i : ℕ) → i < used → ((j : ℕ) → j < i → v j ≡ value rows leaf j) → v i ≡ value rows leaf i
    unfolding is_row is_false_row edge_value
    only_step i l below =
        ⊎_elim (λ h. ⊎_elim zero_row leaf_row (either {a = is_false_row i (word0 rows i) (word1 rows i)} h)) gate_row
        (either {a = is_false_row i (word0 rows i) (word1 rows i) || is_leaf i (word0 rows i) (word1 rows i)} (good i l))
      where
        zero_row : is_false_row i (word0 rows i) (word1 rows i) ≡ true → v i ≡ value rows leaf i
        zero_row h =
            let t = both {a = eqb i 0} {b = eqb (word0 rows i) false_word} (both {a = eqb i 0 && eqb (word0 rows i) false_word} {b = eqb (word1 rows i) 0} h).0 in
            let z = eqb-true i 0 t.0 in
            rw z (o.constant ∙ sym (value_zero rows leaf))

        leaf_row : leaf_at rows i ≡ true → v i ≡ value rows leaf i
        leaf_row h = o.leaves i l h ∙ sym (value_leaf i l h)

        gate_row : gate_at rows i ≡ true → v i ≡ value rows leaf i
        gate_row h =
            let t = gate_below i (word0 rows i) (word1 rows i) h in
            o.gates i l h ∙ (rw (below (word0 rows i / 2) t.0, below (word1 rows i / 2) t.1) refl ∙ sym (value_gate rows leaf i h))

    only_below : (n i : ℕ) → i < n → i < used → v i ≡ value rows leaf i
    only_below zero i k l = absurd (omega arith)
    only_below (suc n) i k l = only_step i l (λ j m. only_below n j (omega arith) (omega arith))

  -- within the limit, the value of the rows of a table obeys the rules and nothing else does
  pub values : AllRows rows used → Values rows used leaf
  values good = record { obeys = value_obeys; only = λ v o i l. only_below good v o (suc i) i (omega arith) l }

-- ---- the cone
module _ (rows other : List ℕ) (leaf leaf' : ℕ → Bool) where
  edge_same : (e e' : ℕ) → e ≡ e' → value rows leaf (e / 2) ≡ value other leaf' (e / 2) → edge_value (value rows leaf) e ≡ edge_value (value other leaf') e'
  unfolding edge_value
  edge_same e e' q p = ap (λ (b : Bool). cond (is_complemented e) (not b) b) p ∙ ap (edge_value (value other leaf')) q

  local_step : (i : ℕ) → ((j : ℕ) → InCone rows j i → Agree rows other leaf leaf' j)
      → ((k : ℕ) → k < i → ((j : ℕ) → InCone rows j k → Agree rows other leaf leaf' j) → value rows leaf k ≡ value other leaf' k)
      → value rows leaf i ≡ value other leaf' i
  local_step i a below = go (gate_at rows i) refl
    where
      same : gate_at rows i ≡ gate_at other i
      same = ap₂ (is_gate i) (a i here).first (a i here).second

      same_leaf : leaf_at rows i ≡ leaf_at other i
      same_leaf = ap₂ (is_leaf i) (a i here).first (a i here).second

      leaves : (t : Bool) → leaf_at rows i ≡ t → cond t (leaf i) false ≡ cond t (leaf' i) false
      leaves true h = (a i here).chosen h
      leaves false h = refl

      go : (t : Bool) → gate_at rows i ≡ t → value rows leaf i ≡ value other leaf' i
      go false g = value_other rows leaf i g ∙ (leaves (leaf_at rows i) refl ∙ (ap (λ (t : Bool). cond t (leaf' i) false) same_leaf ∙ sym (value_other other leaf' i (sym same ∙ g))))
      go true g =
          let h = gate_below i (word0 rows i) (word1 rows i) g in
          value_gate rows leaf i g
          ∙ (ap₂ ◌&&◌
          (edge_same _ _ (a i here).first (below (id_of (word0 rows i)) h.0 (λ j r. a j (by0 g r))))
          (edge_same _ _ (a i here).second (below (id_of (word1 rows i)) h.1 (λ j r. a j (by1 g r))))
          ∙ sym (value_gate other leaf' i (sym same ∙ g)))

  local_below : (n i : ℕ) → i < n → ((j : ℕ) → InCone rows j i → Agree rows other leaf leaf' j) → value rows leaf i ≡ value other leaf' i
  local_below zero i l a = absurd (omega arith)
  local_below (suc n) i l a = local_step i a (λ k lt. local_below n k (omega arith))

  by_cone : (i : ℕ) → ((j : ℕ) → InCone rows j i → Agree rows other leaf leaf' j) → value rows leaf i ≡ value other leaf' i
  by_cone i = local_below (suc i) i (omega arith)

-- the cone of a row stands at it and below
pub cone_below : (rows : List ℕ) (j : ℕ) {i : ℕ} → InCone rows j i → j ≤ i
cone_below rows j here = omega arith
cone_below rows j (by0 {i} g r) = omega (arith, cone_below rows j r, (gate_below i (word0 rows i) (word1 rows i) g).0)
cone_below rows j (by1 {i} g r) = omega (arith, cone_below rows j r, (gate_below i (word0 rows i) (word1 rows i) g).1)

pub local : (rows other : List ℕ) (leaf leaf' : ℕ → Bool) → Local rows other leaf leaf'
local rows other leaf leaf' =
    record { by_cone = by_cone rows other leaf leaf'; by_rows_up_to = λ i a. by_cone rows other leaf leaf' i (λ j r. a j (cone_below rows j r)) }
