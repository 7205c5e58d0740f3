-- The two words of a row, as edges that a renumbering can take.
-- Assumes nothing.
use Prim.Native.Nat.{ℕ, ◌+◌, ◌*◌, ◌/◌, ◌≤◌, ◌<◌}
use native.Mathlib.Omega.{arith}
use mathlib.Core.Path.{◌≡◌}
use mathlib.Core.Bool.{true, ◌&&◌, ◌||◌}
use mathlib.Core.Logic.{◌⊎◌, inl, inr, ⊎_elim}
use mathlib.Core.List.{List}
use lib.ListN.{get_or}
use lib.Dec.{ltb, eqb}
use borrow.Author.Tests.{eqb-true}
use Rattle.edge.specs.Edges.{id_of}
use Rattle.edge.proofs.Tests.{both, either, lt_or_le}
use Rattle.rows.specs.Rows.{word0, word1, none, false_word, is_false_row, is_leaf, is_row, leaf_at, gate_at, row_at, AllRows}
use Rattle.rows.proofs.Laws.{gate_below}

-- the none word, or an edge to a used row
abbrev pub Reaches : ℕ → ℕ → Type 0
Reaches used e = (e ≡ none) ⊎ (id_of e < used)

-- a row behind row 0 is a leaf or a gate
pub leaf_or_gate : (rows : List ℕ) (i : ℕ) → 0 < i → row_at rows i ≡ true → (leaf_at rows i ≡ true) ⊎ (gate_at rows i ≡ true)
unfolding is_row is_false_row
leaf_or_gate rows i p g =
    ⊎_elim
    (λ h. ⊎_elim
    (λ z. let t = both {a = eqb i 0} {b = eqb (word0 rows i) false_word} (both {a = eqb i 0 && eqb (word0 rows i) false_word} {b = eqb (word1 rows i) 0} z).0 in absurd
    (omega (arith, eqb-true i 0 t.0))) (λ l. inl l) (either {a = is_false_row i (word0 rows i) (word1 rows i)} h)) (λ h. inr h)
    (either {a = is_false_row i (word0 rows i) (word1 rows i) || is_leaf i (word0 rows i) (word1 rows i)} g)

-- the words of a leaf
pub leaf_words : (i x y : ℕ) → is_leaf i x y ≡ true → (x ≡ none) × (y ≡ 0)
unfolding is_leaf
leaf_words i x y h =
    let t = both {a = ltb 0 i && eqb x none} {b = eqb y 0} h in
    (eqb-true x none (both {a = ltb 0 i} {b = eqb x none} t.0).1, eqb-true y 0 t.1)

module _ (rows : List ℕ) (used : ℕ) (good : AllRows rows used) where
  row_words : (i : ℕ) → 0 < i → i < used → Reaches used (word0 rows i) × Reaches used (word1 rows i)
  row_words i p l =
      ⊎_elim
      (λ (h : leaf_at rows i ≡ true). let t = leaf_words i (word0 rows i) (word1 rows i) h in (inl t.0, inr (omega (arith, t.1))))
      (λ (h : gate_at rows i ≡ true). let t = gate_below i (word0 rows i) (word1 rows i) h in (inr (omega (arith, t.0)), inr (omega (arith, t.1))))
      (leaf_or_gate rows i p (good i l))

  -- the words behind row 0
  pub words_reach : (k : ℕ) → 2 + k < 2 * used → Reaches used (get_or rows (2 + k) 0)
  words_reach k l =
      let i = (2 + k) / 2 in
      let t = row_words i (omega arith) (omega arith) in
      ⊎_elim
      (λ (h : 2 * i < 2 + k). let e : 2 + k ≡ 2 * i + 1 = omega arith in rw e t.1)
      (λ (h : 2 + k ≤ 2 * i). let e : 2 + k ≡ 2 * i = omega arith in rw e t.0)
      (lt_or_le (2 * i) (2 + k))
