-- The rows of the whole: those of the first graph, and those of the second further on.
-- Assumes nothing.
use Prim.Native.Nat.{ℕ, ◌+◌, ◌-◌, ◌*◌, ◌≤◌, ◌<◌}
use native.Mathlib.Omega.{arith}
use mathlib.Core.Path.{◌≡◌, refl, sym, ap, ap₂, ◌∙◌}
use mathlib.Core.Bool.{Bool, true, false, cond, ◌&&◌, ◌||◌}
use mathlib.Core.Logic.{inl, ⊎_elim}
use mathlib.Core.List.{List}
use lib.ListN.{get_or, drop}
use lib.Seq.{get_or-drop}
use lib.Dec.{eqb, ltb}
use borrow.Author.Tests.{ne_eqb, lt-ltb, ltb-true}
use Rattle.edge.specs.Edges.{id_of}
use Rattle.edge.proofs.Tests.{both, both_true, or_right, lt_or_le}
use Rattle.rows.specs.Sizes.{max_rows}
use Rattle.rows.specs.Rows.{word0, word1, none, is_false_row, is_leaf, is_gate, is_row, leaf_at, gate_at, row_at, AllRows}
use Rattle.rows.specs.Value.{value}
use Rattle.rows.proofs.Laws.{gate_below}
use Rattle.rows.proofs.Value.{local}
use Rattle.graph.specs.Graph.{Lent}
use Rattle.renumber.specs.Renumber.{renamed, edges_of}
use Rattle.renumber.specs.Kept.{SameBefore}
use Rattle.renumber.specs.Meaning.{Carried, SameValues}
use Rattle.output.proofs.Writing.{written_before, written_at_lem}
use Rattle.renumber.proofs.Carrying.{renamed_edge, same_values}
use Rattle.renumber.proofs.Rowing.{leaf_or_gate, leaf_words}
use Rattle.merge.specs.Merge.{shifted, offset, summed, merged, MergeLent}
use Rattle.merge.specs.Meaning.{UsedRow}
use Rattle.merge.proofs.Ready.{rows_room, few}

-- ---- one row
-- a leaf and a gate stand behind row 0
pub leaf_some : (i x y : ℕ) → is_leaf i x y ≡ true → 0 < i
unfolding is_leaf
leaf_some i x y h = ltb-true 0 i (both {a = ltb 0 i} {b = eqb x none} (both {a = ltb 0 i && eqb x none} {b = eqb y 0} h).0).0

gate_some : (i x y : ℕ) → is_gate i x y ≡ true → 0 < i
gate_some i x y h = omega (arith, (gate_below i x y h).0)

leaf_row : (i x y : ℕ) → is_leaf i x y ≡ true → is_row i x y ≡ true
unfolding is_row
leaf_row i x y h = rw (or_right (is_false_row i x y) h)

gate_row : (i x y : ℕ) → is_gate i x y ≡ true → is_row i x y ≡ true
unfolding is_row
gate_row i x y h = or_right (is_false_row i x y || is_leaf i x y) h

-- ---- the map
module _ (by : ℕ) where
  pub shifted_zero : shifted by 0 ≡ 0
  unfolding shifted
  shifted_zero = refl

  pub shifted_some : (i : ℕ) → 0 < i → shifted by i ≡ i + by
  unfolding shifted
  shifted_some i p = rw (ne_eqb i 0 (λ (e : i ≡ 0). absurd (omega arith)))

  pub shifted_most : (i : ℕ) → shifted by i ≤ i + by
  unfolding shifted
  shifted_most i = go (eqb i 0)
    where
      go : (t : Bool) → cond t 0 (i + by) ≤ i + by
      go true = omega arith
      go false = omega arith

  pub shifted_apart : (i j : ℕ) → shifted by i ≡ shifted by j → i ≡ j
  shifted_apart i j e =
      ⊎_elim
      (λ (p : 0 < i). ⊎_elim
      (λ (q : 0 < j). omega (arith, shifted_some i p, shifted_some j q))
      (λ (q : j ≤ 0). let z : j ≡ 0 = omega arith in absurd (omega (arith, shifted_some i p, ap (shifted by) z, shifted_zero)))
      (lt_or_le 0 j))
      (λ (p : i ≤ 0). let z : i ≡ 0 = omega arith in ⊎_elim
      (λ (q : 0 < j). absurd (omega (arith, shifted_some j q, ap (shifted by) z, shifted_zero)))
      (λ (q : j ≤ 0). omega arith)
      (lt_or_le 0 j))
      (lt_or_le 0 i)

  -- ---- a row under it
  leaf_shifted : (i x y : ℕ) → is_leaf i x y ≡ true → is_leaf (shifted by i) (renamed (shifted by) x) (renamed (shifted by) y) ≡ true
  unfolding is_leaf renamed shifted
  leaf_shifted i x y h =
      let t = leaf_words i x y h in
      let p = leaf_some i x y h in
      rw (t.0, t.1, ne_eqb i 0 (λ (e : i ≡ 0). absurd (omega arith)), lt-ltb 0 (i + by) (omega arith))

  edge_below : (i x : ℕ) → i ≤ max_rows → x < 2 * i → renamed (shifted by) x < 2 * (i + by)
  edge_below i x l h =
      rw (renamed_edge (shifted by) x (λ (e : x ≡ none). absurd (omega arith))) (omega (arith, shifted_most (id_of x)))

  gate_shifted : (i x y : ℕ) → i ≤ max_rows → is_gate i x y ≡ true → is_gate (shifted by i) (renamed (shifted by) x) (renamed (shifted by) y) ≡ true
  unfolding is_gate
  gate_shifted i x y l h =
      let t = both {a = ltb x (2 * i)} {b = ltb y (2 * i)} h in
      let u = ltb-true x (2 * i) t.0 in
      let v = ltb-true y (2 * i) t.1 in
      rw (shifted_some i (omega arith)) (both_true {a = ltb (renamed (shifted by) x) (2 * (i + by))} (lt-ltb _ _ (edge_below i x l u)) (lt-ltb _ _ (edge_below i y l v)))

module _ (a b : Lent) (marks : ℕ) (l : MergeLent a b marks) where
  abbrev rows : List ℕ
  rows = (merged a b).rows

  abbrev m : ℕ → ℕ
  m = shifted (offset a)

  abbrev used : ℕ
  used = b.counts.rows

  some : 0 < a.counts.rows
  some = l.sized.first.rows.some

  some' : 0 < used
  some' = l.sized.second.rows.some

  few_second : used ≤ max_rows
  few_second = omega (arith, l.sized.second.rows.fit.within, l.sized.second.rows.fit.limited)

  pub used_all : (merged a b).counts.rows ≡ a.counts.rows + used - 1
  unfolding merged summed
  used_all = refl

  pub few_all : (merged a b).counts.rows ≤ max_rows
  few_all = omega (arith, used_all, few a b marks l, some, some')

  pub within : (i : ℕ) → i < used → m i < (merged a b).counts.rows
  within i h =
      ⊎_elim (λ (p : 0 < i). omega (arith, shifted_some (offset a) i p, used_all, some))
      (λ (p : i ≤ 0). let z : i ≡ 0 = omega arith in omega (arith, ap m z, shifted_zero (offset a), used_all, some, some')) (lt_or_le 0 i)

  pub behind : (i : ℕ) → 0 < i → a.counts.rows ≤ m i
  behind i p = omega (arith, shifted_some (offset a) i p, some)

  -- ---- the words
  pub first_words : SameBefore (2 * a.counts.rows) a.rows rows
  unfolding merged
  first_words k h = written_before a.rows (2 * a.counts.rows) (edges_of m (drop 2 b.rows)) (2 * (used - 1)) k h

  second_word : (k : ℕ) → 2 + k < 2 * used → get_or rows (2 * a.counts.rows + k) 0 ≡ renamed m (get_or b.rows (2 + k) 0)
  unfolding merged
  second_word k h =
      written_at_lem a.rows (2 * a.counts.rows) (edges_of m (drop 2 b.rows)) (2 * (used - 1)) k (omega (arith, rows_room a b.counts l.room, some, some')) (omega arith)
      ∙ ap (renamed m) (get_or-drop 2 b.rows k 0)

  module _ (i : ℕ) (p : 0 < i) (h : i < used) where
    word_0 : word0 rows (m i) ≡ renamed m (word0 b.rows i)
    word_0 =
        let e : 2 * m i ≡ 2 * a.counts.rows + (2 * i - 2) = omega (arith, shifted_some (offset a) i p, some) in
        let q : 2 + (2 * i - 2) ≡ 2 * i = omega arith in
        ap (λ (k : ℕ). get_or rows k 0) e ∙ (second_word (2 * i - 2) (omega arith) ∙ ap (λ (k : ℕ). renamed m (get_or b.rows k 0)) q)

    word_1 : word1 rows (m i) ≡ renamed m (word1 b.rows i)
    word_1 =
        let e : 2 * m i + 1 ≡ 2 * a.counts.rows + (2 * i - 1) = omega (arith, shifted_some (offset a) i p, some) in
        let q : 2 + (2 * i - 1) ≡ 2 * i + 1 = omega arith in
        ap (λ (k : ℕ). get_or rows k 0) e ∙ (second_word (2 * i - 1) (omega arith) ∙ ap (λ (k : ℕ). renamed m (get_or b.rows k 0)) q)

  -- ---- the rows of the second
  pub second_leaf : (i : ℕ) → i < used → leaf_at b.rows i ≡ true → leaf_at rows (m i) ≡ true
  second_leaf i h g =
      let p = leaf_some i (word0 b.rows i) (word1 b.rows i) g in
      ap₂ (is_leaf (m i)) (word_0 i p h) (word_1 i p h) ∙ leaf_shifted (offset a) i (word0 b.rows i) (word1 b.rows i) g

  second_gate : (i : ℕ) → i < used → gate_at b.rows i ≡ true → gate_at rows (m i) ≡ true
  second_gate i h g =
      let p = gate_some i (word0 b.rows i) (word1 b.rows i) g in
      ap₂ (is_gate (m i)) (word_0 i p h) (word_1 i p h) ∙ gate_shifted (offset a) i (word0 b.rows i) (word1 b.rows i) (omega (arith, few_second)) g

  pub carried : Carried m (UsedRow b) b.rows used rows (merged a b).counts.rows
  carried =
      record {
        zero = shifted_zero (offset a);
        within = λ i h k. within i h;
        leaves = λ i h k g. second_leaf i h g;
        gates = λ i h k g. let p = gate_some i (word0 b.rows i) (word1 b.rows i) g in (second_gate i h g, inl (word_0 i p h, word_1 i p h));
        fanins = λ i h k g. let t = gate_below i (word0 b.rows i) (word1 b.rows i) g in (omega (arith, t.0), omega (arith, t.1));
      }

  pub second_values : SameValues m (UsedRow b) b.rows used rows
  second_values = same_values m (UsedRow b) b.rows used rows (merged a b).counts.rows carried l.second.rows few_second few_all

  -- ---- the rows of the first
  first_0 : (i : ℕ) → i < a.counts.rows → word0 rows i ≡ word0 a.rows i
  first_0 i h = first_words (2 * i) (omega arith)

  first_1 : (i : ℕ) → i < a.counts.rows → word1 rows i ≡ word1 a.rows i
  first_1 i h = first_words (2 * i + 1) (omega arith)

  pub first_leaf : (i : ℕ) → i < a.counts.rows → leaf_at a.rows i ≡ true → leaf_at rows i ≡ true
  first_leaf i h g = ap₂ (is_leaf i) (first_0 i h) (first_1 i h) ∙ g

  pub first_values : (leaf : ℕ → Bool) (i : ℕ) → i < a.counts.rows → value rows leaf i ≡ value a.rows leaf i
  first_values leaf i h =
      (local rows a.rows leaf leaf).by_rows_up_to i
      (λ (j : ℕ) (k : j ≤ i). record { first = first_0 j (omega arith); second = first_1 j (omega arith); chosen = λ g. refl })

  -- ---- all rows
  pub all_rows : AllRows rows (merged a b).counts.rows
  all_rows i h = ⊎_elim first second (lt_or_le i a.counts.rows)
    where
      first : i < a.counts.rows → row_at rows i ≡ true
      first k = ap₂ (is_row i) (first_0 i k) (first_1 i k) ∙ l.first.rows i k

      second : a.counts.rows ≤ i → row_at rows i ≡ true
      second k =
          let j = i - offset a in
          let p : 0 < j = omega (arith, some) in
          let u : j < used = omega (arith, used_all, some) in
          let e : m j ≡ i = omega (arith, shifted_some (offset a) j p, some) in
          ap (row_at rows) (sym e)
          ∙ ⊎_elim
          (λ (g : leaf_at b.rows j ≡ true). leaf_row (m j) (word0 rows (m j)) (word1 rows (m j)) (second_leaf j u g))
          (λ (g : gate_at b.rows j ≡ true). gate_row (m j) (word0 rows (m j)) (word1 rows (m j)) (second_gate j u g))
          (leaf_or_gate b.rows j p (l.second.rows j u))
