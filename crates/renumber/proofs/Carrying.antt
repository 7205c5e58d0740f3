-- Rows that are carried over keep their values.
-- Assumes nothing.
use Prim.Native.Nat.{ℕ, zero, suc, ◌+◌, ◌*◌, ◌/◌, ◌%◌, ◌≤◌, ◌<◌}
use native.Mathlib.Omega.{arith}
use mathlib.Core.Path.{◌≡◌, sym, ap, ap₂, ◌∙◌}
use mathlib.Core.Bool.{Bool, true, ◌&&◌, ◌||◌, and_comm}
use mathlib.Core.Logic.{⊎_elim}
use mathlib.Core.List.{List}
use lib.Dec.{eqb}
use borrow.Author.Tests.{ne_eqb, eqb-true}
use Rattle.edge.specs.Edges.{id_of}
use Rattle.edge.specs.Meaning.{edge_value}
use Rattle.edge.proofs.Tests.{both, either}
use Rattle.rows.specs.Sizes.{max_rows}
use Rattle.rows.specs.Rows.{word0, word1, none, false_word, is_false_row, is_leaf, is_row, leaf_at, gate_at, AllRows}
use Rattle.rows.specs.Value.{value}
use Rattle.rows.proofs.Laws.{gate_below}
use Rattle.rows.proofs.Value.{value_gate, value_zero, value_leaf}
use Rattle.renumber.specs.Renumber.{renamed}
use Rattle.renumber.specs.Meaning.{Carried, SameValues}

-- ---- one edge
pub renamed_edge : (m : ℕ → ℕ) (e : ℕ) → (e ≡ none → ⊥) → renamed m e ≡ 2 * m (id_of e) + e % 2
unfolding renamed
renamed_edge m e n = rw (ne_eqb e none n)

pub renamed_row : (m : ℕ → ℕ) (e : ℕ) → (e ≡ none → ⊥) → id_of (renamed m e) ≡ m (id_of e)
renamed_row m e n = rw (renamed_edge m e n) (omega arith)

-- an edge keeps its value where its row does
pub renamed_value : (m : ℕ → ℕ) (v w : ℕ → Bool) (e : ℕ) → (e ≡ none → ⊥) → v (m (id_of e)) ≡ w (id_of e) → edge_value v (renamed m e) ≡ edge_value w e
unfolding edge_value
renamed_value m v w e n h =
    let p : (2 * m (e / 2) + e % 2) / 2 ≡ m (e / 2) = omega arith in
    let q : (2 * m (e / 2) + e % 2) % 2 ≡ e % 2 = omega arith in
    rw (renamed_edge m e n, p, q, h)

module _ (m : ℕ → ℕ) (Kept : ℕ → Type 0) (old : List ℕ) (used : ℕ) (new : List ℕ) (used' : ℕ) (c : Carried m Kept old used new used') (good : AllRows old used) (limit : used ≤ max_rows)
    (limit' : used' ≤ max_rows) where
  -- an edge to a used row is not the none word
  some : (e : ℕ) → id_of e < used → e ≡ none → ⊥
  some e l q = absurd (omega arith)

  module _ (leaf : ℕ → Bool) where
    abbrev leaf' : ℕ → Bool
    leaf' j = leaf (m j)

    edge_step : (e : ℕ) → id_of e < used → value new leaf (m (id_of e)) ≡ value old leaf' (id_of e) → edge_value (value new leaf) (renamed m e) ≡ edge_value (value old leaf') e
    edge_step e l h = renamed_value m (value new leaf) (value old leaf') e (some e l) h

    -- a row, where the kept rows below it agree
    row_step : (i : ℕ) → i < used → Kept i → ((j : ℕ) → j < i → Kept j → value new leaf (m j) ≡ value old leaf' j) → value new leaf (m i) ≡ value old leaf' i
    unfolding is_row is_false_row
    row_step i l k below =
        ⊎_elim (λ h. ⊎_elim zero_row leaf_row (either {a = is_false_row i (word0 old i) (word1 old i)} h)) gate_row
        (either {a = is_false_row i (word0 old i) (word1 old i) || is_leaf i (word0 old i) (word1 old i)} (good i l))
      where
        zero_row : is_false_row i (word0 old i) (word1 old i) ≡ true → value new leaf (m i) ≡ value old leaf' i
        zero_row h =
            let t = both {a = eqb i 0} {b = eqb (word0 old i) false_word} (both {a = eqb i 0 && eqb (word0 old i) false_word} {b = eqb (word1 old i) 0} h).0 in
            let z = eqb-true i 0 t.0 in
            rw (z, c.zero) (value_zero new leaf ∙ sym (value_zero old leaf'))

        leaf_row : leaf_at old i ≡ true → value new leaf (m i) ≡ value old leaf' i
        leaf_row h = value_leaf new used' leaf limit' (m i) (c.within i l k) (c.leaves i l k h) ∙ sym (value_leaf old used leaf' limit i l h)

        gate_row : gate_at old i ≡ true → value new leaf (m i) ≡ value old leaf' i
        gate_row h =
            let t = gate_below i (word0 old i) (word1 old i) h in
            let f = c.fanins i l k h in
            let g = c.gates i l k h in
            let l0 : id_of (word0 old i) < used = omega (arith, t.0) in
            let l1 : id_of (word1 old i) < used = omega (arith, t.1) in
            let p = edge_step (word0 old i) l0 (below (id_of (word0 old i)) t.0 f.0) in
            let q = edge_step (word1 old i) l1 (below (id_of (word1 old i)) t.1 f.1) in
            value_gate new leaf (m i) g.0 ∙
            (⊎_elim
            (λ (s : (word0 new (m i) ≡ renamed m (word0 old i)) × (word1 new (m i) ≡ renamed m (word1 old i))). ap₂ ◌&&◌ (ap (edge_value (value new leaf)) s.0 ∙ p)
            (ap (edge_value (value new leaf)) s.1 ∙ q))
            (λ (s : (word0 new (m i) ≡ renamed m (word1 old i)) × (word1 new (m i) ≡ renamed m (word0 old i))). and_comm (edge_value (value new leaf) (word0 new (m i)))
            (edge_value (value new leaf) (word1 new (m i))) ∙ ap₂ ◌&&◌ (ap (edge_value (value new leaf)) s.1 ∙ p) (ap (edge_value (value new leaf)) s.0 ∙ q)) g.1 ∙ sym
            (value_gate old leaf' i h))

    below : (n i : ℕ) → i < n → i < used → Kept i → value new leaf (m i) ≡ value old leaf' i
    below zero i b l k = absurd (omega arith)
    below (suc n) i b l k = row_step i l k (λ j d kj. below n j (omega arith) (omega arith) kj)

  pub same_values : SameValues m Kept old used new
  same_values =
      record {
        rows = λ leaf i l k. below leaf (suc i) i (omega arith) l k;
        edges = λ leaf e l k. edge_step leaf e l (below leaf (suc (id_of e)) (id_of e) (omega arith) l k);
      }
