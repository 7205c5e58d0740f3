-- Laws of the rows of a frame.
-- Assumes nothing.
use Prim.Native.Nat.{ℕ, zero, suc, ◌+◌, ◌-◌, ◌*◌, ◌≤◌, ◌<◌}
use native.Mathlib.Omega.{arith}
use mathlib.Core.Path.{◌≡◌, refl, ap, ◌∙◌}
use mathlib.Core.Bool.{Bool, true, false, cond, ◌&&◌, ◌||◌}
use mathlib.Core.Logic.{⊎_elim}
use mathlib.Core.List.{List}
use lib.ListN.{length, get_or, set, length-set}
use lib.Dec.{ltb, eqb}
use borrow.Author.Tests.{le-ltb, eqb-true, eq-eqb, ne_eqb}
use Rattle.edge.proofs.Tests.{both, either}
use Rattle.rows.specs.Sizes.{max_rows}
use Rattle.rows.specs.Rows.{false_word, none, word0, word1, is_false_row, is_leaf, is_gate, is_row, row_at, gate_at}
use Rattle.gates.specs.Gates.{State, add_and, leaf_added}
use Rattle.gates.proofs.Building.{row_long as row_added_long, and_sized, and_like}
use Rattle.graph.specs.declared.Counts.{Counts}
use Rattle.frame.specs.Map.{mapped, start_map}
use Rattle.frame.specs.Frame.{Frame, frame, gate_placed, leaf_placed, frame_row, frame_rows, frame_of}

-- ---- of rows a gate alone has a first word that is an edge's
module _ (from : List ℕ) (i : ℕ) where
  pub first_gate_lem : row_at from i ≡ true → word0 from i < false_word → gate_at from i ≡ true
  unfolding is_row is_false_row is_leaf
  first_gate_lem r l =
      ⊎_elim
      (λ h. ⊎_elim
      (λ z. absurd
      (omega (
        arith,
        l,
        eqb-true (word0 from i) false_word (both {a = eqb i 0} {b = eqb (word0 from i) false_word} (both {a = eqb i 0 && eqb (word0 from i) false_word} {b = eqb (word1 from i) 0} z).0).1,
      )))
      (λ z. absurd
      (omega (arith, l, eqb-true (word0 from i) none (both {a = ltb 0 i} {b = eqb (word0 from i) none} (both {a = ltb 0 i && eqb (word0 from i) none} {b = eqb (word1 from i) 0} z).0).1)))
      (either {a = is_false_row i (word0 from i) (word1 from i)} h)) (λ k. k) (either {a = is_false_row i (word0 from i) (word1 from i) || is_leaf i (word0 from i) (word1 from i)} r)

  pub else_no_gate : i ≤ max_rows → 2 * max_rows ≤ word0 from i → gate_at from i ≡ false
  unfolding is_gate
  else_no_gate few l = rw (le-ltb (word0 from i) (2 * i) (omega arith))

-- ---- one row, by its kind
module _ (from : List ℕ) (i : ℕ) (s : Frame) where
  abbrev pub gate_of : State
  gate_of = add_and s.rows s.used (mapped s.map (word0 from i)) (mapped s.map (word1 from i))

  module _ (g : gate_at from i ≡ true) where
    pub row_gate : {x y : ℕ} → x ≡ mapped s.map (word0 from i) → y ≡ mapped s.map (word1 from i) → (t : State) → t ≡ add_and s.rows s.used x y → gate_placed t s i ≡ frame_row from i s
    unfolding frame_row
    row_gate p q t e = rw (g, e, p, q)

  module _ (g : gate_at from i ≡ false) where
    pub row_leaf : get_or s.map i 0 ≡ none → {rows inputs : List ℕ} → rows ≡ leaf_added s.rows s.used → inputs ≡ set s.inputs s.listed s.used
        → frame rows (s.used + 1) inputs (s.listed + 1) (set s.map i (2 * s.used)) ≡ frame_row from i s
    unfolding frame_row
    row_leaf n p q = rw (g, eq-eqb (get_or s.map i 0) none n, p, q)

    pub row_stays : (get_or s.map i 0 ≡ none → ⊥) → s ≡ frame_row from i s
    unfolding frame_row
    row_stays n = rw (g, ne_eqb (get_or s.map i 0) none n)

  -- which of the three it is
  abbrev pub by_kind : Bool → Bool → Frame
  by_kind t u = cond t (gate_placed gate_of s i) (cond u (leaf_placed s i) s)

  pub kind_of : frame_row from i s ≡ by_kind (gate_at from i) (eqb (get_or s.map i 0) none)
  unfolding frame_row
  kind_of = refl

  -- ---- how much a row takes, and that no list changes its length
  pub record Turn (t : Frame) : Type 0 where
    pub more : s.used ≤ t.used
    pub most : t.used ≤ s.used + 1
    pub listed_more : s.listed ≤ t.listed
    pub listed_most : t.listed ≤ s.listed + 1
    pub rows_long : length t.rows ≡ length s.rows
    pub inputs_long : length t.inputs ≡ length s.inputs
    pub map_long : length t.map ≡ length s.map

  pub turn : Turn (frame_row from i s)
  turn = rw kind_of (go (gate_at from i) (eqb (get_or s.map i 0) none))
    where
      go : (t u : Bool) → Turn (by_kind t u)
      go true u =
          let z = and_sized s.rows s.used (mapped s.map (word0 from i)) (mapped s.map (word1 from i)) in
          record { more = z.more; most = z.most; listed_more = omega arith; listed_most = omega arith; rows_long = z.long; inputs_long = refl; map_long = length-set s.map i gate_of.edge }
      go false true =
          record {
            more = omega arith;
            most = omega arith;
            listed_more = omega arith;
            listed_most = omega arith;
            rows_long = row_added_long s.rows s.used none 0;
            inputs_long = length-set s.inputs s.listed s.used;
            map_long = length-set s.map i (2 * s.used);
          }
      go false false = record { more = omega arith; most = omega arith; listed_more = omega arith; listed_most = omega arith; rows_long = refl; inputs_long = refl; map_long = refl }

  pub turned : (t : Frame) → t ≡ frame_row from i s → Turn t
  turned t e = rw e turn

-- ---- folding looks at edges only: what is used, what is listed and the map do not hang on rows and inputs
pub record Same (s t : Frame) : Type 0 where
  pub used : s.used ≡ t.used
  pub listed : s.listed ≡ t.listed
  pub map : s.map ≡ t.map

row_same :
    (from : List ℕ) (i : ℕ) (x y : List ℕ) (used : ℕ) (v w : List ℕ) (listed : ℕ) (map : List ℕ) → Same (frame_row from i (frame x used v listed map))
    (frame_row from i (frame y used w listed map))
unfolding frame_row
row_same from i x y used v w listed map = go (gate_at from i) (eqb (get_or map i 0) none)
  where
    go : (t u : Bool) → Same (by_kind from i (frame x used v listed map) t u) (by_kind from i (frame y used w listed map) t u)
    go true u =
        let h = and_like x y used (mapped map (word0 from i)) (mapped map (word1 from i)) in
        record { used = h.used; listed = refl; map = ap (λ (e : ℕ). set map i e) h.edge }
    go false true = record { used = refl; listed = refl; map = refl }
    go false false = record { used = refl; listed = refl; map = refl }

pub rows_same : (from : List ℕ) (n i : ℕ) (s t : Frame) → Same s t → Same (frame_rows from i n s) (frame_rows from i n t)
unfolding frame_rows
rows_same from zero i s t h = h
rows_same from (suc n) i s t h =
    rows_same from n (i + 1) (frame_row from i s) (frame_row from i t)
    (rw (h.used, h.listed, h.map) (row_same from i s.rows t.rows t.used s.inputs t.inputs t.listed t.map))

-- ---- a loop over the rows
module _ (from : List ℕ) (n i : ℕ) (s whole : Frame) (inv : frame_rows from i (n - i) s ≡ whole) where
  pub rows_end : n ≤ i → s ≡ whole
  unfolding frame_rows
  rows_end l = let e : n - i ≡ 0 = omega arith in rw e at inv

  pub rows_turn : i < n → (t : Frame) → t ≡ frame_row from i s → frame_rows from (i + 1) (n - (i + 1)) t ≡ whole
  unfolding frame_rows
  rows_turn l t e = let q : n - i ≡ suc (n - (i + 1)) = omega arith in rw e (rw q at inv)

-- ---- no list changes its length
pub rows_map_long : (from : List ℕ) (n i : ℕ) (s : Frame) → length (frame_rows from i n s).map ≡ length s.map
unfolding frame_rows
rows_map_long from zero i s = refl
rows_map_long from (suc n) i s = rows_map_long from n (i + 1) (frame_row from i s) ∙ (turn from i s).map_long

-- the whole, from the map at the start
pub framed_from : (rows inputs : List ℕ) (at : Counts) (latches from : List ℕ) (n : ℕ) {map : List ℕ} {s : Frame} → map ≡ start_map latches at.latches n → length map ≡ n
    → s ≡ frame_rows from 0 (length map) (frame rows at.rows inputs at.inputs map) → s ≡ frame_of rows inputs at latches from n
unfolding frame_of
framed_from rows inputs at latches from n {map} p q e =
    e ∙ (ap (λ (k : ℕ). frame_rows from 0 k (frame rows at.rows inputs at.inputs map)) q ∙ ap (λ (m : List ℕ). frame_rows from 0 n (frame rows at.rows inputs at.inputs m)) p)
