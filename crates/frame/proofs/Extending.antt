-- The rows and inputs of a frame grow out of those that were there, and every row is mapped to a used edge.
-- Assumes nothing.
use Prim.Native.Nat.{ℕ, zero, suc, ◌+◌, ◌*◌, ◌≤◌, ◌<◌}
use native.Mathlib.Omega.{arith}
use native.Mathlib.Nat.{eq-or-lt_of_le}
use mathlib.Core.Path.{◌≡◌, refl, sym, ap, ◌∙◌}
use mathlib.Core.Bool.{Bool, true, false}
use mathlib.Core.Logic.{◌⊎◌, inl, inr, ⊎_elim}
use mathlib.Core.List.{List}
use lib.ListN.{length, get_or, set, replicate, get_or-replicate, length-set, length-replicate}
use lib.Seq.{get_or-set_same, get_or-set_other}
use lib.Dec.{eqb}
use borrow.Author.Tests.{eqb-true, eqb-false}
use Rattle.edge.specs.Edges.{id_of, is_complemented}
use Rattle.edge.proofs.Tests.{lt_or_le}
use Rattle.rows.specs.Sizes.{rows_lent}
use Rattle.rows.specs.Rows.{none, word0, word1, leaf_at, gate_at}
use Rattle.rows.proofs.Laws.{gate_below}
use Rattle.graph.specs.Latches.{latch_at}
use Rattle.gates.specs.Gates.{state}
use Rattle.gates.specs.Meaning.{Grows}
use Rattle.gates.proofs.Growing.{leaf_here, leaf_row, row_first, row_second, row_grows, and_grows, grows_on, grows_none, grows_with, signed_id}
use Rattle.frame.specs.Map.{mapped, nexts_mapped, start_map}
use Rattle.frame.specs.Frame.{Frame, gate_placed, leaf_placed, frame_row, frame_rows}
use Rattle.frame.specs.Meaning.{NewLeaf, Extends, MapUsed}
use Rattle.frame.proofs.Mapping.{nexts_mapped_length}
use Rattle.frame.proofs.Framing.{gate_of, by_kind, kind_of, turn}

-- ---- growing on
pub extends_none : (s : Frame) → 0 < s.used → Extends s s
extends_none s some =
    record {
      rows = grows_none s.rows s.used 0 some;
      inputs_long = refl;
      more = omega arith;
      kept = λ j l. refl;
      new = λ j h l. absurd (omega arith);
      rise = λ j k h l m. absurd (omega arith);
    }

-- a leaf that was there is there still
leaf_kept : (o s : Frame) → Extends o s → (x : ℕ) → x < o.used → leaf_at o.rows x ≡ true → leaf_at s.rows x ≡ true
leaf_kept o s e x l h = rw (e.rows.kept (2 * x) (omega arith), e.rows.kept (2 * x + 1) (omega arith)) h

pub extends_on : (o s t : Frame) → Extends o s → Extends s t → Extends o t
extends_on o s t e f =
    record {
      rows = grows_on o.rows o.used (state s.rows s.used 0) (state t.rows t.used 0) e.rows f.rows;
      inputs_long = f.inputs_long ∙ e.inputs_long;
      more = omega (arith, e.more, f.more);
      kept = λ j l. f.kept j (omega (arith, e.more)) ∙ e.kept j l;
      new = λ j h l. ⊎_elim (λ (m : j < s.listed). rw (f.kept j m) (older j h m)) (λ (m : s.listed ≤ j). newer j (f.new j m l)) (lt_or_le j s.listed);
      rise = λ j k h l m. ⊎_elim (λ (p : k < s.listed). early j k h l p) (λ (p : s.listed ≤ k). late j k h l m p) (lt_or_le k s.listed);
    }
  where
    older : (j : ℕ) → o.listed ≤ j → j < s.listed → NewLeaf o.used t (get_or s.inputs j 0)
    older j h m =
        let n = e.new j h m in
        record { behind = n.behind; below = omega (arith, n.below, f.rows.more); leaf = leaf_kept s t f (get_or s.inputs j 0) n.below n.leaf }

    newer : (j : ℕ) → NewLeaf s.used t (get_or t.inputs j 0) → NewLeaf o.used t (get_or t.inputs j 0)
    newer j n = record { behind = omega (arith, n.behind, e.rows.more); below = n.below; leaf = n.leaf }

    early : (j k : ℕ) → o.listed ≤ j → j < k → k < s.listed → get_or t.inputs j 0 < get_or t.inputs k 0
    early j k h l p = rw (f.kept j (omega arith), f.kept k p) (e.rise j k h l p)

    late : (j k : ℕ) → o.listed ≤ j → j < k → k < t.listed → s.listed ≤ k → get_or t.inputs j 0 < get_or t.inputs k 0
    late j k h l m p =
        ⊎_elim
        (λ (q : j < s.listed). rw (f.kept j q) (omega (arith, (e.new j h q).below, (f.new k p m).behind)))
        (λ (q : s.listed ≤ j). f.rise j k q l m)
        (lt_or_le j s.listed)

-- ---- one row
module _ (from : List ℕ) (i : ℕ) (s : Frame) (some : 0 < s.used) (has : i < length s.map) (sound : MapUsed i s) where
  -- an edge to a row below
  pub below_used : (e : ℕ) → id_of e < i → id_of (mapped s.map e) < s.used
  unfolding mapped
  below_used e l =
      rw (signed_id (is_complemented e) (get_or s.map (id_of e) 0))
      (⊎_elim (λ (t : (i ≤ id_of e) × (get_or s.map (id_of e) 0 ≡ none)). absurd (omega (arith, t.0))) (λ u. u) (sound (id_of e) (omega arith)))

  pub gate_grown : gate_at from i ≡ true → (gate_of from i s).used ≤ rows_lent s.rows → Grows s.rows s.used (gate_of from i s)
  gate_grown g room =
      let t = gate_below i (word0 from i) (word1 from i) g in
      and_grows s.rows s.used (mapped s.map (word0 from i)) (mapped s.map (word1 from i)) some (below_used (word0 from i) t.0) (below_used (word1 from i) t.1) room

  -- row i is mapped to a used edge
  placed : (e : ℕ) (t : Frame) → t.map ≡ set s.map i e → s.used ≤ t.used → id_of e < t.used → MapUsed (i + 1) t
  placed e t q more u x l = rw q (go (lt_or_le x i))
    where
      old : (x ≡ i → ⊥) → ((i + 1 ≤ x) × (get_or (set s.map i e) x 0 ≡ none)) ⊎ (id_of (get_or (set s.map i e) x 0) < t.used)
      old n =
          let k : x < length s.map = omega (arith, ap length q, length-set s.map i e) in
          let p = get_or-set_other s.map i x e 0 n in
          ⊎_elim
          (λ (v : (i ≤ x) × (get_or s.map x 0 ≡ none)). ⊎_elim (λ (z : i ≡ x). absurd (n (sym z))) (λ (z : i < x). inl (omega arith, p ∙ v.1)) (eq-or-lt_of_le v.0))
          (λ (v : id_of (get_or s.map x 0) < s.used). inr (rw p (omega arith)))
          (sound x k)

      go : (x < i) ⊎ (i ≤ x) → ((i + 1 ≤ x) × (get_or (set s.map i e) x 0 ≡ none)) ⊎ (id_of (get_or (set s.map i e) x 0) < t.used)
      go (inl h) = old (λ (z : x ≡ i). absurd (omega arith))
      go (inr h) =
          ⊎_elim
          (λ (z : i ≡ x). inr (rw (← z, get_or-set_same s.map i e 0 has) u))
          (λ (z : i < x). old (λ (y : x ≡ i). absurd (omega arith)))
          (eq-or-lt_of_le h)

  pub row_step : (frame_row from i s).used ≤ rows_lent s.rows → (frame_row from i s).listed ≤ length s.inputs → Extends s (frame_row from i s) × MapUsed (i + 1) (frame_row from i s)
  row_step = rw (kind_of from i s) (go (gate_at from i) refl (eqb (get_or s.map i 0) none) refl)
    where
      go : (t : Bool) → gate_at from i ≡ t → (u : Bool) → eqb (get_or s.map i 0) none ≡ u → (by_kind from i s t u).used ≤ rows_lent s.rows → (by_kind from i s t u).listed ≤ length s.inputs
          → Extends s (by_kind from i s t u) × MapUsed (i + 1) (by_kind from i s t u)
      go true g u h room free =
          let w = gate_grown g room in (
            record {
              rows = grows_with s.rows s.used (gate_of from i s) 0 w (omega (arith, w.more));
              inputs_long = refl;
              more = omega arith;
              kept = λ j l. refl;
              new = λ j k l. absurd (omega arith);
              rise = λ j k m l n. absurd (omega arith);
            },
            placed (gate_of from i s).edge (gate_placed (gate_of from i s) s i) refl w.more w.edge,
          )
      go false g true h room free =
          let r : s.used + 1 ≤ rows_lent s.rows = room in
          let w = row_grows s.rows s.used none 0 r (leaf_row s.used some) in
          let here = get_or-set_same s.inputs s.listed s.used 0 (omega arith) in (
            record {
              rows = grows_with s.rows s.used _ 0 w (omega arith);
              inputs_long = length-set s.inputs s.listed s.used;
              more = omega arith;
              kept = λ j l. get_or-set_other s.inputs s.listed j s.used 0 (λ (z : j ≡ s.listed). absurd (omega arith));
              new = λ j k l.
                  let z : j ≡ s.listed = omega arith in
                  rw (z, here)
                  (record { behind = omega arith; below = omega arith; leaf = rw (row_first s.rows s.used none 0 r, row_second s.rows s.used none 0 r) (leaf_here s.used some) });
              rise = λ j k m l n. absurd (omega arith);
            },
            placed (2 * s.used) (leaf_placed s i) refl (omega arith) (omega arith),
          )
      go false g false h room free = (
        extends_none s some,
        λ x l. ⊎_elim
            (λ (v : (i ≤ x) × (get_or s.map x 0 ≡ none)). ⊎_elim (λ (z : i ≡ x). absurd (eqb-false (get_or s.map i 0) none h (rw (← z) at v.1))) (λ (z : i < x). inl (omega arith, v.1))
            (eq-or-lt_of_le v.0)) (λ v. inr v) (sound x l),
      )

-- ---- all rows
pub rows_more : (from : List ℕ) (n i : ℕ) (s : Frame) → (s.used ≤ (frame_rows from i n s).used) × (s.listed ≤ (frame_rows from i n s).listed)
unfolding frame_rows
rows_more from zero i s = (omega arith, omega arith)
rows_more from (suc n) i s =
    let t = turn from i s in
    let r = rows_more from n (i + 1) (frame_row from i s) in
    (omega (arith, t.more, r.0), omega (arith, t.listed_more, r.1))

pub rows_step :
    (from : List ℕ) (n i k : ℕ) (s : Frame) → i + n ≡ k → 0 < s.used → k ≤ length s.map → MapUsed i s → (frame_rows from i n s).used ≤ rows_lent s.rows → (frame_rows from i n s).listed ≤
    length s.inputs → Extends s (frame_rows from i n s) × MapUsed k (frame_rows from i n s)
unfolding frame_rows
rows_step from zero i k s e some long sound room free = let q : i ≡ k = omega arith in (extends_none s some, rw q at sound)
rows_step from (suc n) i k s e some long sound room free =
    let t = turn from i s in
    let m = rows_more from n (i + 1) (frame_row from i s) in
    let w = row_step from i s some (omega arith) sound (omega (arith, m.0)) (omega (arith, m.1)) in
    let r = rows_step from n (i + 1) k (frame_row from i s) (omega arith) (omega (arith, t.more)) (omega (arith, t.map_long)) w.1 (rw t.rows_long room) (rw t.inputs_long free) in
    (extends_on s (frame_row from i s) (frame_rows from (i + 1) n (frame_row from i s)) w.0 r.0, r.1)

-- ---- the map at the start
module _ (used : ℕ) (latches : List ℕ) where
  abbrev Entry : ℕ → Type 0
  Entry e = (e ≡ none) ⊎ (id_of e < used)

  set_entry : (l : List ℕ) (i e : ℕ) → Entry e → ((x : ℕ) → x < length l → Entry (get_or l x 0)) → (x : ℕ) → x < length l → Entry (get_or (set l i e) x 0)
  set_entry l i e p h x k = go (eqb x i) refl
    where
      go : (t : Bool) → eqb x i ≡ t → Entry (get_or (set l i e) x 0)
      go true z = let q = eqb-true x i z in rw (q, get_or-set_same l i e 0 (omega arith)) p
      go false z = rw (get_or-set_other l i x e 0 (eqb-false x i z)) (h x k)

  nexts_entry : (n : ℕ) (map : List ℕ) → ((j : ℕ) → j < n → id_of (latch_at latches j).next < used) → ((x : ℕ) → x < length map → Entry (get_or map x 0))
      → (x : ℕ) → x < length map → Entry (get_or (nexts_mapped latches n map) x 0)
  unfolding nexts_mapped
  nexts_entry zero map u h x l = h x l
  nexts_entry (suc n) map u h x l =
      set_entry (nexts_mapped latches n map) (latch_at latches n).input (latch_at latches n).next (inr (u n (omega arith)))
      (λ y k. nexts_entry n map (λ j m. u j (omega arith)) h y (omega (arith, nexts_mapped_length latches n map))) x (omega (arith, nexts_mapped_length latches n map))

  pub start_used :
      (n rows : ℕ) → 0 < used → ((j : ℕ) → j < n → id_of (latch_at latches j).next < used) → (x : ℕ) → x < length (start_map latches n rows) → Entry (get_or (start_map latches n rows) x 0)
  unfolding start_map
  start_used n rows some u x l =
      nexts_entry n (set (replicate rows none) 0 0) u
      (λ y k. set_entry (replicate rows none) 0 0 (inr some) (λ z m. inl (get_or-replicate {A = ℕ} rows z none 0 (omega (arith, length-replicate {A = ℕ} rows none)))) y
      (omega (arith, length-set (replicate rows none) 0 0))) x (omega (arith, nexts_mapped_length latches n (set (replicate rows none) 0 0)))
