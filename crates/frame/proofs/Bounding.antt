-- Laws of the most that a frame can take: folding only saves rows, and every new input is a leaf that the map has no edge for at the start.
-- Assumes nothing.
use Prim.Native.Nat.{ℕ, zero, suc, ◌+◌, ◌-◌, ◌*◌, ◌≤◌, ◌<◌}
use native.Mathlib.Omega.{arith}
use mathlib.Core.Path.{◌≡◌, refl, sym, ap, ◌∙◌}
use mathlib.Core.Bool.{Bool, true, false, cond, ◌&&◌, ◌||◌}
use mathlib.Core.Logic.{⊎_elim}
use mathlib.Core.List.{List, []}
use lib.ListN.{length, get_or, set, take}
use lib.Seq.{get_or-set_other}
use lib.Dec.{eqb, ltb}
use borrow.Author.Tests.{eqb-true}
use Rattle.edge.proofs.Tests.{both, both_true, either, false_true}
use Rattle.rows.specs.Rows.{none, false_word, word0, word1, is_false_row, is_leaf, is_gate, is_row, row_at, gate_at, AllRows}
use Rattle.rows.proofs.Laws.{gate_below}
use Rattle.graph.specs.declared.Counts.{Counts}
use Rattle.graph.specs.Latches.{latch_at}
use Rattle.graph.specs.Graph.{Lent}
use Rattle.output.specs.Room.{fits_in, Fits}
use Rattle.output.proofs.Fitting.{fits_known, fits_true}
use Rattle.frame.specs.Map.{start_map}
use Rattle.frame.specs.Frame.{Frame, frame, frame_row, frame_rows, frame_of, raised}
use Rattle.frame.specs.Steps.{need_of, new_leaf, new_leaves, most_of}
use Rattle.frame.specs.Steps.{Bounded}
use Rattle.frame.specs.Call.{FrameReady}
use Rattle.frame.proofs.Framing.{gate_of, by_kind, kind_of, turn, row_stays}
use Rattle.frame.proofs.Ready.{as_many, same_input, started_map, started_long}
use Rattle.frame.proofs.Valuing.{start_zero, leaf_some}

-- ---- the new leaves, counted
bit_most : (t : Bool) → cond t 1 0 ≤ 1
bit_most true = omega arith
bit_most false = omega arith

leaves_most : (from map : List ℕ) (n i : ℕ) → new_leaves from map i n ≤ n
unfolding new_leaves
leaves_most from map zero i = omega arith
leaves_most from map (suc n) i = omega (arith, bit_most (new_leaf from map i), leaves_most from map n (i + 1))

-- a loop that counts them
pub leaves_start : (from map : List ℕ) (n : ℕ) → 0 + new_leaves from map 0 (n - 0) ≡ new_leaves from map 0 n
leaves_start from map n = let e : n - 0 ≡ n = omega arith in rw e (omega arith)

module _ (from map : List ℕ) (n i count whole : ℕ) (inv : count + new_leaves from map i (n - i) ≡ whole) where
  pub leaves_ended : n ≤ i → count ≡ whole
  unfolding new_leaves
  leaves_ended l =
      let e : n - i ≡ 0 = omega arith in
      let h : count + new_leaves from map i 0 ≡ whole = rw e at inv in
      omega (arith, h)

  module _ (l : i < n) where
    step : new_leaves from map i (n - i) ≡ cond (new_leaf from map i) 1 0 + new_leaves from map (i + 1) (n - (i + 1))
    unfolding new_leaves
    step = let q : n - i ≡ suc (n - (i + 1)) = omega arith in rw q

    pub leaves_one : new_leaf from map i ≡ true → {now : ℕ} → now ≡ count + 1 → now + new_leaves from map (i + 1) (n - (i + 1)) ≡ whole
    leaves_one t {now} e =
        let h : new_leaves from map i (n - i) ≡ 1 + new_leaves from map (i + 1) (n - (i + 1)) = step ∙ ap (λ (u : Bool). cond u 1 0 + new_leaves from map (i + 1) (n - (i + 1))) t in
        omega (arith, h, inv, e)

    pub leaves_no : new_leaf from map i ≡ false → {now : ℕ} → now ≡ count → now + new_leaves from map (i + 1) (n - (i + 1)) ≡ whole
    leaves_no t {now} e =
        let h : new_leaves from map i (n - i) ≡ 0 + new_leaves from map (i + 1) (n - (i + 1)) = step ∙ ap (λ (u : Bool). cond u 1 0 + new_leaves from map (i + 1) (n - (i + 1))) t in
        omega (arith, h, inv, e)

pub one_more : (count i : ℕ) → count ≤ i → {now : ℕ} → now ≡ count + 1 → now ≤ i + 1
one_more count i l e = omega (arith, l, e)

pub no_more : (count i : ℕ) → count ≤ i → {now : ℕ} → now ≡ count → now ≤ i + 1
no_more count i l e = omega (arith, l, e)

-- what an earlier row is mapped to does not matter
leaves_set : (from map : List ℕ) (i x n k : ℕ) → i < k → new_leaves from (set map i x) k n ≡ new_leaves from map k n
unfolding new_leaves
leaves_set from map i x zero k l = refl
leaves_set from map i x (suc n) k l = rw (get_or-set_other map i k x 0 (λ (e : k ≡ i). absurd (omega arith)), leaves_set from map i x n (k + 1) (omega arith))

-- ---- a row that is no gate
leaf_word : (i a b : ℕ) → is_row i a b ≡ true → is_gate i a b ≡ false → 0 < i → a ≡ none
unfolding is_row is_false_row is_leaf
leaf_word i a b r g p =
    ⊎_elim
    (λ (h : is_false_row i a b || is_leaf i a b ≡ true). ⊎_elim zero_row leaf_row (either {a = is_false_row i a b} {b = is_leaf i a b} h))
    (λ (h : is_gate i a b ≡ true). absurd (false_true (sym g ∙ h)))
    (either {a = is_false_row i a b || is_leaf i a b} {b = is_gate i a b} r)
  where
    zero_row : is_false_row i a b ≡ true → a ≡ none
    zero_row h =
        let e = eqb-true i 0 (both {a = eqb i 0} {b = eqb a false_word} (both {a = eqb i 0 && eqb a false_word} {b = eqb b 0} h).0).0 in
        absurd (omega (arith, e))

    leaf_row : is_leaf i a b ≡ true → a ≡ none
    leaf_row h = eqb-true a none (both {a = ltb 0 i} {b = eqb a none} (both {a = ltb 0 i && eqb a none} {b = eqb b 0} h).0).1

zero_no_gate : (from : List ℕ) → gate_at from 0 ≡ false
zero_no_gate from = go (gate_at from 0) refl
  where
    go : (t : Bool) → gate_at from 0 ≡ t → t ≡ false
    go true e = absurd (omega (arith, (gate_below 0 (word0 from 0) (word1 from 0) e).0))
    go false e = refl

-- ---- a row takes an input only where it is a new leaf
module _ (from : List ℕ) (i : ℕ) (s : Frame) where
  turn_listed : row_at from i ≡ true → 0 < i → (frame_row from i s).listed ≤ s.listed + cond (new_leaf from s.map i) 1 0
  turn_listed r p = rw (kind_of from i s) (go (gate_at from i) refl (eqb (get_or s.map i 0) none) refl)
    where
      go : (t : Bool) → gate_at from i ≡ t → (u : Bool) → eqb (get_or s.map i 0) none ≡ u → (by_kind from i s t u).listed ≤ s.listed + cond (new_leaf from s.map i) 1 0
      go true g u e = omega arith
      go false g true e =
          let w : eqb (word0 from i) none ≡ true = rw (leaf_word i (word0 from i) (word1 from i) r g p) refl in
          let z : new_leaf from s.map i ≡ true = both_true w e in
          rw z (omega arith)
      go false g false e = omega arith

  turn_leaves : (n : ℕ) → new_leaves from (frame_row from i s).map (i + 1) n ≡ new_leaves from s.map (i + 1) n
  turn_leaves n = rw (kind_of from i s) (go (gate_at from i) (eqb (get_or s.map i 0) none))
    where
      go : (t u : Bool) → new_leaves from (by_kind from i s t u).map (i + 1) n ≡ new_leaves from s.map (i + 1) n
      go true u = leaves_set from s.map i (gate_of from i s).edge n (i + 1) (omega arith)
      go false true = leaves_set from s.map i (2 * s.used) n (i + 1) (omega arith)
      go false false = refl

-- ---- all rows behind row 0, and then all
rows_most : (from : List ℕ) (n i : ℕ) (s : Frame) → 0 < i → ((k : ℕ) → i ≤ k → k < i + n → row_at from k ≡ true)
    → ((frame_rows from i n s).used ≤ s.used + n) × ((frame_rows from i n s).listed ≤ s.listed + new_leaves from s.map i n)
unfolding frame_rows new_leaves
rows_most from zero i s p r = (omega arith, omega arith)
rows_most from (suc n) i s p r =
    let h = rows_most from n (i + 1) (frame_row from i s) (omega arith) (λ k l m. r k (omega arith) (omega arith)) in
    (omega (arith, h.0, (turn from i s).most), omega (arith, h.1, turn_listed from i s (r i (omega arith) (omega arith)) p, turn_leaves from i s n))

frame_most : (from : List ℕ) (n : ℕ) (s : Frame) → 0 < n → get_or s.map 0 0 ≡ 0 → AllRows from n
    → ((frame_rows from 0 n s).used ≤ s.used + (n - 1)) × ((frame_rows from 0 n s).listed ≤ s.listed + new_leaves from s.map 0 n)
unfolding frame_rows new_leaves
frame_most from zero s p z r = absurd (omega arith)
frame_most from (suc n) s p z r =
    let e : frame_row from 0 s ≡ s = sym (row_stays from 0 s (zero_no_gate from) (λ (q : get_or s.map 0 0 ≡ none). absurd (omega (arith, q, z)))) in
    let h = rows_most from n 1 s (omega arith) (λ k l m. r k (omega arith)) in
    let u : (frame_rows from 0 (suc n) s).used ≡ (frame_rows from 1 n s).used = ap (λ (f : Frame). (frame_rows from 1 n f).used) e in
    let v : (frame_rows from 0 (suc n) s).listed ≡ (frame_rows from 1 n s).listed = ap (λ (f : Frame). (frame_rows from 1 n f).listed) e in
    let w : new_leaves from s.map 0 (suc n) ≡ cond (new_leaf from s.map 0) 1 0 + new_leaves from s.map 1 n = refl in
    (omega (arith, h.0, u), omega (arith, h.1, v, w))

-- ---- the need is within the most
module _ (at : Counts) (latches from : List ℕ) (n : Counts) (some : 0 < n.rows) (b : Bounded latches at.latches from n.rows) where
  abbrev need : Counts
  need = need_of at latches from n

  abbrev most : Counts
  most = most_of at latches from n

  within : (need.rows ≤ most.rows) × (need.inputs ≤ most.inputs)
  unfolding frame_of raised
  within =
      let s = frame [] at.rows [] at.inputs (start_map latches at.latches n.rows) in
      let z = start_zero latches at.latches n.rows some (λ j l e. absurd (omega (arith, b.behind j l, e))) in
      frame_most from n.rows s some z b.rows

  room_kept : (room : Counts) → Fits room most → Fits room need
  unfolding raised
  room_kept room r =
      record {
        rows = omega (arith, within.0, r.rows);
        inputs = omega (arith, within.1, r.inputs);
        latches = r.latches;
        constraints = r.constraints;
        bads = r.bads;
        outputs = r.outputs;
        ends = r.ends;
        edges = r.edges;
        fairness = r.fairness;
      }

  pub most_fits : (room : Counts) {m : Counts} → m ≡ most → fits_in room m ≡ true → true ≡ fits_in room need
  most_fits room e h = sym (fits_true room need (room_kept room (fits_known room most (ap (fits_in room) (sym e) ∙ h))))

-- ---- the most, as it is counted: `map` is the map at the start
module _ (a b : Lent) (marks : List ℕ) (h : b.counts.rows ≤ length marks) {map : List ℕ} (e : map ≡ start_map a.latches a.counts.latches (length (take b.counts.rows marks)))
    {leaves : ℕ} (w : leaves ≡ new_leaves b.rows map 0 (length map)) where
  pub leaves_few : leaves ≤ b.counts.rows
  leaves_few = omega (arith, leaves_most b.rows map (length map) 0, started_long a b marks refl h e, w)

  pub most_told : {r : Counts} → r ≡ raised a.counts b.counts (a.counts.rows + (b.counts.rows - 1)) (a.counts.inputs + leaves) → r ≡ most_of a.counts a.latches b.rows b.counts
  most_told z =
      let v : leaves ≡ new_leaves b.rows (start_map a.latches a.counts.latches b.counts.rows) 0 b.counts.rows
      = w ∙ (ap (new_leaves b.rows map 0) (started_long a b marks refl h e) ∙ ap (λ (m : List ℕ). new_leaves b.rows m 0 b.counts.rows) (started_map a b marks refl h e)) in
      z ∙ ap (λ (x : ℕ). raised a.counts b.counts (a.counts.rows + (b.counts.rows - 1)) (a.counts.inputs + x)) v

-- ---- a frame that can be added is bounded
pub bounded : (a b : Lent) (marks : ℕ) → FrameReady a b marks → Bounded a.latches a.counts.latches b.rows b.counts.rows
bounded a b marks r =
    record {
      rows = r.from_formed.rows;
      behind = λ j l.
          let k : j < b.counts.latches = rw (sym (as_many a b r.start)) l in
          let x = (latch_at b.latches j).input in
          rw (same_input a b r.start j k) (leaf_some x (word0 b.rows x) (word1 b.rows x) (r.from_formed.latches j k).1);
    }
