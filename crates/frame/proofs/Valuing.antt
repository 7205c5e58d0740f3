-- What a frame means: its map, and the values of mapped edges.
-- Assumes nothing.
use Prim.Native.Nat.{ℕ, zero, suc, ◌+◌, ◌*◌, ◌/◌, ◌%◌, ◌≤◌, ◌<◌}
use native.Mathlib.Omega.{arith}
use native.Mathlib.Nat.{eq-or-lt_of_le}
use mathlib.Core.Path.{◌≡◌, refl, sym, ap, ap₂, ◌∙◌}
use mathlib.Core.Bool.{Bool, true, false, ◌&&◌}
use mathlib.Core.Logic.{inl, inr, ⊎_elim}
use mathlib.Core.List.{List}
use lib.ListN.{length, get_or, set, replicate, get_or-replicate, length-set, length-replicate}
use lib.Seq.{get_or-set_same, get_or-set_other}
use lib.Dec.{eqb, ltb}
use borrow.Author.Tests.{ltb-true, ne_eqb}
use Rattle.edge.specs.Edges.{id_of, is_complemented}
use Rattle.edge.specs.Meaning.{edge_value}
use Rattle.edge.proofs.Meaning.{complementing, constants}
use Rattle.edge.proofs.Tests.{both, false_true}
use Rattle.rows.specs.Sizes.{max_rows, rows_lent}
use Rattle.rows.specs.Rows.{none, word0, word1, is_leaf, leaf_at, gate_at}
use Rattle.rows.specs.Value.{value, Obeys}
use Rattle.rows.proofs.Laws.{gate_below}
use Rattle.rows.proofs.Value.{value_zero, value_leaf, leaf_no_gate, values}
use Rattle.graph.specs.Latches.{latch_at, latch_inputs}
use Rattle.graph.specs.Leaves.{member}
use Rattle.graph.specs.Graph.{Lent}
use Rattle.graph.proofs.Listed.{stands, is_member, inputs_long, all_long, latch_at_lem}
use Rattle.gates.specs.Gates.{state}
use Rattle.gates.proofs.Meaning.{grows_value, grows_edge, and_value}
use Rattle.frame.specs.Map.{mapped, nexts_mapped, start_map}
use Rattle.frame.specs.Frame.{Frame, frame, gate_placed, leaf_placed, frame_row, frame_rows, frame_of, frame_between}
use Rattle.frame.specs.Call.{FrameReady}
use Rattle.frame.specs.Steps.{FrameRoom}
use Rattle.frame.specs.Meaning.{MapUsed, NoLatch, NewInput, Maps, HoldsNexts, FrameMeans}
use Rattle.frame.proofs.Mapping.{nexts_mapped_length, start_length}
use Rattle.frame.proofs.Framing.{gate_of, by_kind, kind_of, row_gate, row_leaf, row_stays, turn}
use Rattle.frame.proofs.Ready.{as_many, same_input, latch_input, few}
use Rattle.frame.proofs.Extending.{below_used, gate_grown, row_step, rows_more, rows_step, start_used}
use Rattle.frame.proofs.Forming.{extends, map_used, rows_room, inputs_room}

-- ---- a row that was passed stays mapped as it is
row_settled : (from : List ℕ) (i : ℕ) (s : Frame) (x : ℕ) → (x ≡ i → ⊥) → get_or (frame_row from i s).map x 0 ≡ get_or s.map x 0
row_settled from i s x n = rw (kind_of from i s) (go (gate_at from i) (eqb (get_or s.map i 0) none))
  where
    go : (t u : Bool) → get_or (by_kind from i s t u).map x 0 ≡ get_or s.map x 0
    go true u = get_or-set_other s.map i x (gate_of from i s).edge 0 n
    go false true = get_or-set_other s.map i x (2 * s.used) 0 n
    go false false = refl

settled : (from : List ℕ) (n i : ℕ) (s : Frame) (x : ℕ) → x < i → get_or (frame_rows from i n s).map x 0 ≡ get_or s.map x 0
unfolding frame_rows
settled from zero i s x l = refl
settled from (suc n) i s x l = settled from n (i + 1) (frame_row from i s) x (omega arith) ∙ row_settled from i s x (λ (e : x ≡ i). absurd (omega arith))

mapped_same : (x y : List ℕ) (e : ℕ) → get_or x (id_of e) 0 ≡ get_or y (id_of e) 0 → mapped x e ≡ mapped y e
unfolding mapped
mapped_same x y e h = rw h

-- ---- each row, by its kind
module _ (from : List ℕ) (leaf : ℕ → Bool) where
  -- a gate has the value of the AND of its mapped edges
  abbrev GateHolds : Frame → ℕ → Type 0
  GateHolds t x =
      edge_value (value t.rows leaf) (get_or t.map x 0) ≡ edge_value (value t.rows leaf) (mapped t.map (word0 from x)) && edge_value (value t.rows leaf)
      (mapped t.map (word1 from x))

  gate_here :
      (n i k : ℕ) (s : Frame) → i + suc n ≡ k → 0 < s.used → k ≤ length s.map → MapUsed i s → (frame_rows from i (suc n) s).used ≤ rows_lent s.rows → (frame_rows from i (suc n) s).listed ≤
      length s.inputs → gate_at from i ≡ true → GateHolds (frame_rows from i (suc n) s) i
  unfolding frame_rows
  gate_here n i k s e some long sound room free g =
      let t = turn from i s in
      let m = rows_more from n (i + 1) (frame_row from i s) in
      let u = gate_of from i s in
      let q : gate_placed u s i ≡ frame_row from i s = row_gate from i s g refl refl u refl in
      let w = row_step from i s some (omega arith) sound (omega (arith, m.0)) (omega (arith, m.1)) in
      let y = frame_row from i s in
      let z = frame_rows from (i + 1) n y in
      let later = (rows_step from n (i + 1) k y (omega arith) (omega (arith, t.more)) (omega (arith, t.map_long)) w.1 (rw t.rows_long room) (rw t.inputs_long free)).0 in
      let whole = (rows_step from (suc n) i k s e some long sound room free).0 in
      let used : u.used ≡ y.used = ap (λ (x : Frame). x.used) q in
      let rows : u.rows ≡ y.rows = ap (λ (x : Frame). x.rows) q in
      let c = gate_grown from i s some (omega arith) sound g (omega (arith, m.0)) in
      let b = gate_below i (word0 from i) (word1 from i) g in
      let p0 = below_used from i s some (omega arith) sound (word0 from i) b.0 in
      let p1 = below_used from i s some (omega arith) sound (word1 from i) b.1 in
      let here : get_or z.map i 0 ≡ u.edge
      = settled from n (i + 1) y i (omega arith) ∙ (ap (λ (x : Frame). get_or x.map i 0) (sym q) ∙ get_or-set_same s.map i u.edge 0 (omega arith)) in
      let a0 : mapped z.map (word0 from i) ≡ mapped s.map (word0 from i) = mapped_same z.map s.map (word0 from i) (settled from (suc n) i s (id_of (word0 from i)) b.0) in
      let a1 : mapped z.map (word1 from i) ≡ mapped s.map (word1 from i) = mapped_same z.map s.map (word1 from i) (settled from (suc n) i s (id_of (word1 from i)) b.1) in
      let first : edge_value (value z.rows leaf) u.edge ≡ edge_value (value u.rows leaf) u.edge
      = grows_edge y.rows y.used (state z.rows z.used 0) later.rows leaf u.edge (omega (arith, c.edge)) ∙ ap (λ (x : List ℕ). edge_value (value x leaf) u.edge) (sym rows) in
      ap (edge_value (value z.rows leaf)) here
      ∙ (first
      ∙ (and_value s.rows s.used (mapped s.map (word0 from i)) (mapped s.map (word1 from i)) some p0 p1 leaf (omega (arith, m.0))
      ∙ ap₂ ◌&&◌
      (sym (grows_edge s.rows s.used (state z.rows z.used 0) whole.rows leaf (mapped s.map (word0 from i)) p0) ∙ ap (edge_value (value z.rows leaf)) (sym a0))
      (sym (grows_edge s.rows s.used (state z.rows z.used 0) whole.rows leaf (mapped s.map (word1 from i)) p1) ∙ ap (edge_value (value z.rows leaf)) (sym a1))))

  gates_hold :
      (n i k : ℕ) (s : Frame) → i + n ≡ k → 0 < s.used → k ≤ length s.map → MapUsed i s → (frame_rows from i n s).used ≤ rows_lent s.rows → (frame_rows from i n s).listed ≤ length
      s.inputs → (x : ℕ) → i ≤ x → x < k → gate_at from x ≡ true → GateHolds (frame_rows from i n s) x
  unfolding frame_rows
  gates_hold zero i k s e some long sound room free x h l g = absurd (omega arith)
  gates_hold (suc n) i k s e some long sound room free x h l g =
      let t = turn from i s in
      let m = rows_more from n (i + 1) (frame_row from i s) in
      let w = row_step from i s some (omega arith) sound (omega (arith, m.0)) (omega (arith, m.1)) in
      ⊎_elim (λ (q : i ≡ x). rw (← q) (gate_here n i k s e some long sound room free (rw (sym q) at g)))
      (λ (q : i < x). gates_hold n (i + 1) k (frame_row from i s) (omega arith) (omega (arith, t.more)) (omega (arith, t.map_long)) w.1 (rw t.rows_long room)
      (rw t.inputs_long free) x (omega arith) l g) (eq-or-lt_of_le h)

-- a row that is no gate and is mapped already stays so
mapped_stays : (from : List ℕ) (n i : ℕ) (s : Frame) (x : ℕ) → i ≤ x → gate_at from x ≡ false → (get_or s.map x 0 ≡ none → ⊥) → get_or (frame_rows from i n s).map x 0 ≡ get_or s.map x 0
unfolding frame_rows
mapped_stays from zero i s x h g m = refl
mapped_stays from (suc n) i s x h g m =
    ⊎_elim
    (λ (q : i ≡ x).
    settled from n (i + 1) (frame_row from i s) x (omega arith)
    ∙ ap (λ (t : Frame). get_or t.map x 0) (sym (row_stays from i s (rw q g) (λ (e : get_or s.map i 0 ≡ none). m (rw q at e)))))
    (λ (q : i < x).
    let p = row_settled from i s x (λ (e : x ≡ i). absurd (omega arith)) in
    mapped_stays from n (i + 1) (frame_row from i s) x (omega arith) g (λ (e : get_or (frame_row from i s).map x 0 ≡ none). m (sym p ∙ e)) ∙ p)
    (eq-or-lt_of_le h)

-- one that is not mapped yet goes to the next row
input_edge : (from : List ℕ) (n i : ℕ) (s : Frame) → i < length s.map → gate_at from i ≡ false → get_or s.map i 0 ≡ none → get_or (frame_rows from i (suc n) s).map i 0 ≡ 2 * s.used
unfolding frame_rows
input_edge from n i s has g m =
    let p : leaf_placed s i ≡ frame_row from i s = row_leaf from i s g m refl refl in
    settled from n (i + 1) (frame_row from i s) i (omega arith) ∙ (ap (λ (f : Frame). get_or f.map i 0) (sym p) ∙ get_or-set_same s.map i (2 * s.used) 0 has)

-- and so behind every edge that an earlier row is mapped to
input_behind :
    (from : List ℕ) (n i k : ℕ) (s : Frame) → i + n ≡ k → 0 < s.used → k ≤ length s.map → MapUsed i s → (frame_rows from i n s).used ≤ rows_lent s.rows → (frame_rows from i n s).listed ≤
    length s.inputs → (x y : ℕ) → x < y → i ≤ y → y < k → gate_at from y ≡ false → get_or s.map y 0 ≡ none → id_of (get_or (frame_rows from i n s).map x 0) < id_of
    (get_or (frame_rows from i n s).map y 0)
unfolding frame_rows
input_behind from zero i k s e some long sound room free x y b h l g m = absurd (omega arith)
input_behind from (suc n) i k s e some long sound room free x y b h l g m =
    let t = turn from i s in
    let more = rows_more from n (i + 1) (frame_row from i s) in
    let w = row_step from i s some (omega arith) sound (omega (arith, more.0)) (omega (arith, more.1)) in
    ⊎_elim
    (λ (q : i ≡ y). let c = input_edge from n i s (omega arith) (rw (sym q) at g) (rw (sym q) at m) in let d = settled from (suc n) i s x (omega arith) in rw (← q, c, d)
    (⊎_elim (λ (z : (i ≤ x) × (get_or s.map x 0 ≡ none)). absurd (omega (arith, z.0))) (λ (z : id_of (get_or s.map x 0) < s.used). omega arith) (sound x (omega arith))))
    (λ (q : i < y). input_behind from n (i + 1) k (frame_row from i s) (omega arith) (omega (arith, t.more)) (omega (arith, t.map_long)) w.1 (rw t.rows_long room)
    (rw t.inputs_long free) x y b (omega arith) l g (row_settled from i s y (λ (z : y ≡ i). absurd (omega arith)) ∙ m)) (eq-or-lt_of_le h)

-- it is the next input
input_here :
    (from : List ℕ) (n i k : ℕ) (s : Frame) → i + suc n ≡ k → 0 < s.used → k ≤ length s.map → MapUsed i s → (frame_rows from i (suc n) s).used ≤ rows_lent s.rows → (frame_rows from i
    (suc n) s).listed ≤ length s.inputs → gate_at from i ≡ false → get_or s.map i 0 ≡ none → NewInput s.listed (frame_rows from i (suc n) s) (get_or (frame_rows from i (suc n) s).map i 0)
unfolding frame_rows
input_here from n i k s e some long sound room free g m =
    let t = turn from i s in
    let more = rows_more from n (i + 1) (frame_row from i s) in
    let w = row_step from i s some (omega arith) sound (omega (arith, more.0)) (omega (arith, more.1)) in
    let y = frame_row from i s in
    let z = frame_rows from (i + 1) n y in
    let later = (rows_step from n (i + 1) k y (omega arith) (omega (arith, t.more)) (omega (arith, t.map_long)) w.1 (rw t.rows_long room) (rw t.inputs_long free)).0 in
    let p : leaf_placed s i ≡ y = row_leaf from i s g m refl refl in
    let a : s.listed + 1 ≡ y.listed = ap (λ (f : Frame). f.listed) p in
    let b : get_or y.inputs s.listed 0 ≡ s.used = ap (λ (f : Frame). get_or f.inputs s.listed 0) (sym p) ∙ get_or-set_same s.inputs s.listed s.used 0 (omega (arith, more.1)) in
    let c : get_or z.map i 0 ≡ 2 * s.used = input_edge from n i s (omega arith) g m in
    record { at = s.listed; behind = omega arith; below = omega (arith, more.1, a); edge = c ∙ ap (λ (x : ℕ). 2 * x) (sym (later.kept s.listed (omega (arith, a)) ∙ b)) }

input_got :
    (from : List ℕ) (n i k : ℕ) (s : Frame) → i + n ≡ k → 0 < s.used → k ≤ length s.map → MapUsed i s → (frame_rows from i n s).used ≤ rows_lent s.rows → (frame_rows from i n s).listed ≤
    length s.inputs → (x : ℕ) → i ≤ x → x < k → gate_at from x ≡ false → get_or s.map x 0 ≡ none → NewInput s.listed (frame_rows from i n s) (get_or (frame_rows from i n s).map x 0)
unfolding frame_rows
input_got from zero i k s e some long sound room free x h l g m = absurd (omega arith)
input_got from (suc n) i k s e some long sound room free x h l g m =
    let t = turn from i s in
    let more = rows_more from n (i + 1) (frame_row from i s) in
    let w = row_step from i s some (omega arith) sound (omega (arith, more.0)) (omega (arith, more.1)) in
    ⊎_elim (λ (q : i ≡ x). rw (← q) (input_here from n i k s e some long sound room free (rw (sym q) at g) (rw (sym q) at m)))
    (λ (q : i < x). let r = input_got from n (i + 1) k (frame_row from i s) (omega arith) (omega (arith, t.more)) (omega (arith, t.map_long)) w.1 (rw t.rows_long room)
    (rw t.inputs_long free) x (omega arith) l g (row_settled from i s x (λ (z : x ≡ i). absurd (omega arith)) ∙ m) in record
    { at = r.at; behind = omega (arith, r.behind, t.listed_more); below = r.below; edge = r.edge }) (eq-or-lt_of_le h)

-- ---- the map at the start
module _ (latches : List ℕ) where
  nexts_other : (n : ℕ) (map : List ℕ) (x : ℕ) → ((j : ℕ) → j < n → (latch_at latches j).input ≡ x → ⊥) → get_or (nexts_mapped latches n map) x 0 ≡ get_or map x 0
  unfolding nexts_mapped
  nexts_other zero map x h = refl
  nexts_other (suc n) map x h =
      get_or-set_other (nexts_mapped latches n map) (latch_at latches n).input x (latch_at latches n).next 0 (λ (e : x ≡ (latch_at latches n).input). h n (omega arith) (sym e))
      ∙ nexts_other n map x (λ j l. h j (omega arith))

  nexts_here : (n : ℕ) (map : List ℕ) → ((i j : ℕ) → i < j → j < n → (latch_at latches i).input ≡ (latch_at latches j).input → ⊥) → ((j : ℕ) → j < n → (latch_at latches j).input < length map)
      → (j : ℕ) → j < n → get_or (nexts_mapped latches n map) (latch_at latches j).input 0 ≡ (latch_at latches j).next
  unfolding nexts_mapped
  nexts_here zero map d u j l = absurd (omega arith)
  nexts_here (suc n) map d u j l =
      ⊎_elim
      (λ (e : suc j ≡ suc n).
      let q : j ≡ n = omega arith in
      rw q (get_or-set_same (nexts_mapped latches n map) (latch_at latches n).input (latch_at latches n).next 0 (omega (arith, u n (omega arith), nexts_mapped_length latches n map))))
      (λ (h : suc j < suc n).
      get_or-set_other (nexts_mapped latches n map) (latch_at latches n).input (latch_at latches j).input (latch_at latches n).next 0 (d j n (omega arith) (omega arith))
      ∙ nexts_here n map (λ i k p q. d i k p (omega arith)) (λ i p. u i (omega arith)) j (omega arith))
      (eq-or-lt_of_le l)

  module _ (n used : ℕ) where
    start_none : (x : ℕ) → 0 < x → x < used → ((j : ℕ) → j < n → (latch_at latches j).input ≡ x → ⊥) → get_or (start_map latches n used) x 0 ≡ none
    unfolding start_map
    start_none x p l h =
        nexts_other n (set (replicate used none) 0 0) x h
        ∙ (get_or-set_other (replicate used none) 0 x 0 0 (λ (e : x ≡ 0). absurd (omega arith)) ∙ get_or-replicate {A = ℕ} used x none 0 l)

    pub start_zero : 0 < used → ((j : ℕ) → j < n → (latch_at latches j).input ≡ 0 → ⊥) → get_or (start_map latches n used) 0 0 ≡ 0
    unfolding start_map
    start_zero p h = nexts_other n (set (replicate used none) 0 0) 0 h ∙ get_or-set_same (replicate used none) 0 0 0 (omega (arith, length-replicate {A = ℕ} used none))

    start_latch : ((i j : ℕ) → i < j → j < n → (latch_at latches i).input ≡ (latch_at latches j).input → ⊥) → ((j : ℕ) → j < n → (latch_at latches j).input < used)
        → (j : ℕ) → j < n → get_or (start_map latches n used) (latch_at latches j).input 0 ≡ (latch_at latches j).next
    unfolding start_map
    start_latch d u j l =
        nexts_here n (set (replicate used none) 0 0) d (λ i p. omega (arith, u i p, length-set (replicate used none) 0 0, length-replicate {A = ℕ} used none)) j l

-- a leaf is behind row 0
pub leaf_some : (x a b : ℕ) → is_leaf x a b ≡ true → 0 < x
unfolding is_leaf
leaf_some x a b h = ltb-true 0 x (both {a = ltb 0 x} {b = eqb a none} (both {a = ltb 0 x && eqb a none} {b = eqb b 0} h).0).0

-- ---- the frame of b in a
module _ (a b : Lent) (marks : ℕ) (r : FrameRoom a b marks) where
  abbrev f : Frame
  f = frame_between a b

  abbrev o : Frame
  o = frame a.rows a.counts.rows a.inputs a.counts.inputs (start_map a.latches a.counts.latches b.counts.rows)

  abbrev ready : FrameReady a b marks
  ready = r.ready

  as_b : a.counts.latches ≡ b.counts.latches
  as_b = as_many a b ready.start

  input_b : (j : ℕ) → j < a.counts.latches → (latch_at a.latches j).input ≡ (latch_at b.latches j).input
  input_b j l = same_input a b ready.start j (rw (sym as_b) l)

  -- a latch input of b is a leaf of b, behind row 0
  input_some : (j : ℕ) → j < b.counts.latches → 0 < (latch_at b.latches j).input
  input_some j l = let x = (latch_at b.latches j).input in leaf_some x (word0 b.rows x) (word1 b.rows x) (ready.from_formed.latches j l).1

  no_gate : (x : ℕ) → x < b.counts.rows → leaf_at b.rows x ≡ true → gate_at b.rows x ≡ false
  no_gate x l h = leaf_no_gate x (word0 b.rows x) (word1 b.rows x) (omega (arith, few a b marks ready)) h

  apart : (i j : ℕ) → i < j → j < a.counts.latches → (latch_at a.latches i).input ≡ (latch_at a.latches j).input → ⊥
  apart i j h l e =
      ready.target_formed.once (a.counts.inputs + i) (a.counts.inputs + j) (omega arith)
      (omega (arith, all_long a.inputs a.counts.inputs a.latches a.counts.latches ready.target.inputs.within))
      (latch_at_lem a.inputs a.counts.inputs a.latches a.counts.latches ready.target.inputs.within i (omega arith) ∙
      (e ∙ sym (latch_at_lem a.inputs a.counts.inputs a.latches a.counts.latches ready.target.inputs.within j l)))

  start_long : b.counts.rows ≤ length o.map
  start_long = omega (arith, start_length a.latches a.counts.latches b.counts.rows)

  sound : MapUsed 0 o
  sound x l =
      ⊎_elim (λ e. inl (omega arith, e)) (λ u. inr u)
      (start_used a.counts.rows a.latches a.counts.latches b.counts.rows ready.target.rows.some ready.target_formed.nexts x l)

  -- the map at a row that is mapped at the start
  at_start : (x : ℕ) → gate_at b.rows x ≡ false → (get_or o.map x 0 ≡ none → ⊥) → get_or f.map x 0 ≡ get_or o.map x 0
  unfolding frame_of
  at_start x g m = mapped_stays b.rows b.counts.rows 0 o x (omega arith) g m

  no_none : (e : ℕ) → id_of e < a.counts.rows → e ≡ none → ⊥
  no_none e l q = omega (arith, ready.target.rows.fit.within, ready.target.rows.fit.limited)

  at_latch : (j : ℕ) → j < b.counts.latches → get_or f.map (latch_at b.latches j).input 0 ≡ (latch_at a.latches j).next
  at_latch j l =
      let k : j < a.counts.latches = rw as_b l in
      let x = (latch_at b.latches j).input in
      let s : get_or o.map x 0 ≡ (latch_at a.latches j).next = ap (λ (y : ℕ). get_or o.map y 0) (sym (input_b j k)) ∙ start_latch a.latches a.counts.latches b.counts.rows apart
      (λ i p. rw (input_b i p) (ready.from_formed.latches i (rw (sym as_b) p)).0) j k in
      at_start x (no_gate x (ready.from_formed.latches j l).0 (ready.from_formed.latches j l).1)
      (λ (e : get_or o.map x 0 ≡ none). no_none (latch_at a.latches j).next (ready.target_formed.nexts j k) (sym s ∙ e)) ∙ s

  at_zero : get_or f.map 0 0 ≡ 0
  at_zero =
      let s = start_zero a.latches a.counts.latches b.counts.rows ready.from.rows.some (λ j l e. absurd (omega (arith, input_some j (rw (sym as_b) l), input_b j l, e))) in
      at_start 0 (zero_no_gate (word0 b.rows 0) (word1 b.rows 0)) (λ (e : get_or o.map 0 0 ≡ none). absurd (omega (arith, e, s))) ∙ s
    where
      zero_no_gate : (v w : ℕ) → gate_at b.rows 0 ≡ false
      zero_no_gate v w = go (gate_at b.rows 0) refl
        where
          go : (t : Bool) → gate_at b.rows 0 ≡ t → t ≡ false
          go true e = absurd (omega (arith, (gate_below 0 (word0 b.rows 0) (word1 b.rows 0) e).0))
          go false e = refl

  -- a leaf that is no latch input is not mapped at the start
  at_none : (x : ℕ) → x < b.counts.rows → leaf_at b.rows x ≡ true → NoLatch b x → get_or o.map x 0 ≡ none
  at_none x l h n = start_none a.latches a.counts.latches b.counts.rows x (leaf_some x (word0 b.rows x) (word1 b.rows x) h) l (λ j p e. n j (rw (sym as_b) p) (sym (input_b j p) ∙ e))

  at_leaf : (x : ℕ) → x < b.counts.rows → leaf_at b.rows x ≡ true → NoLatch b x → NewInput a.counts.inputs f (get_or f.map x 0)
  unfolding frame_of
  at_leaf x l h n =
      input_got b.rows b.counts.rows 0 b.counts.rows o (omega arith) ready.target.rows.some start_long sound (rows_room a b marks r) (inputs_room a b marks r) x (omega arith)
      l (no_gate x l h) (at_none x l h n)

  at_later : (x y : ℕ) → x < y → y < b.counts.rows → leaf_at b.rows y ≡ true → NoLatch b y → id_of (get_or f.map x 0) < id_of (get_or f.map y 0)
  unfolding frame_of
  at_later x y q l h n =
      input_behind b.rows b.counts.rows 0 b.counts.rows o (omega arith) ready.target.rows.some start_long sound (rows_room a b marks r) (inputs_room a b marks r) x y q
      (omega arith) l (no_gate y l h) (at_none y l h n)

  pub maps : Maps a b f
  maps = record { latches = at_latch; leaves = at_leaf; apart = at_later; zero = at_zero; used = map_used a b marks r }

  -- ---- values
  few_used : f.used ≤ max_rows
  few_used = omega (arith, rows_room a b marks r, ready.target.rows.fit.limited)

  module _ (leaf : ℕ → Bool) where
    -- what row x of b holds in the frame
    v : ℕ → Bool
    v x = edge_value (value f.rows leaf) (get_or f.map x 0)

    held_latch : (j : ℕ) → j < b.counts.latches → v (latch_at b.latches j).input ≡ edge_value (value a.rows leaf) (latch_at a.latches j).next
    unfolding v
    held_latch j l =
        ap (edge_value (value f.rows leaf)) (at_latch j l)
        ∙ grows_edge a.rows a.counts.rows (state f.rows f.used 0) (extends a b marks r).rows leaf (latch_at a.latches j).next (ready.target_formed.nexts j (rw as_b l))

    even : (x k : ℕ) → x ≡ 2 * k → edge_value (value f.rows leaf) x ≡ value f.rows leaf k
    unfolding edge_value
    even x k e =
        let p : x / 2 ≡ k = omega arith in
        let q : is_complemented x ≡ false = ne_eqb (x % 2) 1 (λ (z : x % 2 ≡ 1). omega arith) in
        rw (p, q)

    held_leaf : (x : ℕ) → x < b.counts.rows → leaf_at b.rows x ≡ true → NoLatch b x → v x ≡ leaf (id_of (get_or f.map x 0))
    unfolding v
    held_leaf x l p n =
        let w = at_leaf x l p n in
        let k = get_or f.inputs w.at 0 in
        let u = (extends a b marks r).new w.at w.behind w.below in
        let d : k ≡ id_of (get_or f.map x 0) = omega (arith, w.edge) in
        even (get_or f.map x 0) k w.edge ∙ (value_leaf f.rows f.used leaf few_used k u.below u.leaf ∙ ap leaf d)

    holds : HoldsNexts a b f leaf v
    holds = record { latches = held_latch; leaves = held_leaf }

    module _ (leaf' : ℕ → Bool) (h : HoldsNexts a b f leaf leaf') where
      -- a leaf of b holds what leaf' says
      leaf_latch : (j : ℕ) → j < b.counts.latches → v (latch_at b.latches j).input ≡ leaf' (latch_at b.latches j).input
      leaf_latch j l = held_latch j l ∙ sym (h.latches j l)

      leaf_new : (x : ℕ) → x < b.counts.rows → leaf_at b.rows x ≡ true → NoLatch b x → v x ≡ leaf' x
      leaf_new x l p n = held_leaf x l p n ∙ sym (h.leaves x l p n)

      leaves : (x : ℕ) → x < b.counts.rows → leaf_at b.rows x ≡ true → v x ≡ leaf' x
      leaves x l p = go (member x (latch_inputs b.latches b.counts.latches)) refl
        where
          go : (t : Bool) → member x (latch_inputs b.latches b.counts.latches) ≡ t → v x ≡ leaf' x
          go true m =
              let s = stands x (latch_inputs b.latches b.counts.latches) m in
              let j : s.at < b.counts.latches = omega (arith, s.within, inputs_long b.latches b.counts.latches) in
              let q : (latch_at b.latches s.at).input ≡ x = sym (latch_input b.latches b.counts.latches s.at j) ∙ s.same in
              ap v (sym q) ∙ (leaf_latch s.at j ∙ ap leaf' q)
          go false m =
              leaf_new x l p
              (λ j k e.
              let y = is_member (latch_inputs b.latches b.counts.latches) j (omega (arith, inputs_long b.latches b.counts.latches)) in
              let z : get_or (latch_inputs b.latches b.counts.latches) j 0 ≡ x = latch_input b.latches b.counts.latches j k ∙ e in
              false_true (sym m ∙ (rw z at y)))

      -- an edge of b has, mapped, the value that v gives it
      mapped_value : (e : ℕ) → edge_value (value f.rows leaf) (mapped f.map e) ≡ edge_value v e
      unfolding mapped v edge_value
      mapped_value e = complementing.if_means (value f.rows leaf) (is_complemented e) (get_or f.map (id_of e) 0)

      gates : (x : ℕ) → x < b.counts.rows → gate_at b.rows x ≡ true → v x ≡ edge_value v (word0 b.rows x) && edge_value v (word1 b.rows x)
      unfolding v frame_of
      gates x l g =
          gates_hold b.rows leaf b.counts.rows 0 b.counts.rows o (omega arith) ready.target.rows.some start_long sound (rows_room a b marks r) (inputs_room a b marks r) x
          (omega arith) l g ∙ ap₂ ◌&&◌ (mapped_value (word0 b.rows x)) (mapped_value (word1 b.rows x))

      obeys : Obeys b.rows b.counts.rows leaf' v
      unfolding v
      obeys = record { constant = ap (edge_value (value f.rows leaf)) at_zero ∙ constants.means (value f.rows leaf) (value_zero f.rows leaf) false; leaves = leaves; gates = gates }

      same_row : (x : ℕ) → x < b.counts.rows → v x ≡ value b.rows leaf' x
      same_row x l = (values b.rows b.counts.rows leaf' (few a b marks ready) ready.from_formed.rows).only v obeys x l

      same_edge : (e : ℕ) → id_of e < b.counts.rows → edge_value (value f.rows leaf) (mapped f.map e) ≡ edge_value (value b.rows leaf') e
      unfolding edge_value
      same_edge e l = mapped_value e ∙ rw (same_row (id_of e) l)

  held : (leaf : ℕ → Bool) → HoldsNexts a b f leaf (λ (x : ℕ). edge_value (value f.rows leaf) (get_or f.map x 0))
  unfolding v
  held leaf = holds leaf

  pub frame_means : FrameMeans a b f
  frame_means =
      record {
        extends = extends a b marks r;
        map = maps;
        held = held;
        values = same_edge;
        old_values = λ leaf i l. grows_value a.rows a.counts.rows (state f.rows f.used 0) (extends a b marks r).rows leaf i l;
      }
