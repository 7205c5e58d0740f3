-- After a frame the target is a well-formed graph of right sizes, and another frame of the same graph can be added.
-- Assumes nothing.
use Prim.Native.Nat.{ℕ, ◌+◌, ◌-◌, ◌*◌, ◌≤◌, ◌<◌}
use native.Mathlib.Omega.{arith}
use native.Mathlib.Nat.{eq-or-lt_of_le}
use mathlib.Core.Path.{◌≡◌, sym, ap, ◌∙◌}
use mathlib.Core.Bool.{true}
use mathlib.Core.Logic.{◌⊎◌, inl, inr, ⊎_elim}
use mathlib.Core.List.{List, ◌++◌}
use lib.ListN.{length, get_or, take}
use Rattle.edge.specs.Edges.{id_of, is_complemented}
use Rattle.edge.proofs.Tests.{lt_or_le}
use Rattle.rows.specs.Sizes.{rows_lent}
use Rattle.rows.specs.Rows.{none, leaf_at, AllRows}
use Rattle.graph.specs.declared.latch.Latch.{Latch}
use Rattle.graph.specs.Latches.{with_next, latch_at, latch_inputs}
use Rattle.graph.specs.Graph.{Lent, Sized}
use Rattle.graph.specs.WellFormed.{UsedLeaf, listed, WellFormed}
use Rattle.graph.proofs.Listed.{all_long, input_at, latch_at_lem}
use Rattle.graph.proofs.Latches.{same_inputs}
use Rattle.gates.proofs.Growing.{signed_id}
use Rattle.output.specs.Writing.{written}
use Rattle.renumber.specs.Renumber.{ends_of}
use Rattle.output.proofs.Writing.{written_length, written_before, written_at_lem}
use Rattle.frame.specs.Map.{mapped, start_map, mapped_of, nexts_set, lists_grown}
use Rattle.frame.specs.Frame.{Frame, frame, frame_of, raised, frame_between, framed}
use Rattle.frame.specs.Call.{SameStart, FrameReady}
use Rattle.frame.specs.Steps.{FrameRoom}
use Rattle.frame.specs.Meaning.{Extends, MapUsed}
use Rattle.frame.proofs.Mapping.{nexts_set_length, start_length, nexts_at, grown_used}
use Rattle.frame.proofs.Ready.{as_many, frame_map_long}
use Rattle.frame.proofs.Extending.{rows_step, start_used}

module _ (a b : Lent) (marks : ℕ) (r : FrameRoom a b marks) where
  abbrev g : Lent
  g = framed a b

  abbrev f : Frame
  f = frame_between a b

  abbrev start : Frame
  start = frame a.rows a.counts.rows a.inputs a.counts.inputs (start_map a.latches a.counts.latches b.counts.rows)

  abbrev ready : FrameReady a b marks
  ready = r.ready

  -- ---- room, column by column
  pub rows_room : f.used ≤ rows_lent a.rows
  unfolding framed raised
  rows_room = r.room.rows

  pub inputs_room : f.listed ≤ length a.inputs
  unfolding framed raised
  inputs_room = r.room.inputs

  -- ---- the rows
  steps : Extends start f × MapUsed b.counts.rows f
  unfolding frame_of
  steps =
      rows_step b.rows b.counts.rows 0 b.counts.rows start (omega arith) ready.target.rows.some
      (omega (arith, start_length a.latches a.counts.latches b.counts.rows))
      (λ x l. ⊎_elim (λ e. inl (omega arith, e)) (λ u. inr u)
      (start_used a.counts.rows a.latches a.counts.latches b.counts.rows ready.target.rows.some ready.target_formed.nexts x l)) rows_room inputs_room

  pub extends : Extends start f
  extends = steps.0

  pub map_used : (x : ℕ) → x < b.counts.rows → id_of (get_or f.map x 0) < f.used
  map_used x l =
      ⊎_elim
      (λ (t : (b.counts.rows ≤ x) × (get_or f.map x 0 ≡ none)). absurd (omega (arith, t.0)))
      (λ u. u)
      (steps.1 x (rw (frame_map_long a.rows a.inputs a.counts a.latches b.rows b.counts.rows) l))

  pub edge_used : (e : ℕ) → id_of e < b.counts.rows → id_of (mapped f.map e) < f.used
  unfolding mapped
  edge_used e l = rw (signed_id (is_complemented e) (get_or f.map (id_of e) 0)) (map_used (id_of e) l)

  all_rows : AllRows f.rows f.used
  all_rows i l =
      ⊎_elim
      (λ (h : i < a.counts.rows). rw (extends.rows.kept (2 * i) (omega arith), extends.rows.kept (2 * i + 1) (omega arith)) (ready.target_formed.rows i h))
      (λ (h : a.counts.rows ≤ i). extends.rows.good i h l)
      (lt_or_le i a.counts.rows)

  leaf_still : (x : ℕ) → UsedLeaf a x → (x < f.used) × (leaf_at f.rows x ≡ true)
  leaf_still x t = (omega (arith, t.0, extends.rows.more), rw (extends.rows.kept (2 * x) (omega (arith, t.0)), extends.rows.kept (2 * x + 1) (omega (arith, t.0))) t.1)

  still : (i : ℕ) → i < a.counts.rows → i < f.used
  still i h = omega (arith, extends.rows.more)

  inputs_leaves : (i : ℕ) → i < f.listed → (get_or f.inputs i 0 < f.used) × (leaf_at f.rows (get_or f.inputs i 0) ≡ true)
  inputs_leaves i l =
      ⊎_elim
      (λ (h : i < a.counts.inputs). rw (extends.kept i h) (leaf_still (get_or a.inputs i 0) (ready.target_formed.inputs i h)))
      (λ (h : a.counts.inputs ≤ i). let n = extends.new i h l in (n.below, n.leaf))
      (lt_or_le i a.counts.inputs)

  -- ---- the latches
  abbrev many : ℕ
  many = a.counts.latches

  as_b : many ≡ b.counts.latches
  as_b = as_many a b ready.start

  abbrev latches' : List ℕ
  latches' = nexts_set f.map a.latches b.latches b.counts.latches

  latch_there : (j : ℕ) → j < many → latch_at latches' j ≡ with_next (latch_at a.latches j) (mapped f.map (latch_at b.latches j).next)
  latch_there j l = nexts_at f.map a.latches b.latches b.counts.latches j (omega (arith, as_b, ready.target.latches.within)) (rw (sym as_b) l)

  inputs_stay : (j : ℕ) → j < many → (latch_at latches' j).input ≡ (latch_at a.latches j).input
  inputs_stay j l = ap (λ (x : Latch). x.input) (latch_there j l)

  inputs_same : latch_inputs latches' many ≡ latch_inputs a.latches many
  inputs_same = same_inputs latches' a.latches many inputs_stay

  nexts : (j : ℕ) → j < many → id_of (latch_at latches' j).next < f.used
  nexts j l = rw (ap (λ (x : Latch). x.next) (latch_there j l)) (edge_used (latch_at b.latches j).next (ready.from_formed.nexts j (rw (sym as_b) l)))

  inits : (j : ℕ) → j < many → ((latch_at latches' j).init ≡ none) ⊎ (id_of (latch_at latches' j).init < f.used)
  inits j l = rw (ap (λ (x : Latch). x.init) (latch_there j l)) (⊎_elim (λ e. inl e) (λ u. inr (still (id_of (latch_at a.latches j).init) u)) (ready.target_formed.inits j l))

  -- ---- no leaf is listed twice
  abbrev all : List ℕ
  all = take f.listed f.inputs ++ latch_inputs latches' many

  fit : f.listed ≤ length f.inputs
  fit = rw extends.inputs_long inputs_room

  long : length all ≡ f.listed + many
  long = all_long f.inputs f.listed latches' many fit

  long_old : length (listed a) ≡ a.counts.inputs + many
  long_old = all_long a.inputs a.counts.inputs a.latches many ready.target.inputs.within

  at_input : (i : ℕ) → i < f.listed → get_or all i 0 ≡ get_or f.inputs i 0
  at_input i l = input_at f.inputs f.listed latches' many fit i l

  -- an input that was there, and a latch, by their place among what was listed
  old_input : (i : ℕ) → i < a.counts.inputs → get_or all i 0 ≡ get_or (listed a) i 0
  old_input i l = at_input i (omega (arith, extends.more)) ∙ (extends.kept i l ∙ sym (input_at a.inputs a.counts.inputs a.latches many ready.target.inputs.within i l))

  old_latch : (i : ℕ) → f.listed ≤ i → i < f.listed + many → get_or all i 0 ≡ get_or (listed a) (a.counts.inputs + (i - f.listed)) 0
  old_latch i h l =
      let e : i ≡ f.listed + (i - f.listed) = omega arith in
      let k : i - f.listed < many = omega arith in
      ap (λ (x : ℕ). get_or all x 0) e
      ∙ (latch_at_lem f.inputs f.listed latches' many fit (i - f.listed) k
      ∙ (inputs_stay (i - f.listed) k ∙ sym (latch_at_lem a.inputs a.counts.inputs a.latches many ready.target.inputs.within (i - f.listed) k)))

  old_below : (p : ℕ) → p < a.counts.inputs + many → get_or (listed a) p 0 < a.counts.rows
  old_below p l =
      ⊎_elim (λ (h : p < a.counts.inputs). rw (input_at a.inputs a.counts.inputs a.latches many ready.target.inputs.within p h) (ready.target_formed.inputs p h).0)
      (λ (h : a.counts.inputs ≤ p). let e : p ≡ a.counts.inputs + (p - a.counts.inputs) = omega arith in let k : p - a.counts.inputs < many = omega arith in rw
      (ap (λ (x : ℕ). get_or (listed a) x 0) e ∙ latch_at_lem a.inputs a.counts.inputs a.latches many ready.target.inputs.within (p - a.counts.inputs) k)
      (ready.target_formed.latches (p - a.counts.inputs) k).0) (lt_or_le p a.counts.inputs)

  -- what is listed at a place: it was listed before, or it is a new input
  data Place (i : ℕ) : Type 0 where
    first : i < a.counts.inputs → Place i
    new : a.counts.inputs ≤ i → i < f.listed → Place i
    latch : f.listed ≤ i → Place i

  place : (i : ℕ) → Place i
  place i =
      ⊎_elim (λ (h : i < a.counts.inputs). first h) (λ (h : a.counts.inputs ≤ i). ⊎_elim (λ (k : i < f.listed). new h k) (λ (k : f.listed ≤ i). latch k) (lt_or_le i f.listed))
      (lt_or_le i a.counts.inputs)

  new_behind : (i : ℕ) → a.counts.inputs ≤ i → i < f.listed → a.counts.rows ≤ get_or all i 0
  new_behind i h l = rw (at_input i l) (extends.new i h l).behind

  once : (i j : ℕ) → i < j → j < f.listed + many → get_or all i 0 ≡ get_or all j 0 → ⊥
  once i j h l e = go (place i) (place j)
    where
      same : (p q : ℕ) → p < q → q < a.counts.inputs + many → get_or all i 0 ≡ get_or (listed a) p 0 → get_or all j 0 ≡ get_or (listed a) q 0 → ⊥
      same p q m n x y = ready.target_formed.once p q m (omega (arith, long_old)) (sym x ∙ (e ∙ y))

      go : Place i → Place j → ⊥
      go (first p) (first q) = same i j h (omega arith) (old_input i p) (old_input j q)
      go (first p) (new q m) = omega (arith, e, old_input i p, old_below i (omega arith), new_behind j q m)
      go (first p) (latch q) = same i (a.counts.inputs + (j - f.listed)) (omega arith) (omega arith) (old_input i p) (old_latch j q l)
      go (new p m) (first q) = absurd (omega arith)
      go (new p m) (new q n) = omega (arith, e, at_input i m, at_input j n, extends.rise i j p h n)
      go (new p m) (latch q) = omega (arith, e, new_behind i p m, old_latch j q l, old_below (a.counts.inputs + (j - f.listed)) (omega arith))
      go (latch p) (first q) = absurd (omega (arith, extends.more))
      go (latch p) (new q n) = absurd (omega arith)
      go (latch p) (latch q) = same (a.counts.inputs + (i - f.listed)) (a.counts.inputs + (j - f.listed)) (omega arith) (omega arith) (old_latch i p (omega arith)) (old_latch j q l)

  -- ---- justice ends
  abbrev sets : ℕ
  sets = a.counts.sets

  abbrev ends : ℕ → ℕ
  ends s = get_or (written a.ends sets (ends_of a.counts.edges b.ends) b.counts.sets) s 0

  ends_room : sets + b.counts.sets ≤ length a.ends
  unfolding framed raised
  ends_room = r.room.ends

  first_end : (s : ℕ) → s < sets → ends s ≡ get_or a.ends s 0
  first_end s h = written_before a.ends sets (ends_of a.counts.edges b.ends) b.counts.sets s h

  second_end : (s : ℕ) → sets ≤ s → s < sets + b.counts.sets → ends s ≡ get_or b.ends (s - sets) 0 + a.counts.edges
  second_end s h k =
      let e : s ≡ sets + (s - sets) = omega arith in
      ap ends e ∙ written_at_lem a.ends sets (ends_of a.counts.edges b.ends) b.counts.sets (s - sets) ends_room (omega arith)

  rise : (s : ℕ) → s + 1 < sets + b.counts.sets → ends s ≤ ends (s + 1)
  rise s h = ⊎_elim low high (lt_or_le s sets)
    where
      high : sets ≤ s → ends s ≤ ends (s + 1)
      high k =
          let q : (s + 1) - sets ≡ (s - sets) + 1 = omega arith in
          let u : (s - sets) + 1 < b.counts.sets = omega arith in
          omega (arith, second_end s k (omega arith), second_end (s + 1) (omega arith) h, ap (λ (x : ℕ). get_or b.ends x 0) q, ready.from_formed.ends (s - sets) u)

      low : s < sets → ends s ≤ ends (s + 1)
      low k =
          ⊎_elim
          (λ (e : s + 1 ≡ sets). omega (arith, first_end s k, ready.target_formed.last s e, second_end (s + 1) (omega arith) h))
          (λ (u : s + 1 < sets). omega (arith, first_end s k, first_end (s + 1) u, ready.target_formed.ends s u))
          (eq-or-lt_of_le {n = s + 1} {m = sets} (omega arith))

  last : (s : ℕ) → s + 1 ≡ sets + b.counts.sets → ends s ≡ a.counts.edges + b.counts.edges
  last s e = ⊎_elim low high (lt_or_le s sets)
    where
      high : sets ≤ s → ends s ≡ a.counts.edges + b.counts.edges
      high k =
          let u : (s - sets) + 1 ≡ b.counts.sets = omega arith in
          omega (arith, second_end s k (omega arith), ready.from_formed.last (s - sets) u)

      low : s < sets → ends s ≡ a.counts.edges + b.counts.edges
      low k =
          let z : b.counts.sets ≡ 0 = omega arith in
          let q : s + 1 ≡ sets = omega arith in
          omega (arith, first_end s k, ready.target_formed.last s q, ready.from_formed.no_sets z)

  no_sets : sets + b.counts.sets ≡ 0 → a.counts.edges + b.counts.edges ≡ 0
  no_sets e =
      let p : sets ≡ 0 = omega arith in
      let q : b.counts.sets ≡ 0 = omega arith in
      omega (arith, ready.target_formed.no_sets p, ready.from_formed.no_sets q)

  -- ---- the whole
  edges_used : (before from : List ℕ) (at n : ℕ) → at + n ≤ length before → ((j : ℕ) → j < at → id_of (get_or before j 0) < a.counts.rows) → ((j : ℕ) → j < n → id_of (get_or from j 0) < b.counts.rows)
      → (j : ℕ) → j < at + n → id_of (get_or (written before at (mapped_of f.map from) n) j 0) < f.used
  edges_used before from at n room u v = grown_used f.map b.counts.rows f.used edge_used before from at n room (λ j h. still (id_of (get_or before j 0)) (u j h)) v

  pub well_formed : WellFormed g
  unfolding framed raised lists_grown
  well_formed =
      record {
        rows = all_rows;
        inputs = inputs_leaves;
        latches = λ j l. rw (inputs_stay j l) (leaf_still (latch_at a.latches j).input (ready.target_formed.latches j l));
        once = λ i j h l. once i j h (omega (arith, long));
        nexts = nexts;
        inits = inits;
        constraints = edges_used a.constraints b.constraints a.counts.constraints b.counts.constraints r.room.constraints ready.target_formed.constraints
            ready.from_formed.constraints;
        bads = edges_used a.bads b.bads a.counts.bads b.counts.bads r.room.bads ready.target_formed.bads ready.from_formed.bads;
        outputs = edges_used a.outputs b.outputs a.counts.outputs b.counts.outputs r.room.outputs ready.target_formed.outputs ready.from_formed.outputs;
        edges = edges_used a.edges b.edges a.counts.edges b.counts.edges r.room.edges ready.target_formed.edges ready.from_formed.edges;
        fairness = edges_used a.fairness b.fairness a.counts.fairness b.counts.fairness r.room.fairness ready.target_formed.fairness ready.from_formed.fairness;
        ends = rise;
        last = last;
        no_sets = no_sets;
      }

  pub sized : (n : ℕ) → g.counts.rows ≤ n → Sized g n
  unfolding framed raised lists_grown
  sized n h =
      let s = ready.target in
      let m = r.room in
      record {
        rows = record { some = omega (arith, s.rows.some, extends.rows.more); fit = rw extends.rows.long (record { within = m.rows; limited = s.rows.fit.limited }) };
        marked = h;
        inputs = rw extends.inputs_long (record { within = m.inputs; limited = s.inputs.limited });
        latches = rw (nexts_set_length f.map a.latches b.latches b.counts.latches) s.latches;
        constraints = rw (written_length a.constraints _ _ _) (record { within = m.constraints; limited = s.constraints.limited });
        bads = rw (written_length a.bads _ _ _) (record { within = m.bads; limited = s.bads.limited });
        outputs = rw (written_length a.outputs _ _ _) (record { within = m.outputs; limited = s.outputs.limited });
        ends = rw (written_length a.ends _ _ _) (record { within = m.ends; limited = s.ends.limited });
        edges = rw (written_length a.edges _ _ _) (record { within = m.edges; limited = s.edges.limited });
        fairness = rw (written_length a.fairness _ _ _) (record { within = m.fairness; limited = s.fairness.limited });
      }

  still_start : SameStart g b
  unfolding framed raised lists_grown
  still_start =
      record {
        more = omega (arith, ready.start.more, extends.rows.more);
        rows = λ k l. extends.rows.kept k (omega (arith, ready.start.more)) ∙ ready.start.rows k l;
        latches = inputs_same ∙ ready.start.latches;
      }

  -- another frame of the same graph can be added
  pub frame_ready_again : FrameReady g b marks
  frame_ready_again =
      record { target = sized g.counts.rows (omega arith); from = ready.from; target_formed = well_formed; from_formed = ready.from_formed; start = still_start }
