-- The whole is a well-formed graph of right sizes.
-- Assumes nothing.
use Prim.Native.Nat.{ℕ, ◌+◌, ◌-◌, ◌≤◌, ◌<◌}
use native.Mathlib.Omega.{arith}
use native.Mathlib.Nat.{eq-or-lt_of_le}
use mathlib.Core.Path.{◌≡◌, refl, sym, ap, subst, ◌∙◌}
use mathlib.Core.Bool.{cond}
use mathlib.Core.Logic.{◌⊎◌, inl, inr, ⊎_elim}
use mathlib.Core.List.{List, ◌++◌}
use lib.ListN.{length, get_or, take}
use lib.Dec.{ltb}
use borrow.Author.Tests.{lt-ltb, le-ltb}
use Rattle.edge.specs.Edges.{id_of}
use Rattle.edge.proofs.Tests.{lt_or_le}
use Rattle.rows.specs.Sizes.{max_rows}
use Rattle.rows.specs.Rows.{word0, word1, none}
use Rattle.graph.specs.declared.latch.Latch.{Latch}
use Rattle.graph.specs.Latches.{latch_at, latch_inputs}
use Rattle.graph.specs.Graph.{Lent, Sized}
use Rattle.graph.specs.WellFormed.{UsedLeaf, listed, WellFormed}
use Rattle.graph.proofs.Listed.{all_long, input_at, latch_at_lem}
use Rattle.renumber.specs.Renumber.{renamed, renamed_latch, ids_of, lists_of, renumber}
use Rattle.renumber.specs.Entries.{SameEntries, Renumbered}
use Rattle.renumber.specs.Kept.{SameBefore, ListsKept}
use Rattle.output.proofs.Writing.{written_length, written_before, written_at_lem}
use Rattle.renumber.proofs.Writing.{latches_length}
use Rattle.renumber.proofs.Entering.{renumbered}
use Rattle.renumber.proofs.Keeping.{lists_kept, renamed_used, entries_used}
use Rattle.merge.specs.Merge.{shifted, offset, summed, merged, MergeLent}
use Rattle.merge.proofs.Ready.{inputs_room, lists_room}
use Rattle.merge.proofs.Shifting.{leaf_some, shifted_apart, used_all, within, behind, second_leaf, first_leaf, all_rows}

-- the none word stays
renamed_none : (m : ℕ → ℕ) → renamed m none ≡ none
unfolding renamed
renamed_none m = refl

-- ---- listed ids
-- each is a used leaf
listed_leaf : (g : Lent) (marks : ℕ) → Sized g marks → WellFormed g → (k : ℕ) → k < length (listed g) → UsedLeaf g (get_or (listed g) k 0)
listed_leaf g marks s w k l = ⊎_elim in_inputs in_latches (lt_or_le k g.counts.inputs)
  where
    long : length (listed g) ≡ g.counts.inputs + g.counts.latches
    long = all_long g.inputs g.counts.inputs g.latches g.counts.latches s.inputs.within

    in_inputs : k < g.counts.inputs → UsedLeaf g (get_or (listed g) k 0)
    in_inputs h = rw (input_at g.inputs g.counts.inputs g.latches g.counts.latches s.inputs.within k h) (w.inputs k h)

    in_latches : g.counts.inputs ≤ k → UsedLeaf g (get_or (listed g) k 0)
    in_latches h =
        let e : k ≡ g.counts.inputs + (k - g.counts.inputs) = omega arith in
        let i : k - g.counts.inputs < g.counts.latches = omega (arith, long) in
        rw (ap (λ (x : ℕ). get_or (listed g) x 0) e ∙ latch_at_lem g.inputs g.counts.inputs g.latches g.counts.latches s.inputs.within (k - g.counts.inputs) i)
        (w.latches (k - g.counts.inputs) i)

-- and stands at one place
one_place : (g : Lent) → WellFormed g → (p q : ℕ) → p < length (listed g) → q < length (listed g) → get_or (listed g) p 0 ≡ get_or (listed g) q 0 → p ≡ q
one_place g w p q h k e =
    ⊎_elim
    (λ (l : p < q). absurd (w.once p q l k e))
    (λ (l : q ≤ p). ⊎_elim (λ (r : q ≡ p). sym r) (λ (r : q < p). absurd (w.once q p r h (sym e))) (eq-or-lt_of_le l))
    (lt_or_le p q)

module _ (a b : Lent) (marks : ℕ) (l : MergeLent a b marks) where
  abbrev g : Lent
  g = merged a b

  abbrev m : ℕ → ℕ
  m = shifted (offset a)

  some : 0 < a.counts.rows
  some = l.sized.first.rows.some

  few_second : b.counts.rows ≤ max_rows
  few_second = omega (arith, l.sized.second.rows.fit.within, l.sized.second.rows.fit.limited)

  -- ---- the lists, entry by entry
  pub counted : g.counts ≡ summed a.counts b.counts
  unfolding merged
  counted = refl

  pub first_inputs : SameBefore a.counts.inputs a.inputs g.inputs
  unfolding merged
  first_inputs j h = written_before a.inputs a.counts.inputs (ids_of m b.inputs) b.counts.inputs j h

  pub second_inputs : (j : ℕ) → j < b.counts.inputs → get_or g.inputs (a.counts.inputs + j) 0 ≡ m (get_or b.inputs j 0)
  unfolding merged
  second_inputs j h = written_at_lem a.inputs a.counts.inputs (ids_of m b.inputs) b.counts.inputs j (inputs_room a b.counts l.room) h

  pub first_lists : ListsKept a.counts (lists_of a) (lists_of g)
  unfolding merged
  first_lists = lists_kept m (lists_of a) a.counts (lists_of b) b.counts

  pub second_lists : Renumbered m a.counts (lists_of b) b.counts (lists_of g)
  unfolding merged
  second_lists = renumbered m (lists_of a) a.counts (lists_of b) b.counts (lists_room a b.counts l.room)

  -- ---- sizes
  pub sized : (n : ℕ) → g.counts.rows ≤ n → Sized g n
  unfolding merged summed renumber
  sized n h =
      let s = l.sized.first in
      let r = l.room in
      record {
        rows = record { some = omega (arith, s.rows.some, l.sized.second.rows.some); fit = rw (written_length a.rows _ _ _) (record { within = r.rows; limited = s.rows.fit.limited }) };
        marked = h;
        inputs = rw (written_length a.inputs _ _ _) (record { within = r.inputs; limited = s.inputs.limited });
        latches = rw (latches_length m a.latches a.counts.latches b.latches b.counts.latches) (record { within = r.latches; limited = s.latches.limited });
        constraints = rw (written_length a.constraints _ _ _) (record { within = r.constraints; limited = s.constraints.limited });
        bads = rw (written_length a.bads _ _ _) (record { within = r.bads; limited = s.bads.limited });
        outputs = rw (written_length a.outputs _ _ _) (record { within = r.outputs; limited = s.outputs.limited });
        ends = rw (written_length a.ends _ _ _) (record { within = r.ends; limited = s.ends.limited });
        edges = rw (written_length a.edges _ _ _) (record { within = r.edges; limited = s.edges.limited });
        fairness = rw (written_length a.fairness _ _ _) (record { within = r.fairness; limited = s.fairness.limited });
      }

  -- ---- ids
  -- a used row of the first is one of the whole
  still : (i : ℕ) → i < a.counts.rows → i < g.counts.rows
  still i h = omega (arith, used_all a b marks l, l.sized.second.rows.some)

  first_used_leaf : (x : ℕ) → UsedLeaf a x → UsedLeaf g x
  first_used_leaf x t = (still x t.0, first_leaf a b marks l x t.0 t.1)

  second_used_leaf : (x : ℕ) → UsedLeaf b x → UsedLeaf g (m x)
  second_used_leaf x t = (within a b marks l x t.0, second_leaf a b marks l x t.0 t.1)

  inputs_leaves : (i : ℕ) → i < a.counts.inputs + b.counts.inputs → UsedLeaf g (get_or g.inputs i 0)
  inputs_leaves i h =
      ⊎_elim (λ (k : i < a.counts.inputs). rw (first_inputs i k) (first_used_leaf (get_or a.inputs i 0) (l.first.inputs i k)))
      (λ (k : a.counts.inputs ≤ i). let e : i ≡ a.counts.inputs + (i - a.counts.inputs) = omega arith in let j : i - a.counts.inputs < b.counts.inputs = omega arith in rw
      (ap (λ (x : ℕ). get_or g.inputs x 0) e ∙ second_inputs (i - a.counts.inputs) j)
      (second_used_leaf (get_or b.inputs (i - a.counts.inputs) 0) (l.second.inputs (i - a.counts.inputs) j))) (lt_or_le i a.counts.inputs)

  -- ---- latches
  -- latch i is one of the first, or one of the second under the map
  latch_from : (P : Latch → Type 0) → ((i : ℕ) → i < a.counts.latches → P (latch_at a.latches i)) → ((i : ℕ) → i < b.counts.latches → P (renamed_latch m (latch_at b.latches i)))
      → (i : ℕ) → i < a.counts.latches + b.counts.latches → P (latch_at g.latches i)
  latch_from P p q i h =
      ⊎_elim
      (λ (k : i < a.counts.latches). subst P (sym (first_lists.latches i k)) (p i k))
      (λ (k : a.counts.latches ≤ i).
      let e : i ≡ a.counts.latches + (i - a.counts.latches) = omega arith in
      let j : i - a.counts.latches < b.counts.latches = omega arith in
      subst P (sym (ap (latch_at g.latches) e ∙ second_lists.latches (i - a.counts.latches) j)) (q (i - a.counts.latches) j))
      (lt_or_le i a.counts.latches)

  edge_used : (e : ℕ) → id_of e < b.counts.rows → id_of (renamed m e) < g.counts.rows
  edge_used e h = renamed_used m b.counts.rows g.counts.rows few_second (within a b marks l) e h

  latch_inputs_lem : (i : ℕ) → i < a.counts.latches + b.counts.latches → UsedLeaf g (latch_at g.latches i).input
  unfolding renamed_latch
  latch_inputs_lem =
      latch_from (λ (x : Latch). UsedLeaf g x.input) (λ i h. first_used_leaf (latch_at a.latches i).input (l.first.latches i h))
      (λ i h. second_used_leaf (latch_at b.latches i).input (l.second.latches i h))

  nexts : (i : ℕ) → i < a.counts.latches + b.counts.latches → id_of (latch_at g.latches i).next < g.counts.rows
  unfolding renamed_latch
  nexts =
      latch_from (λ (x : Latch). id_of x.next < g.counts.rows) (λ i h. still (id_of (latch_at a.latches i).next) (l.first.nexts i h))
      (λ i h. edge_used (latch_at b.latches i).next (l.second.nexts i h))

  -- an init, where there is one
  abbrev Init : Latch → Type 0
  Init x = (x.init ≡ none) ⊎ (id_of x.init < g.counts.rows)

  inits : (i : ℕ) → i < a.counts.latches + b.counts.latches → Init (latch_at g.latches i)
  unfolding renamed_latch
  inits =
      latch_from Init
      (λ i h. ⊎_elim (λ e. inl e) (λ u. inr (still (id_of (latch_at a.latches i).init) u)) (l.first.inits i h))
      (λ i h. ⊎_elim (λ e. inl (rw e (renamed_none m))) (λ u. inr (edge_used (latch_at b.latches i).init u)) (l.second.inits i h))

  -- ---- edges
  edges_used : (before after from : List ℕ) (at n : ℕ) → SameBefore at before after → SameEntries m at from n after
      → ((j : ℕ) → j < at → id_of (get_or before j 0) < a.counts.rows) → ((j : ℕ) → j < n → id_of (get_or from j 0) < b.counts.rows)
      → (j : ℕ) → j < at + n → id_of (get_or after j 0) < g.counts.rows
  edges_used before after from at n p q u v =
      entries_used m b.counts.rows g.counts.rows few_second (within a b marks l) before after from at n p q (λ j h. still (id_of (get_or before j 0)) (u j h)) v

  -- ---- justice ends
  abbrev ends : ℕ → ℕ
  ends s = get_or g.ends s 0

  second_end : (s : ℕ) → a.counts.sets ≤ s → s < a.counts.sets + b.counts.sets → ends s ≡ get_or b.ends (s - a.counts.sets) 0 + a.counts.edges
  second_end s h k =
      let e : s ≡ a.counts.sets + (s - a.counts.sets) = omega arith in
      ap ends e ∙ second_lists.ends (s - a.counts.sets) (omega arith)

  rise : (s : ℕ) → s + 1 < a.counts.sets + b.counts.sets → ends s ≤ ends (s + 1)
  rise s h = ⊎_elim low high (lt_or_le s a.counts.sets)
    where
      high : a.counts.sets ≤ s → ends s ≤ ends (s + 1)
      high k =
          let q : (s + 1) - a.counts.sets ≡ (s - a.counts.sets) + 1 = omega arith in
          let r : (s - a.counts.sets) + 1 < b.counts.sets = omega arith in
          omega (arith, second_end s k (omega arith), second_end (s + 1) (omega arith) h, ap (λ (x : ℕ). get_or b.ends x 0) q, l.second.ends (s - a.counts.sets) r)

      low : s < a.counts.sets → ends s ≤ ends (s + 1)
      low k =
          ⊎_elim
          (λ (e : s + 1 ≡ a.counts.sets). omega (arith, first_lists.ends s k, l.first.last s e, second_end (s + 1) (omega arith) h))
          (λ (r : s + 1 < a.counts.sets). omega (arith, first_lists.ends s k, first_lists.ends (s + 1) r, l.first.ends s r))
          (eq-or-lt_of_le {n = s + 1} {m = a.counts.sets} (omega arith))

  last : (s : ℕ) → s + 1 ≡ a.counts.sets + b.counts.sets → ends s ≡ a.counts.edges + b.counts.edges
  last s e = ⊎_elim low high (lt_or_le s a.counts.sets)
    where
      high : a.counts.sets ≤ s → ends s ≡ a.counts.edges + b.counts.edges
      high k =
          let r : (s - a.counts.sets) + 1 ≡ b.counts.sets = omega arith in
          omega (arith, second_end s k (omega arith), l.second.last (s - a.counts.sets) r)

      low : s < a.counts.sets → ends s ≡ a.counts.edges + b.counts.edges
      low k =
          let z : b.counts.sets ≡ 0 = omega arith in
          let q : s + 1 ≡ a.counts.sets = omega arith in
          omega (arith, first_lists.ends s k, l.first.last s q, l.second.no_sets z)

  -- ---- no leaf is listed twice
  abbrev all : List ℕ
  all = take (a.counts.inputs + b.counts.inputs) g.inputs ++ latch_inputs g.latches (a.counts.latches + b.counts.latches)

  fit : a.counts.inputs + b.counts.inputs ≤ length g.inputs
  unfolding merged
  fit = rw (written_length a.inputs a.counts.inputs (ids_of m b.inputs) b.counts.inputs) (inputs_room a b.counts l.room)

  long : length all ≡ (a.counts.inputs + b.counts.inputs) + (a.counts.latches + b.counts.latches)
  long = all_long g.inputs (a.counts.inputs + b.counts.inputs) g.latches (a.counts.latches + b.counts.latches) fit

  long_first : length (listed a) ≡ a.counts.inputs + a.counts.latches
  long_first = all_long a.inputs a.counts.inputs a.latches a.counts.latches l.sized.first.inputs.within

  long_second : length (listed b) ≡ b.counts.inputs + b.counts.latches
  long_second = all_long b.inputs b.counts.inputs b.latches b.counts.latches l.sized.second.inputs.within

  -- where place p of the first's listed ids goes, and place q of the second's
  first_place : ℕ → ℕ
  first_place p = cond (ltb p a.counts.inputs) p (p + b.counts.inputs)

  second_place : ℕ → ℕ
  second_place q = cond (ltb q b.counts.inputs) (a.counts.inputs + q) (a.counts.inputs + a.counts.latches + q)

  -- what is listed at k is from the first, or from the second
  data From (k : ℕ) : Type 0 where
    old : (p : ℕ) → p < length (listed a) → k ≡ first_place p → get_or all k 0 ≡ get_or (listed a) p 0 → From k
    new : (q : ℕ) → q < length (listed b) → k ≡ second_place q → get_or all k 0 ≡ m (get_or (listed b) q 0) → From k

  from_input : (k : ℕ) → k < a.counts.inputs + b.counts.inputs → From k
  unfolding first_place second_place
  from_input k h = ⊎_elim first second (lt_or_le k a.counts.inputs)
    where
      here : get_or all k 0 ≡ get_or g.inputs k 0
      here = input_at g.inputs (a.counts.inputs + b.counts.inputs) g.latches (a.counts.latches + b.counts.latches) fit k h

      first : k < a.counts.inputs → From k
      first r =
          old k (omega (arith, long_first)) (rw (lt-ltb k a.counts.inputs r))
          (here ∙ (first_inputs k r ∙ sym (input_at a.inputs a.counts.inputs a.latches a.counts.latches l.sized.first.inputs.within k r)))

      second : a.counts.inputs ≤ k → From k
      second r =
          let q = k - a.counts.inputs in
          let e : k ≡ a.counts.inputs + q = omega arith in
          let u : q < b.counts.inputs = omega arith in
          new q (omega (arith, long_second)) (rw (lt-ltb q b.counts.inputs u) e)
          (here ∙
          (ap (λ (x : ℕ). get_or g.inputs x 0) e ∙
          (second_inputs q u ∙ ap m (sym (input_at b.inputs b.counts.inputs b.latches b.counts.latches l.sized.second.inputs.within q u)))))

  from_latch : (i : ℕ) → i < a.counts.latches + b.counts.latches → From (a.counts.inputs + b.counts.inputs + i)
  unfolding first_place second_place renamed_latch
  from_latch i h = ⊎_elim first second (lt_or_le i a.counts.latches)
    where
      here : get_or all (a.counts.inputs + b.counts.inputs + i) 0 ≡ (latch_at g.latches i).input
      here = latch_at_lem g.inputs (a.counts.inputs + b.counts.inputs) g.latches (a.counts.latches + b.counts.latches) fit i h

      first : i < a.counts.latches → From (a.counts.inputs + b.counts.inputs + i)
      first r =
          old (a.counts.inputs + i) (omega (arith, long_first)) (rw (le-ltb (a.counts.inputs + i) a.counts.inputs (omega arith)) (omega arith))
          (here ∙ (ap (λ (x : Latch). x.input) (first_lists.latches i r) ∙ sym (latch_at_lem a.inputs a.counts.inputs a.latches a.counts.latches l.sized.first.inputs.within i r)))

      second : a.counts.latches ≤ i → From (a.counts.inputs + b.counts.inputs + i)
      second r =
          let j = i - a.counts.latches in
          let e : i ≡ a.counts.latches + j = omega arith in
          let u : j < b.counts.latches = omega arith in
          new (b.counts.inputs + j) (omega (arith, long_second)) (rw (le-ltb (b.counts.inputs + j) b.counts.inputs (omega arith)) (omega arith))
          (here ∙
          (ap (λ (x : ℕ). (latch_at g.latches x).input) e ∙
          (ap (λ (x : Latch). x.input) (second_lists.latches j u) ∙ ap m
          (sym (latch_at_lem b.inputs b.counts.inputs b.latches b.counts.latches l.sized.second.inputs.within j u)))))

  from : (k : ℕ) → k < length all → From k
  from k h =
      ⊎_elim
      (λ (r : k < a.counts.inputs + b.counts.inputs). from_input k r)
      (λ (r : a.counts.inputs + b.counts.inputs ≤ k).
      let i = k - (a.counts.inputs + b.counts.inputs) in
      let e : a.counts.inputs + b.counts.inputs + i ≡ k = omega arith in
      subst From e (from_latch i (omega (arith, long))))
      (lt_or_le k (a.counts.inputs + b.counts.inputs))

  -- an id of the first is no id of the second
  no_meeting : (p q : ℕ) → p < length (listed a) → q < length (listed b) → get_or (listed a) p 0 ≡ m (get_or (listed b) q 0) → ⊥
  no_meeting p q h k e =
      let t = listed_leaf a marks l.sized.first l.first p h in
      let u = listed_leaf b marks l.sized.second l.second q k in
      let x = get_or (listed b) q 0 in
      omega (arith, t.0, behind a b marks l x (leaf_some x (word0 b.rows x) (word1 b.rows x) u.1))

  once : (i j : ℕ) → i < j → j < length all → get_or all i 0 ≡ get_or all j 0 → ⊥
  once i j h k e = go (from i (omega arith)) (from j k)
    where
      apart : i ≡ j → ⊥
      apart q = omega arith

      go : From i → From j → ⊥
      go (old p u r x) (old q v s y) = apart (r ∙ (ap first_place (one_place a l.first p q u v (sym x ∙ (e ∙ y))) ∙ sym s))
      go (old p u r x) (new q v s y) = no_meeting p q u v (sym x ∙ (e ∙ y))
      go (new p u r x) (old q v s y) = no_meeting q p v u (sym y ∙ (sym e ∙ x))
      go (new p u r x) (new q v s y) = apart (r ∙ (ap second_place (one_place b l.second p q u v (shifted_apart (offset a) (get_or (listed b) p 0) (get_or (listed b) q 0) (sym x ∙ (e ∙ y)))) ∙ sym s))

  -- ---- the whole
  pub well_formed : WellFormed g
  unfolding merged summed
  well_formed =
      record {
        rows = all_rows a b marks l;
        inputs = inputs_leaves;
        latches = latch_inputs_lem;
        once = once;
        nexts = nexts;
        inits = inits;
        constraints = edges_used a.constraints g.constraints b.constraints a.counts.constraints b.counts.constraints first_lists.constraints second_lists.constraints
            l.first.constraints l.second.constraints;
        bads = edges_used a.bads g.bads b.bads a.counts.bads b.counts.bads first_lists.bads second_lists.bads l.first.bads l.second.bads;
        outputs = edges_used a.outputs g.outputs b.outputs a.counts.outputs b.counts.outputs first_lists.outputs second_lists.outputs l.first.outputs l.second.outputs;
        edges = edges_used a.edges g.edges b.edges a.counts.edges b.counts.edges first_lists.edges second_lists.edges l.first.edges l.second.edges;
        fairness = edges_used a.fairness g.fairness b.fairness a.counts.fairness b.counts.fairness first_lists.fairness second_lists.fairness l.first.fairness
            l.second.fairness;
        ends = rise;
        last = last;
        no_sets = no_sets;
      }
    where
      no_sets : a.counts.sets + b.counts.sets ≡ 0 → a.counts.edges + b.counts.edges ≡ 0
      no_sets e =
          let p : a.counts.sets ≡ 0 = omega arith in
          let q : b.counts.sets ≡ 0 = omega arith in
          omega (arith, l.first.no_sets p, l.second.no_sets q)
