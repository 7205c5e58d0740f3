-- `check` is exact: it accepts the well-formed graphs of right sizes, and its answer names the first fault of any other.
-- Assumes nothing.
use Prim.Native.Nat.{ℕ, zero, suc, ◌+◌, ◌-◌, ◌≤◌, ◌<◌}
use native.Mathlib.Omega.{arith}
use native.Mathlib.Numerals.{add-one}
use mathlib.Core.Path.{◌≡◌, refl, sym, ap, ◌∙◌}
use mathlib.Core.Bool.{Bool, true, false, cond, not, ◌||◌}
use mathlib.Core.Logic.{◌⊎◌, inl, inr, ⊎_elim}
use mathlib.Core.List.{List, ◌++◌}
use lib.ListN.{length, get_or, take}
use lib.Dec.{ltb, eqb}
use borrow.Author.Tests.{ltb-true, lt-ltb, le-leb, eqb-true, eq-eqb}
use Rattle.edge.specs.declared.answer.Given.{Given}
use Rattle.edge.specs.Answers.{done, bad_sizes}
use Rattle.edge.specs.Edges.{id_of}
use Rattle.edge.proofs.Tests.{both, both_true, either, or_right, false_true, lt_or_le}
use Rattle.rows.specs.Sizes.{fits, Fit, rows_fit}
use Rattle.rows.specs.Rows.{none, AllRows}
use Rattle.graph.specs.declared.latch.Latch.{Latch}
use Rattle.graph.specs.Stages.{AllClean, Names, first_fault}
use Rattle.graph.specs.Stages.AllClean.{nothing, more}
use Rattle.graph.specs.Stages.Names.{here, later}
use Rattle.graph.specs.Latches.{latch_at, latch_inputs}
use Rattle.graph.specs.Leaves.{used_edge, good_edge, free_leaf, good_input, latch_edges, good_latch}
use Rattle.graph.specs.Justice.{start, end_is, good_end}
use Rattle.graph.specs.Graph.{Lent, sizes_right, Sized}
use Rattle.graph.specs.Check.{stages, contents, cleared, CheckSeen, check_call}
use Rattle.graph.specs.WellFormed.{listed, UsedEdges, WellFormed, Exact}
use Rattle.graph.proofs.Stages.{judged, clean_done, named_entry}
use Rattle.graph.proofs.Stages.{ends, also}
use Rattle.graph.proofs.Sets.{End, end_is_lem, start_next}
use Rattle.graph.proofs.Checked.{sized}
use Rattle.graph.proofs.Listed.{all_long, input_at, input_before, latch_at_lem, latch_before, new_differs, differs_new, Free, free, is_free}

-- ---- sizes, the other way round
fits_true : {count room limit : ℕ} → Fit count room limit → fits count room limit ≡ true
unfolding fits
fits_true {count} {room} {limit} f = rw (le-leb count room f.within, le-leb room limit f.limited)

pub sizes_true : (g : Lent) (marks : ℕ) → Sized g marks → sizes_right g marks ≡ true
unfolding sizes_right rows_fit
sizes_true g marks s =
    both_true (both_true (both_true (both_true (both_true (both_true (both_true (both_true (both_true
    (both_true (lt-ltb 0 g.counts.rows s.rows.some) (fits_true s.rows.fit))
    (le-leb g.counts.rows marks s.marked))
    (fits_true s.inputs))
    (fits_true s.latches))
    (fits_true s.constraints))
    (fits_true s.bads))
    (fits_true s.outputs))
    (fits_true s.ends))
    (fits_true s.edges))
    (fits_true s.fairness)

-- ---- a list of edges
edges_used : (g : Lent) (list : List ℕ) (n : ℕ) → ((i : ℕ) → i < n → good_edge g.counts.rows list i ≡ true) → UsedEdges g list n
edges_used g list n good i l = ltb-true (id_of (get_or list i 0)) g.counts.rows (good i l)

edges_good : (g : Lent) (list : List ℕ) (n : ℕ) → UsedEdges g list n → (i : ℕ) → i < n → good_edge g.counts.rows list i ≡ true
edges_good g list n used i l = lt-ltb (id_of (get_or list i 0)) g.counts.rows (used i l)

-- ---- the edges of a latch
record LatchEdges (used : ℕ) (l : Latch) : Type 0 where
  next : id_of l.next < used
  init : (l.init ≡ none) ⊎ (id_of l.init < used)

latch_edges_lem : (used : ℕ) (l : Latch) → latch_edges used l ≡ true → LatchEdges used l
unfolding latch_edges
latch_edges_lem used l h =
    let t = both {a = used_edge used l.next} {b = eqb l.init none || used_edge used l.init} h in
    record {
      next = ltb-true _ _ t.0;
      init = ⊎_elim (λ e. inl (eqb-true l.init none e)) (λ u. inr (ltb-true (id_of l.init) used u)) (either {a = eqb l.init none} t.1);
    }

latch_good : (used : ℕ) (l : Latch) → LatchEdges used l → latch_edges used l ≡ true
unfolding latch_edges
latch_good used l e =
    both_true (lt-ltb (id_of l.next) used e.next)
    (⊎_elim (λ q. rw (eq-eqb l.init none q)) (λ u. or_right (eqb l.init none) (lt-ltb (id_of l.init) used u)) e.init)

-- ---- justice ends
module _ (g : Lent) (w : WellFormed g) where
  -- no end is above the number of edges: they rise up to the last
  ends_within : (d s : ℕ) → s + d + 1 ≡ g.counts.sets → get_or g.ends s 0 ≤ g.counts.edges
  ends_within zero s e = omega (arith, w.last s (omega arith))
  ends_within (suc d) s e = omega (arith, w.ends s (omega arith), ends_within d (s + 1) (omega arith))

  rises : (s : ℕ) → s < g.counts.sets → start g.ends s ≤ get_or g.ends s 0
  rises zero l = omega arith
  rises (suc s) l = let h = w.ends s (omega arith) in rw add-one at h

  end_good : (s : ℕ) → s < g.counts.sets → good_end g.ends g.counts.sets g.counts.edges s ≡ true
  unfolding end_is
  end_good s l =
      both_true
      (both_true (le-leb (start g.ends s) (get_or g.ends s 0) (rises s l)) (le-leb (get_or g.ends s 0) g.counts.edges (ends_within (g.counts.sets - (s + 1)) s (omega arith))))
      (last (eqb (s + 1) g.counts.sets) refl)
    where
      last : (t : Bool) → eqb (s + 1) g.counts.sets ≡ t → not t || eqb (get_or g.ends s 0) g.counts.edges ≡ true
      last true e = eq-eqb _ _ (w.last s (eqb-true (s + 1) g.counts.sets e))
      last false e = refl

-- ---- nothing is bad exactly if the graph is well-formed
module _ (g : Lent) (m : ℕ) (size : Sized g m) where
  abbrev n : ℕ
  n = g.counts.inputs

  abbrev fit : n ≤ length g.inputs
  fit = size.inputs.within

  -- the entry at j of the listed ids, which is free where it stands
  module _ (inputs : (i : ℕ) → i < n → good_input g.rows g.counts.rows g.inputs i ≡ true)
      (latches : (i : ℕ) → i < g.counts.latches → good_latch g.rows g.counts.rows (take n g.inputs) g.latches i ≡ true) where
    input_free : (i : ℕ) → i < n → Free g.rows g.counts.rows (take i g.inputs) (get_or g.inputs i 0)
    input_free i l = free g.rows g.counts.rows (take i g.inputs) (get_or g.inputs i 0) (inputs i l)

    latch_free : (i : ℕ) → i < g.counts.latches
        → Free g.rows g.counts.rows (take n g.inputs ++ latch_inputs g.latches i) (latch_at g.latches i).input × LatchEdges g.counts.rows (latch_at g.latches i)
    latch_free i l =
        let t = both {a = free_leaf g.rows g.counts.rows (take n g.inputs ++ latch_inputs g.latches i) (latch_at g.latches i).input} (latches i l) in
        (free _ _ _ _ t.0, latch_edges_lem _ _ t.1)

    once : (i j : ℕ) → i < j → j < length (listed g) → get_or (listed g) i 0 ≡ get_or (listed g) j 0 → ⊥
    once i j l h = ⊎_elim in_inputs in_latches (lt_or_le j n)
      where
        long : length (listed g) ≡ n + g.counts.latches
        long = all_long g.inputs n g.latches g.counts.latches fit

        in_inputs : j < n → get_or (listed g) i 0 ≡ get_or (listed g) j 0 → ⊥
        in_inputs lt =
            new_differs (listed g) j
            (rw (input_at g.inputs n g.latches g.counts.latches fit j lt, input_before g.inputs n g.latches g.counts.latches fit j lt) (input_free j lt).new)
            (omega arith) i l

        in_latches : n ≤ j → get_or (listed g) i 0 ≡ get_or (listed g) j 0 → ⊥
        in_latches le =
            let q : j ≡ n + (j - n) = omega arith in
            let k : j - n < g.counts.latches = omega (arith, long) in
            new_differs (listed g) j
            (rw (q, latch_at_lem g.inputs n g.latches g.counts.latches fit (j - n) k, latch_before g.inputs n g.latches g.counts.latches fit (j - n) (omega arith))
            (latch_free (j - n) k).0.new) (omega arith) i l

  well_formed : AllClean (stages g) → WellFormed g
  well_formed (more rows (more inputs (more latches (more constraints (more bads (more outputs (more sets (more ends' (more edges (more fairness nothing)))))))))) =
      record {
        rows = rows;
        inputs = λ i l. ((input_free inputs latches i l).used_row_lem, (input_free inputs latches i l).leaf);
        latches = λ i l. ((latch_free inputs latches i l).0.used_row_lem, (latch_free inputs latches i l).0.leaf);
        once = once inputs latches;
        nexts = λ i l. (latch_free inputs latches i l).1.next;
        inits = λ i l. (latch_free inputs latches i l).1.init;
        constraints = edges_used g g.constraints g.counts.constraints constraints;
        bads = edges_used g g.bads g.counts.bads bads;
        outputs = edges_used g g.outputs g.counts.outputs outputs;
        edges = edges_used g g.edges g.counts.edges edges;
        fairness = edges_used g g.fairness g.counts.fairness fairness;
        ends = λ s l. omega (arith, (end s (omega arith)).rises, (end (s + 1) l).rises, start_next g.ends s);
        last = λ s e. (end s (omega arith)).last e;
        no_sets = λ e. no_edges e (sets 0 (omega arith));
      }
    where
      end : (s : ℕ) → s < g.counts.sets → End g.counts.sets g.counts.edges s (start g.ends s) (get_or g.ends s 0)
      end s l = end_is_lem g.counts.sets g.counts.edges s (start g.ends s) (get_or g.ends s 0) (ends' s l)

      no_edges : g.counts.sets ≡ 0 → ltb 0 g.counts.sets || eqb g.counts.edges 0 ≡ true → g.counts.edges ≡ 0
      no_edges e h = eqb-true g.counts.edges 0 (rw e at h)

  pub all_clean : WellFormed g → AllClean (stages g)
  all_clean w =
      more w.rows
      (more input_good
      (more latches_good
      (more (edges_good g g.constraints g.counts.constraints w.constraints)
      (more (edges_good g g.bads g.counts.bads w.bads)
      (more (edges_good g g.outputs g.counts.outputs w.outputs)
      (more (λ i l. some_sets (lt_or_le 0 g.counts.sets))
      (more (end_good g w)
      (more (edges_good g g.edges g.counts.edges w.edges)
      (more (edges_good g g.fairness g.counts.fairness w.fairness) nothing)))))))))
    where
      some_sets : (0 < g.counts.sets) ⊎ (g.counts.sets ≤ 0) → ltb 0 g.counts.sets || eqb g.counts.edges 0 ≡ true
      some_sets (inl l) = rw (lt-ltb 0 g.counts.sets l)
      some_sets (inr h) = or_right (ltb 0 g.counts.sets) (eq-eqb g.counts.edges 0 (w.no_sets (omega arith)))

      long : length (listed g) ≡ n + g.counts.latches
      long = all_long g.inputs n g.latches g.counts.latches fit

      input_good : (i : ℕ) → i < n → good_input g.rows g.counts.rows g.inputs i ≡ true
      input_good i l =
          let new = differs_new (listed g) i (omega (arith, long)) (λ k lt. w.once k i lt (omega (arith, long))) in
          is_free g.rows g.counts.rows (take i g.inputs) (get_or g.inputs i 0) (w.inputs i l).0 (w.inputs i l).1
          (rw (input_at g.inputs n g.latches g.counts.latches fit i l, input_before g.inputs n g.latches g.counts.latches fit i l) at new)

      latches_good : (i : ℕ) → i < g.counts.latches → good_latch g.rows g.counts.rows (take n g.inputs) g.latches i ≡ true
      latches_good i l =
          let new = differs_new (listed g) (n + i) (omega (arith, long)) (λ k lt. w.once k (n + i) lt (omega (arith, long))) in
          both_true
          (is_free g.rows g.counts.rows (take n g.inputs ++ latch_inputs g.latches i) (latch_at g.latches i).input (w.latches i l).0 (w.latches i l).1
          (rw (latch_at_lem g.inputs n g.latches g.counts.latches fit i l, latch_before g.inputs n g.latches g.counts.latches fit i (omega arith)) at new))
          (latch_good g.counts.rows (latch_at g.latches i) (record { next = w.nexts i l; init = w.inits i l }))

-- ---- the call
module _ (g : Lent) where
  abbrev Rows : Type 0
  Rows = AllRows g.rows g.counts.rows

  -- the first fault is a row, or all rows are good and it is an entry
  pub row_or_entry : {p : Given} → Names (stages g) p → ((p.number ≡ 2) × (Rows → ⊥)) ⊎ ((p.number ≡ 3) × Rows)
  row_or_entry (here i l b before) = inl (refl, λ all. false_true (sym b ∙ all i l))
  row_or_entry (later rows names) =
      inr (
        named_entry (also (λ i. refl) (also (λ i. refl) (also (λ i. refl) (also (λ i. refl) (also (λ i. refl) (also (λ i. refl) (also (λ i. refl) (also (λ i. refl) (also (λ i. refl) ends)))))))))
            names,
        rows,
      )

-- what is known of a graph by its answer
data Judged (g : Lent) (marks : List ℕ) : Given → Type 0 where
  unsized : (Sized g (length marks) → ⊥) → Judged g marks bad_sizes
  sound : Sized g (length marks) → WellFormed g → Judged g marks done
  faulty : {p : Given} → Sized g (length marks) → (WellFormed g → ⊥) → Names (stages g) p → Judged g marks p

module _ (g : Lent) (marks : List ℕ) where
  judgement : Judged g marks (check_call g marks).given
  unfolding check_call contents
  judgement = go (sizes_right g (length marks)) refl
    where
      in_sized : Sized g (length marks) → AllClean (stages g) ⊎ Names (stages g) (first_fault (stages g)) → Judged g marks (first_fault (stages g))
      in_sized s (inl all) = rw (clean_done all) (sound s (well_formed g (length marks) s all))
      in_sized s (inr names) = faulty s (λ w. not_both names (clean_done (all_clean g (length marks) s w))) names
        where
          not_both : {p : Given} → Names (stages g) p → p ≡ done → ⊥
          not_both names e = ⊎_elim (λ t. no_two (sym t.0 ∙ number e)) (λ t. no_three (sym t.0 ∙ number e)) (row_or_entry g names)
            where
              number : {p q : Given} → p ≡ q → p.number ≡ q.number
              number e = ap (λ (x : Given). x.number) e

              no_two : ◌≡◌ {A = ℕ} 2 0 → ⊥
              no_two e = omega arith

              no_three : ◌≡◌ {A = ℕ} 3 0 → ⊥
              no_three e = omega arith

      go : (t : Bool) → sizes_right g (length marks) ≡ t
          → Judged g marks (cond {A = CheckSeen} t (record { given = first_fault (stages g); marks = cleared g.counts.rows marks }) (record { given = bad_sizes; marks = marks })).given
      go true e = in_sized (sized g (length marks) e) (judged (stages g))
      go false e = unsized (λ s. false_true (sym e ∙ sizes_true g (length marks) s))

  -- no stage answers 1
  not_sizes : (contents g).number ≡ 1 → ⊥
  unfolding contents
  not_sizes = go (judged (stages g))
    where
      go : AllClean (stages g) ⊎ Names (stages g) (first_fault (stages g)) → (first_fault (stages g)).number ≡ 1 → ⊥
      go (inl all) e = let z : (first_fault (stages g)).number ≡ 0 = ap (λ (x : Given). x.number) (clean_done all) in omega arith
      go (inr names) e = ⊎_elim (λ t. omega (arith, t.0)) (λ t. omega (arith, t.0)) (row_or_entry g names)

  untouched : (check_call g marks).given.number ≡ 1 → (check_call g marks).marks ≡ marks
  unfolding check_call
  untouched = go (sizes_right g (length marks))
    where
      go : (t : Bool) → (cond {A = CheckSeen} t (record { given = contents g; marks = cleared g.counts.rows marks }) (record { given = bad_sizes; marks = marks })).given.number ≡ 1
          → (cond {A = CheckSeen} t (record { given = contents g; marks = cleared g.counts.rows marks }) (record { given = bad_sizes; marks = marks })).marks ≡ marks
      go true e = absurd (not_sizes e)
      go false e = refl

  clear : ((check_call g marks).given.number ≡ 1 → ⊥) → (check_call g marks).marks ≡ cleared g.counts.rows marks
  unfolding check_call
  clear = go (sizes_right g (length marks))
    where
      go : (t : Bool) → ((cond {A = CheckSeen} t (record { given = contents g; marks = cleared g.counts.rows marks }) (record { given = bad_sizes; marks = marks })).given.number ≡ 1 → ⊥)
          → (cond {A = CheckSeen} t (record { given = contents g; marks = cleared g.counts.rows marks }) (record { given = bad_sizes; marks = marks })).marks ≡ cleared g.counts.rows marks
      go true h = refl
      go false h = absurd (h refl)

  pub exact : Exact g marks
  exact =
      record {
        accepts = λ s w. accepts judgement s w;
        accepted = λ e. accepted judgement e;
        refuses = λ n. refuses judgement n;
        refused = λ e s. refused judgement e s;
        refuses_row = λ s n. refuses_row judgement s n;
        refused_row = λ e. refused_row judgement e;
        refuses_entry = λ s r n. refuses_entry judgement s r n;
        refused_entry = λ e. refused_entry judgement e;
        names = λ s n. names judgement s n;
        untouched = untouched;
        clear = clear;
      }
    where
      accepts : {p : Given} → Judged g marks p → Sized g (length marks) → WellFormed g → p ≡ done
      accepts (unsized n) s w = absurd (n s)
      accepts (sound s w) s' w' = refl
      accepts (faulty s n first) s' w = absurd (n w)

      refuses : {p : Given} → Judged g marks p → (Sized g (length marks) → ⊥) → p ≡ bad_sizes
      refuses (unsized n) n' = refl
      refuses (sound s w) n = absurd (n s)
      refuses (faulty s n first) n' = absurd (n' s)

      names : {p : Given} → Judged g marks p → Sized g (length marks) → (WellFormed g → ⊥) → Names (stages g) p
      names (unsized n) s n' = absurd (n s)
      names (sound s w) s' n = absurd (n w)
      names (faulty s n first) s' n' = first

      -- the number of an answer that names a fault
      at_least : {p : Given} → Names (stages g) p → 2 ≤ p.number
      at_least first = ⊎_elim (λ t. omega (arith, t.0)) (λ t. omega (arith, t.0)) (row_or_entry g first)

      accepted : {p : Given} → Judged g marks p → p.number ≡ 0 → Sized g (length marks) × WellFormed g
      accepted (unsized n) e = absurd (omega arith)
      accepted (sound s w) e = (s, w)
      accepted (faulty s n first) e = absurd (omega (arith, at_least first))

      refused : {p : Given} → Judged g marks p → p.number ≡ 1 → Sized g (length marks) → ⊥
      refused (unsized n) e s = n s
      refused (sound s w) e s' = omega arith
      refused (faulty s n first) e s' = omega (arith, at_least first)

      refuses_row : {p : Given} → Judged g marks p → Sized g (length marks) → (Rows g → ⊥) → p.number ≡ 2
      refuses_row (unsized n) s r = absurd (n s)
      refuses_row (sound s w) s' r = absurd (r w.rows)
      refuses_row (faulty s n first) s' r = ⊎_elim (λ t. t.0) (λ t. absurd (r t.1)) (row_or_entry g first)

      refused_row : {p : Given} → Judged g marks p → p.number ≡ 2 → Sized g (length marks) × (Rows g → ⊥)
      refused_row (unsized n) e = absurd (omega arith)
      refused_row (sound s w) e = absurd (omega arith)
      refused_row (faulty s n first) e = (s, ⊎_elim (λ t. t.1) (λ t. absurd (omega (arith, t.0))) (row_or_entry g first))

      refuses_entry : {p : Given} → Judged g marks p → Sized g (length marks) → Rows g → (WellFormed g → ⊥) → p.number ≡ 3
      refuses_entry (unsized n) s r n' = absurd (n s)
      refuses_entry (sound s w) s' r n = absurd (n w)
      refuses_entry (faulty s n first) s' r n' = ⊎_elim (λ t. absurd (t.1 r)) (λ t. t.0) (row_or_entry g first)

      refused_entry : {p : Given} → Judged g marks p → p.number ≡ 3 → Sized g (length marks) × Rows g × (WellFormed g → ⊥)
      refused_entry (unsized n) e = absurd (omega arith)
      refused_entry (sound s w) e = absurd (omega arith)
      refused_entry (faulty s n first) e = (s, ⊎_elim (λ t. absurd (omega (arith, t.0))) (λ t. t.1) (row_or_entry g first), n)
