-- A well-formed graph stays one where a latch is added.
-- Assumes nothing.
use Prim.Native.Nat.{ℕ, ◌+◌, ◌*◌, ◌≤◌, ◌<◌}
use native.Mathlib.Omega.{arith}
use native.Mathlib.Numerals.{add-one}
use mathlib.Core.Path.{◌≡◌, sym, ap, ap₂, subst⁻¹, ◌∙◌}
use mathlib.Core.Bool.{true, false, ◌&&◌, ◌||◌}
use mathlib.Core.Logic.{◌⊎◌, inl, inr, ⊎_elim}
use mathlib.Core.List.{List, [], ◌∷◌, ◌++◌, append-nil, append_assoc}
use lib.ListN.{length, take}
use lib.Dec.{ltb, eqb}
use borrow.Author.Tests.{ltb-true, lt-ltb, eqb-true, eq-eqb}
use Rattle.edge.specs.Edges.{id_of}
use Rattle.edge.proofs.Tests.{both, both_true, either, lt_or_le, or_right}
use Rattle.rows.specs.Rows.{none, leaf_at}
use Rattle.graph.specs.declared.Counts.{Counts}
use Rattle.graph.specs.declared.latch.Latch.{Latch}
use Rattle.graph.specs.Latches.{latch_words, latches_lent, latch_at, latch_inputs, latch_set, latch}
use Rattle.graph.specs.Leaves.{member, used_edge, latch_edges}
use Rattle.graph.specs.Graph.{Lent}
use Rattle.graph.specs.WellFormed.{UsedLeaf, listed, WellFormed}
use Rattle.graph.proofs.Latches.{latch_kept, latch_set_at, same_inputs}
use Rattle.build_leaves.specs.Calls.{counted, left, call_of}
use Rattle.build_leaves.specs.Leaves.{free_row, entry_answer}
use Rattle.build_leaves.proofs.Graphs.{NotIn, once_insert, not_in, taller_by_leaf, leaf_stays, new_leaf_lem, new_unlisted}
use Rattle.build_latches.specs.Latches.{latch_answer, new_latch_call, add_latch_call}
use Rattle.build_latches.specs.Graphs.{with_latches, LatchesStay}
use Rattle.build_leaves.proofs.Adding.{entry_told}

-- ---- one more latch: its input a used leaf in neither list
module _ (g : Lent) (w : WellFormed g) (x : ℕ) (leaf : UsedLeaf g x) (new : NotIn x (listed g)) where
  module _ (next init : ℕ) (room : latch_words * (g.counts.latches + 1) ≤ length g.latches) (edges : latch_edges g.counts.rows (latch x next init) ≡ true) where
    abbrev m : ℕ
    m = g.counts.latches

    abbrev more : List ℕ
    more = latch_set g.latches m (latch x next init)

    latch_still : (i : ℕ) → i < m → latch_at more i ≡ latch_at g.latches i
    latch_still i l = latch_kept g.latches m (latch x next init) i (λ (e : i ≡ m). omega arith)

    latch_here : latch_at more m ≡ latch x next init
    latch_here = latch_set_at g.latches m (latch x next init) room

    inputs_still : latch_inputs more m ≡ latch_inputs g.latches m
    inputs_still = same_inputs more g.latches m (λ i l. ap (λ (l : Latch). l.input) (latch_still i l))

    -- a latch of the longer list is the new one or an old one
    each : (P : Latch → Type 0) → P (latch x next init) → ((i : ℕ) → i < m → P (latch_at g.latches i)) → (i : ℕ) → i < m + 1 → P (latch_at more i)
    each P here old i l =
        ⊎_elim
        (λ (h : i < m). subst⁻¹ P (latch_still i h) (old i h))
        (λ (h : m ≤ i). let e : i ≡ m = omega arith in rw e (subst⁻¹ P latch_here here))
        (lt_or_le i m)

    longer : latch_inputs more (m + 1) ≡ latch_inputs g.latches m ++ (x ∷ [])
    unfolding latch_inputs
    longer = rw add-one (ap₂ (λ (k : List ℕ) (l : Latch). k ++ (l.input ∷ [])) inputs_still latch_here)

    listed_more : take g.counts.inputs g.inputs ++ latch_inputs more (m + 1) ≡ listed g ++ (x ∷ [])
    listed_more =
        ap (λ (k : List ℕ). take g.counts.inputs g.inputs ++ k) longer
        ∙ sym (append_assoc (take g.counts.inputs g.inputs) (latch_inputs g.latches m) (x ∷ []))

    init_is : (init ≡ none) ⊎ (id_of init < g.counts.rows)
    unfolding latch_edges
    init_is =
        ⊎_elim (λ (e : eqb init none ≡ true). inl (eqb-true init none e)) (λ (e : used_edge g.counts.rows init ≡ true). inr (ltb-true (id_of init) g.counts.rows e))
        (either {a = eqb init none} (both {a = used_edge g.counts.rows next} {b = eqb init none || used_edge g.counts.rows init} edges).1)

    next_is : id_of next < g.counts.rows
    unfolding latch_edges
    next_is = ltb-true (id_of next) g.counts.rows (both {a = used_edge g.counts.rows next} {b = eqb init none || used_edge g.counts.rows init} edges).0

    pub latch_stays : WellFormed (with_latches g (left g.rows more (counted g.counts g.counts.rows g.counts.inputs (m + 1)) 0))
    unfolding counted
    latch_stays =
        record {
          rows = w.rows;
          inputs = w.inputs;
          latches = each (λ (l : Latch). UsedLeaf g l.input) leaf w.latches;
          once = rw listed_more (once_insert x (listed g) [] (rw append-nil w.once) (rw append-nil new));
          nexts = each (λ (l : Latch). id_of l.next < g.counts.rows) next_is w.nexts;
          inits = each (λ (l : Latch). (l.init ≡ none) ⊎ (id_of l.init < g.counts.rows)) init_is w.inits;
          constraints = w.constraints;
          bads = w.bads;
          outputs = w.outputs;
          edges = w.edges;
          fairness = w.fairness;
          ends = w.ends;
          last = w.last;
          no_sets = w.no_sets;
        }

-- edges to rows that were used go to used rows still
edges_later : (used x next init : ℕ) → latch_edges used (latch x next init) ≡ true → latch_edges (used + 1) (latch x next init) ≡ true
unfolding latch_edges
edges_later used x next init h =
    let t = both {a = used_edge used next} {b = eqb init none || used_edge used init} h in
    both_true (later next t.0) (⊎_elim (λ (e : eqb init none ≡ true). rw e) (λ (e : used_edge used init ≡ true). or_right (eqb init none) (later init e)) (either {a = eqb init none} t.1))
  where
    later : (e : ℕ) → used_edge used e ≡ true → used_edge (used + 1) e ≡ true
    later e h = let l = ltb-true (id_of e) used h in lt-ltb (id_of e) (used + 1) (omega arith)

-- ---- the calls
module _ (g : Lent) (long : g.counts.inputs ≤ length g.inputs) (w : WellFormed g) where
  abbrev n : Counts
  n = g.counts

  new_latch_lem : (next init : ℕ) → (new_latch_call g.rows g.latches n next init).given.number ≡ 0 → WellFormed (with_latches g (new_latch_call g.rows g.latches n next init).left)
  unfolding new_latch_call latch_answer call_of counted
  new_latch_lem next init z =
      let good = latch_edges n.rows (latch n.rows next init) in
      let free = free_row g.rows n.rows in
      let h = eq-eqb (entry_answer g.rows n.rows n.latches (latches_lent g.latches) good free).number 0 z in
      let t = entry_told g.rows n.rows n.latches (latches_lent g.latches) good free h in
      rw h
      (latch_stays (taller_by_leaf g long w t.0 t.2) (leaf_stays g long w t.0 t.2) n.rows (new_leaf_lem g long w t.0 t.2) (new_unlisted g long w t.0 t.2) next init
      (omega (arith, t.3)) (edges_later n.rows n.rows next init t.1))

  add_latch : (x next init : ℕ) → leaf_at g.rows x ≡ true → member x (listed g) ≡ false → (add_latch_call g.rows g.latches n x next init).given.number ≡ 0
      → WellFormed (with_latches g (add_latch_call g.rows g.latches n x next init).left)
  unfolding add_latch_call latch_answer call_of counted
  add_latch x next init leaf new z =
      let good = ltb x n.rows && latch_edges n.rows (latch x next init) in
      let h = eq-eqb (entry_answer g.rows n.rows n.latches (latches_lent g.latches) good true).number 0 z in
      let t = entry_told g.rows n.rows n.latches (latches_lent g.latches) good true h in
      let u = both {a = ltb x n.rows} {b = latch_edges n.rows (latch x next init)} t.1 in
      rw h (latch_stays g w x (ltb-true x n.rows u.0, leaf) (not_in x (listed g) new) next init (omega (arith, t.3)) u.1)

  pub latches_stay : LatchesStay g
  latches_stay = record { new_latch_lem = new_latch_lem; add_latch = add_latch }
