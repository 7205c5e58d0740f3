-- The result is the graph with its constraints in a latch.
-- Assumes nothing.
use Prim.Native.Nat.{ℕ, ◌+◌, ◌*◌, ◌≤◌, ◌<◌}
use native.Mathlib.Omega.{arith}
use mathlib.Core.Path.{◌≡◌, refl, sym, ap, subst, ◌∙◌}
use mathlib.Core.Bool.{Bool, true, false, cond, ◌&&◌}
use mathlib.Core.Logic.{⊎_elim}
use mathlib.Core.List.{List, []}
use lib.ListN.{length, get_or, set, take, length-set}
use lib.Seq.{length-take-le, get_or-take, get_or-set_same, get_or-set_other}
use lib.Dec.{ltb, eqb}
use borrow.Author.Tests.{lt-ltb}
use Rattle.edge.specs.Edges.{id_of, constant_of}
use Rattle.edge.specs.Meaning.{edge_value}
use Rattle.edge.proofs.Tests.{both_true, or_right, lt_or_le}
use Rattle.rows.specs.Sizes.{max_rows, rows_lent}
use Rattle.rows.specs.Rows.{none, AllRows}
use Rattle.rows.specs.Value.{value}
use Rattle.graph.specs.declared.Counts.{Counts}
use Rattle.graph.specs.declared.latch.Latch.{Latch}
use Rattle.graph.specs.Latches.{latch_words, latch_at, latch_set, latch}
use Rattle.graph.specs.Leaves.{latch_edges}
use Rattle.graph.specs.Graph.{Lent, lent, Sized}
use Rattle.graph.specs.WellFormed.{listed, WellFormed}
use Rattle.gates.specs.Gates.{state}
use Rattle.build_leaves.specs.Calls.{counted, left}
use Rattle.gates.specs.Meaning.{AllUsed, Grows, all_true}
use Rattle.build_leaves.specs.Graphs.{with_rows}
use Rattle.gates.proofs.Meaning.{grows_value}
use Rattle.build_leaves.proofs.Graphs.{rows_stay, listed_used}
use Rattle.build_latches.proofs.Graphs.{latch_stays}
use Rattle.output.specs.Room.{Limited, Room}
use Rattle.graph.proofs.Latches.{latch_set_length, latch_kept, latch_set_at}
use Rattle.output.specs.Copying.{copy_of}
use Rattle.output.specs.Meaning.{IsCopy}
use Rattle.output.proofs.Copying.{is_copy}
use Rattle.output.proofs.Forming.{latch_same, value_same, copy_formed}
use Rattle.aig_move.specs.Making.{Making, making_of}
use Rattle.aig_move.specs.Moving.{making, copy_counts, counts_with, moved_counts, first_set, finished, moved}
use Rattle.aig_move.specs.Meaning.{NewLatch, FirstGuarded, Moved}
use Rattle.aig_move.proofs.Steps.{used_like}
use Rattle.aig_move.proofs.Copied.{copy_room}
use Rattle.aig_move.proofs.Growth.{all_same, making_grows, new_used, leaf_made, leaf_within, next_value, bad_value, output_value}

-- ---- the first of n entries
module _ (list : List ℕ) (n e : ℕ) where
  first_long : length (first_set list n e) ≡ length list
  unfolding first_set
  first_long = go (ltb 0 n)
    where
      go : (t : Bool) → length (cond t (set list 0 e) list) ≡ length list
      go true = length-set list 0 e
      go false = refl

  first_is : 0 < n → n ≤ length list → get_or (first_set list n e) 0 0 ≡ e
  unfolding first_set
  first_is p l = rw (lt-ltb 0 n p) (get_or-set_same list 0 e 0 (omega arith))

  other_is : (j : ℕ) → 0 < j → get_or (first_set list n e) j 0 ≡ get_or list j 0
  unfolding first_set
  other_is j p = go (ltb 0 n)
    where
      go : (t : Bool) → get_or (cond t (set list 0 e) list) j 0 ≡ get_or list j 0
      go true = get_or-set_other list 0 j e 0 (λ (q : j ≡ 0). absurd (omega arith))
      go false = refl

  -- each goes to a used row
  first_used : (used : ℕ) → n ≤ length list → id_of e < used → ((j : ℕ) → j < n → id_of (get_or list j 0) < used) → (j : ℕ) → j < n → id_of (get_or (first_set list n e) j 0) < used
  first_used used l u h j k =
      ⊎_elim
      (λ (p : 0 < j). rw (other_is j p) (h j k))
      (λ (p : j ≤ 0). let z : j ≡ 0 = omega arith in rw (z, first_is (omega arith) l) u)
      (lt_or_le 0 j)

-- the first n entries of a list are used, where they are by their place
used_front : (used : ℕ) (list : List ℕ) (n : ℕ) → n ≤ length list → ((j : ℕ) → j < n → id_of (get_or list j 0) < used) → AllUsed used (take n list)
used_front used list n l h i k =
    let q : i < n = omega (arith, length-take-le n list l) in
    rw (get_or-take n list i 0 q) (h i q)

module _ (g out : Lent) (marks : ℕ) (s : Sized g marks) (w : WellFormed g) (r : Room out (moved_counts g)) (o : Limited out) where
  abbrev n : Counts
  n = g.counts

  abbrev c : Lent
  c = copy_of (copy_counts n) g out

  abbrev cs : List ℕ
  cs = take n.constraints g.constraints

  abbrev bs : List ℕ
  bs = take n.bads g.bads

  abbrev os : List ℕ
  os = take n.outputs g.outputs

  abbrev m : Making
  m = making_of c.rows n.rows cs bs os

  fits : Room out (copy_counts n)
  fits = copy_room g out r

  copy : IsCopy (copy_counts n) g out c
  copy = is_copy (copy_counts n) g out fits

  -- ---- the rows
  counted_so : (making g []).used ≡ m.used
  counted_so = used_like [] c.rows n.rows cs bs os

  room : m.used ≤ rows_lent c.rows
  unfolding counts_with
  room = rw copy.rows.long (omega (arith, counted_so, r.rows))

  limit : rows_lent c.rows ≤ max_rows
  limit = rw copy.rows.long o.rows

  us : AllUsed n.rows cs
  us = used_front n.rows g.constraints n.constraints s.constraints.within w.constraints

  ub : AllUsed n.rows bs
  ub = used_front n.rows g.bads n.bads s.bads.within w.bads

  uo : AllUsed n.rows os
  uo = used_front n.rows g.outputs n.outputs s.outputs.within w.outputs

  grows : Grows c.rows n.rows (state m.rows m.used m.output)
  grows = making_grows c.rows n.rows s.rows.some limit cs bs os us ub uo room

  words : (k : ℕ) → k < 2 * n.rows → get_or m.rows k 0 ≡ get_or g.rows k 0
  words k l = grows.kept k l ∙ copy.rows.same k l

  copy_value : (leaf : ℕ → Bool) (i : ℕ) → i < n.rows → value c.rows leaf i ≡ value g.rows leaf i
  copy_value = value_same n.rows g.rows out.rows c.rows copy.rows

  copy_edge : (leaf : ℕ → Bool) (e : ℕ) → id_of e < n.rows → edge_value (value c.rows leaf) e ≡ edge_value (value g.rows leaf) e
  unfolding edge_value
  copy_edge leaf e l = rw (copy_value leaf (id_of e) l)

  old_values : (leaf : ℕ → Bool) (i : ℕ) → i < n.rows → value m.rows leaf i ≡ value g.rows leaf i
  old_values leaf i l = grows_value c.rows n.rows (state m.rows m.used m.output) grows leaf i l ∙ copy_value leaf i l

  -- ---- the latch
  latch_long : latch_words * (n.latches + 1) ≤ length c.latches
  unfolding counts_with
  latch_long = rw copy.latches.long (omega (arith, r.latches))

  abbrev new : Latch
  new = latch n.rows m.next (constant_of true)

  latch_is : latch_at (latch_set c.latches n.latches new) n.latches ≡ new
  latch_is = latch_set_at c.latches n.latches new latch_long

  latch_old : (j : ℕ) → j < n.latches → latch_at (latch_set c.latches n.latches new) j ≡ latch_at g.latches j
  latch_old j l =
      latch_kept c.latches n.latches new j (λ (e : j ≡ n.latches). absurd (omega arith))
      ∙ latch_same n.latches g.latches out.latches c.latches copy.latches j l

  next_means : (leaf : ℕ → Bool) → edge_value (value m.rows leaf) m.next ≡ leaf n.rows && all_true (edge_value (value g.rows leaf)) cs
  next_means leaf =
      next_value c.rows n.rows s.rows.some limit cs bs os us ub uo room leaf
      ∙ ap (λ (x : Bool). leaf n.rows && x) (all_same (edge_value (value c.rows leaf)) (edge_value (value g.rows leaf)) n.rows (copy_edge leaf) cs us)

  new_latch_lem : NewLatch g (moved g out)
  unfolding moved finished
  new_latch_lem =
      record {
        input = ap (λ (l : Latch). l.input) latch_is;
        is_leaf = leaf_made c.rows n.rows s.rows.some limit cs bs os us ub uo room;
        init = ap (λ (l : Latch). l.init) latch_is;
        next = λ leaf. ap (edge_value (value m.rows leaf)) (ap (λ (l : Latch). l.next) latch_is) ∙ next_means leaf;
      }

  -- ---- a guarded list: e is its new first entry
  guarded : (list old : List ℕ) (k e : ℕ) → k ≤ length list → ((j : ℕ) → j < k → get_or list j 0 ≡ get_or old j 0)
      → (0 < k → (leaf : ℕ → Bool) → edge_value (value m.rows leaf) e ≡ edge_value (value m.rows leaf) m.next && edge_value (value g.rows leaf) (get_or old 0 0))
      → FirstGuarded g (moved g out) k old (first_set list k e)
  unfolding moved finished
  guarded list old k e l same h =
      record {
        first = λ p leaf.
            ap (edge_value (value m.rows leaf)) (first_is list k e p l)
            ∙ (h p leaf ∙ ap (λ (x : ℕ). edge_value (value m.rows leaf) x && edge_value (value g.rows leaf) (get_or old 0 0)) (sym (ap (λ (y : Latch). y.next) latch_is)));
        others = λ j p q. other_is list k e j p ∙ same j q;
      }

  -- the first of the taken entries
  front : (list : List ℕ) (k : ℕ) → 0 < k → k ≤ length list → (0 < length (take k list)) × (get_or (take k list) 0 0 ≡ get_or list 0 0)
  front list k p l = (omega (arith, length-take-le k list l), get_or-take k list 0 0 p)

  bad_means : 0 < n.bads → (leaf : ℕ → Bool) → edge_value (value m.rows leaf) m.bad ≡ edge_value (value m.rows leaf) m.next && edge_value (value g.rows leaf) (get_or g.bads 0 0)
  bad_means p leaf =
      let f = front g.bads n.bads p s.bads.within in
      bad_value c.rows n.rows s.rows.some limit cs bs os us ub uo room leaf f.0
      ∙ ap (λ (x : Bool). edge_value (value m.rows leaf) m.next && x) (ap (edge_value (value c.rows leaf)) f.1 ∙ copy_edge leaf (get_or g.bads 0 0) (w.bads 0 p))

  output_means : 0 < n.outputs → (leaf : ℕ → Bool)
      → edge_value (value m.rows leaf) m.output ≡ edge_value (value m.rows leaf) m.next && edge_value (value g.rows leaf) (get_or g.outputs 0 0)
  output_means p leaf =
      let f = front g.outputs n.outputs p s.outputs.within in
      output_value c.rows n.rows s.rows.some limit cs bs os us ub uo room leaf f.0
      ∙ ap (λ (x : Bool). edge_value (value m.rows leaf) m.next && x) (ap (edge_value (value c.rows leaf)) f.1 ∙ copy_edge leaf (get_or g.outputs 0 0) (w.outputs 0 p))

  bads_long : n.bads ≤ length c.bads
  bads_long = rw copy.bads.long fits.bads

  outputs_long : n.outputs ≤ length c.outputs
  outputs_long = rw copy.outputs.long fits.outputs

  -- ---- well-formed: the copy is, and stays so with the new rows and the latch
  formed₀ : WellFormed c
  formed₀ = copy_formed g out marks s w 0 (omega arith) fits

  all_rows : AllRows m.rows m.used
  all_rows i l =
      ⊎_elim
      (λ (h : i < n.rows). rw (words (2 * i) (omega arith), words (2 * i + 1) (omega arith)) (w.rows i h))
      (λ (h : n.rows ≤ i). grows.good i h l)
      (lt_or_le i n.rows)

  abbrev taller : Lent
  taller = with_rows c (left m.rows [] (counted (copy_counts n) m.used n.inputs n.latches) 0)

  formed₁ : WellFormed taller
  unfolding copy_of
  formed₁ = rows_stay c formed₀ m.rows m.used grows.more grows.kept all_rows

  edges_used : latch_edges m.used new ≡ true
  unfolding latch_edges
  edges_used =
      let u = new_used c.rows n.rows s.rows.some limit cs bs os us ub uo room in
      both_true (lt-ltb (id_of m.next) m.used u.0) (or_right (eqb (constant_of true) none) (lt-ltb (id_of (constant_of true)) m.used (omega (arith, grows.more, s.rows.some))))

  inputs_long : n.inputs ≤ length c.inputs
  inputs_long = rw copy.inputs.long fits.inputs

  -- the new row is listed nowhere yet
  unlisted : (j : ℕ) → j < length (listed taller) → get_or (listed taller) j 0 ≡ n.rows → ⊥
  unfolding counted copy_of
  unlisted j l e = let h : get_or (listed c) j 0 < n.rows = listed_used c inputs_long formed₀ j l in omega arith

  abbrev longer : Lent
  longer =
      lent m.rows c.inputs (latch_set c.latches n.latches new) c.constraints c.bads c.outputs c.ends c.edges c.fairness (counts_with n m.used)

  formed₂ : WellFormed longer
  unfolding counted copy_of counts_with
  formed₂ =
      latch_stays taller formed₁ n.rows
      (leaf_within c.rows n.rows s.rows.some limit cs bs os us ub uo room, leaf_made c.rows n.rows s.rows.some limit cs bs os us ub uo room)
      unlisted m.next (constant_of true) latch_long edges_used

  abbrev result : ℕ → Lent
  result used =
      lent m.rows c.inputs (latch_set c.latches n.latches new) c.constraints (first_set c.bads n.bads m.bad) (first_set c.outputs n.outputs m.output) c.ends
      c.edges c.fairness (counts_with n used)

  formed₃ : WellFormed (result m.used)
  unfolding counts_with
  formed₃ =
      let f = formed₂ in
      let u = new_used c.rows n.rows s.rows.some limit cs bs os us ub uo room in
      record {
        rows = f.rows;
        inputs = f.inputs;
        latches = f.latches;
        once = f.once;
        nexts = f.nexts;
        inits = f.inits;
        constraints = f.constraints;
        bads = first_used c.bads n.bads m.bad m.used bads_long u.1 f.bads;
        outputs = first_used c.outputs n.outputs m.output m.used outputs_long u.2 f.outputs;
        edges = f.edges;
        fairness = f.fairness;
        ends = f.ends;
        last = f.last;
        no_sets = f.no_sets;
      }

  formed : WellFormed (moved g out)
  unfolding moved finished
  formed = subst (λ (k : ℕ). WellFormed (result k)) (sym counted_so) formed₃

  -- ---- sized
  is_sized : (k : ℕ) → (moved g out).counts.rows ≤ k → Sized (moved g out) k
  unfolding moved finished counts_with
  is_sized k l =
      let x : length m.rows ≡ length out.rows = grows.long ∙ copy.rows.long in
      let y : length (latch_set c.latches n.latches new) ≡ length out.latches = latch_set_length c.latches n.latches new ∙ copy.latches.long in
      let b : length (first_set c.bads n.bads m.bad) ≡ length out.bads = first_long c.bads n.bads m.bad ∙ copy.bads.long in
      let p : length (first_set c.outputs n.outputs m.output) ≡ length out.outputs = first_long c.outputs n.outputs m.output ∙ copy.outputs.long in
      record {
        rows = record { some = omega (arith, counted_so, grows.more, s.rows.some); fit = record { within = rw x r.rows; limited = rw x o.rows } };
        marked = l;
        inputs = record { within = inputs_long; limited = rw copy.inputs.long o.inputs };
        latches = record { within = rw y r.latches; limited = rw y o.latches };
        constraints = record { within = omega arith; limited = rw copy.constraints.long o.constraints };
        bads = record { within = rw b r.bads; limited = rw b o.bads };
        outputs = record { within = rw p r.outputs; limited = rw p o.outputs };
        ends = record { within = rw copy.ends.long r.ends; limited = rw copy.ends.long o.ends };
        edges = record { within = rw copy.edges.long r.edges; limited = rw copy.edges.long o.edges };
        fairness = record { within = rw copy.fairness.long r.fairness; limited = rw copy.fairness.long o.fairness };
      }

  pub is_moved : Moved g (moved g out)
  is_moved =
      record {
        counts = unfold moved finished in refl;
        no_constraints = unfold moved finished counts_with in refl;
        latch = new_latch_lem;
        bads = unfold moved finished in guarded c.bads g.bads n.bads m.bad bads_long copy.bads.same bad_means;
        outputs = unfold moved finished in guarded c.outputs g.outputs n.outputs m.output outputs_long copy.outputs.same output_means;
        rows = unfold moved finished in words;
        values = unfold moved finished in old_values;
        inputs = unfold moved finished in copy.inputs.same;
        latches = unfold moved finished in latch_old;
        ends = unfold moved finished in copy.ends.same;
        edges = unfold moved finished in copy.edges.same;
        fairness = unfold moved finished in copy.fairness.same;
        sized = is_sized;
        well_formed = formed;
      }
