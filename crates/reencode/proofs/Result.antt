-- The result: rows are carried over with their values, every entry corresponds, and it is a well-formed graph.
-- Assumes nothing.
use Prim.Native.Nat.{ℕ, ◌+◌, ◌-◌, ◌≤◌, ◌<◌}
use native.Mathlib.Omega.{arith}
use mathlib.Core.Path.{◌≡◌, refl, sym, ap, ◌∙◌}
use mathlib.Core.Bool.{true, false, ◌||◌, or-true}
use mathlib.Core.Logic.{◌⊎◌, inl, inr, ⊎_elim}
use mathlib.Core.List.{List}
use lib.ListN.{length, get_or}
use borrow.Author.Tests.{lt-ltb, eq-eqb}
use Rattle.edge.specs.Edges.{id_of}
use Rattle.edge.proofs.Tests.{false_true, lt_or_le}
use Rattle.rows.specs.Sizes.{max_rows, Fit, rows_lent}
use Rattle.rows.specs.Rows.{word0, word1, none, false_word, is_false_row, is_leaf, is_gate, is_row, leaf_at, gate_at, AllRows}
use Rattle.rows.proofs.Laws.{gate_below}
use Rattle.rows.proofs.Value.{leaf_no_gate}
use Rattle.graph.specs.declared.latch.Latch.{Latch}
use Rattle.graph.specs.Latches.{latch_at}
use Rattle.graph.specs.Graph.{Lent, Sized, no_counts}
use Rattle.graph.specs.WellFormed.{listed, WellFormed}
use Rattle.graph.proofs.Listed.{all_long, input_at, latch_at_lem}
use Rattle.gates.specs.Gates.{Sorted, first as first_edge, second as second_edge}
use Rattle.gates.proofs.Ordering.{ordered, order_used}
use Rattle.gates.proofs.Growing.{is_gate_lem}
use Rattle.renumber.specs.Renumber.{renamed, renamed_latch, ids_of, edges_of, ends_of, lists_of, renumber}
use Rattle.output.specs.Room.{Limited, Room}
use Rattle.renumber.specs.Entries.{Renumbered}
use Rattle.renumber.specs.Meaning.{Carried}
use Rattle.output.proofs.Writing.{written_length, written_at_lem}
use Rattle.renumber.proofs.Writing.{latches_length}
use Rattle.renumber.proofs.Carrying.{renamed_row, same_values}
use Rattle.graph.proofs.Counting.{Counted, counted}
use Rattle.renumber.proofs.Mapping.{lists_room}
use Rattle.renumber.proofs.Entering.{renumbered}
use Rattle.graph.specs.Count.{gates_below}
use Rattle.reencode.specs.Numbers.{first_gate, new_id, orphans}
use Rattle.reencode.specs.Rebuilding.{leaves_added, rows_of, reencoded}
use Rattle.reencode.specs.Meaning.{InOrder, Renewed}
use Rattle.reencode.proofs.Standing.{Row, leaves_long, zero_stands, leaf_stands, gates_long, below_stands, gate_stands}
use Rattle.reencode.proofs.Leaving.{zero_no_leaf, zero_no_gate, leaf_gate, rows_counted}
use Rattle.reencode.proofs.Mapping.{Kind, new_zero, new_listed, new_gate, kind, new_within, new_below, one_to_one}
use Rattle.reencode.proofs.Mapping.{false_row, listed_row, gate_row}

pub none_stays : (m : ℕ → ℕ) (e : ℕ) → e ≡ none → renamed m e ≡ none
unfolding renamed
none_stays m e q = rw (eq-eqb e none q)

-- ---- the kinds of row, by their words
leaf_words : (table : List ℕ) (i : ℕ) → 0 < i → Row table i none 0 → leaf_at table i ≡ true
unfolding is_leaf
leaf_words table i p w = rw (w.first, w.second, lt-ltb 0 i p)

pub gate_words : (table : List ℕ) (i a b : ℕ) → Row table i a b → id_of a < i → id_of b < i → gate_at table i ≡ true
gate_words table i a b w l m = rw (w.first, w.second) (is_gate_lem i a b l m)

is_row_false : (table : List ℕ) → Row table 0 false_word 0 → is_row 0 (word0 table 0) (word1 table 0) ≡ true
unfolding is_row is_false_row
is_row_false table w = rw (w.first, w.second)

is_row_leaf : (i a b : ℕ) → is_leaf i a b ≡ true → is_row i a b ≡ true
unfolding is_row
is_row_leaf i a b h = rw (h, or-true (is_false_row i a b))

is_row_gate : (i a b : ℕ) → is_gate i a b ≡ true → is_row i a b ≡ true
unfolding is_row
is_row_gate i a b h = rw (h, or-true (is_false_row i a b || is_leaf i a b))

module _ (g out : Lent) (marks : ℕ) (s : Sized g marks) (w : WellFormed g) (no : orphans g ≡ 0) (room : Room out g.counts) (limited : Limited out) where
  abbrev used : ℕ
  used = g.counts.rows

  abbrev first : ℕ
  first = first_gate g.counts

  abbrev leaves : ℕ
  leaves = g.counts.inputs + g.counts.latches

  abbrev m : ℕ → ℕ
  m = new_id g

  abbrev new : Lent
  new = reencoded g out

  abbrev rows : List ℕ
  rows = rows_of g out.rows

  limit : used ≤ max_rows
  limit = omega (arith, s.rows.fit.within, s.rows.fit.limited)

  pub total : used ≡ first + gates_below g.rows used
  total = omega (arith, rows_counted g marks s w)

  -- ---- the rows as they stand
  start_room : leaves + 1 ≤ rows_lent out.rows
  start_room = omega (arith, total, room.rows)

  all_room : first + gates_below g.rows used ≤ rows_lent (leaves_added out.rows leaves)
  all_room = omega (arith, total, room.rows, leaves_long out.rows leaves)

  pub zero_is : Row rows 0 false_word 0
  unfolding rows_of
  zero_is = below_stands m g.rows first (leaves_added out.rows leaves) used 0 false_word 0 all_room (omega arith) (zero_stands out.rows leaves start_room)

  pub leaf_is : (i : ℕ) → i < leaves → Row rows (i + 1) none 0
  unfolding rows_of
  leaf_is i l = below_stands m g.rows first (leaves_added out.rows leaves) used (i + 1) none 0 all_room (omega arith) (leaf_stands out.rows leaves i start_room l)

  pub gate_is : (i : ℕ) → i < used → gate_at g.rows i ≡ true
      → Row rows (m i) (first_edge (renamed m (word0 g.rows i)) (renamed m (word1 g.rows i))) (second_edge (renamed m (word0 g.rows i)) (renamed m (word1 g.rows i)))
  unfolding rows_of
  gate_is i l h = rw (new_gate g marks s w i h) (gate_stands m g.rows first (leaves_added out.rows leaves) used i all_room l h)

  -- ---- an edge to a used row
  some : (e : ℕ) → id_of e < used → e ≡ none → ⊥
  some e l q = absurd (omega (arith, limit))

  pub edge_row : (e : ℕ) → id_of e < used → id_of (renamed m e) ≡ m (id_of e)
  edge_row e l = renamed_row m e (some e l)

  edge_used : (e : ℕ) → id_of e < used → id_of (renamed m e) < used
  edge_used e l = rw (edge_row e l) (new_within g marks s w no (id_of e) l)

  -- ---- each row is carried over
  new_leaf_lem : (i : ℕ) → i < leaves → leaf_at rows (i + 1) ≡ true
  new_leaf_lem i l = leaf_words rows (i + 1) (omega arith) (leaf_is i l)

  new_gate_at : (i : ℕ) → i < used → gate_at g.rows i ≡ true → gate_at rows (m i) ≡ true
  new_gate_at i l h =
      let b = gate_below i (word0 g.rows i) (word1 g.rows i) h in
      let x : id_of (renamed m (word0 g.rows i)) < m i = rw (edge_row (word0 g.rows i) (omega (arith, b.0))) (new_below g marks s w no (id_of (word0 g.rows i)) i b.0 l h) in
      let y : id_of (renamed m (word1 g.rows i)) < m i = rw (edge_row (word1 g.rows i) (omega (arith, b.1))) (new_below g marks s w no (id_of (word1 g.rows i)) i b.1 l h) in
      let o = order_used (m i) (renamed m (word0 g.rows i)) (renamed m (word1 g.rows i)) x y in
      gate_words rows (m i) (first_edge (renamed m (word0 g.rows i)) (renamed m (word1 g.rows i))) (second_edge (renamed m (word0 g.rows i)) (renamed m (word1 g.rows i)))
      (gate_is i l h) o.0 o.1

  leaf_moved : (i : ℕ) → i < used → leaf_at g.rows i ≡ true → leaf_at rows (m i) ≡ true
  leaf_moved i l h = go (kind g marks s w no i l)
    where
      go : Kind g i → leaf_at rows (m i) ≡ true
      go (false_row e q) = absurd (false_true (sym (zero_no_leaf g.rows) ∙ (rw e at h)))
      go (listed_row j k e q) = let t : m i ≡ j + 1 = omega arith in rw t (new_leaf_lem j k)
      go (gate_row k q) = absurd (false_true (sym (leaf_gate g marks s w i l h) ∙ k))

  carried : Carried m (λ (i : ℕ). i < used) g.rows used rows used
  carried =
      record {
        zero = new_zero g marks s w;
        within = λ i l k. new_within g marks s w no i l;
        leaves = λ i l k h. leaf_moved i l h;
        gates = λ i l k h. (new_gate_at i l h, rw ((gate_is i l h).first, (gate_is i l h).second) (ordered (renamed m (word0 g.rows i)) (renamed m (word1 g.rows i))).either);
        fanins = λ i l k h. let b = gate_below i (word0 g.rows i) (word1 g.rows i) h in (omega (arith, b.0), omega (arith, b.1));
      }

  -- ---- every row of the result: the one that went there
  gate_from : (i : ℕ) → first ≤ i → i < used → Counted (gate_at g.rows) used (i - first)
  gate_from i l u = counted (gate_at g.rows) used (i - first) (omega (arith, total))

  gate_to : (i : ℕ) (l : first ≤ i) (u : i < used) → m (gate_from i l u).at ≡ i
  gate_to i l u = new_gate g marks s w (gate_from i l u).at (gate_from i l u).such ∙ omega (arith, (gate_from i l u).count)

  pub gate_there : (i : ℕ) → first ≤ i → i < used → gate_at rows i ≡ true
  gate_there i l u = let c = gate_from i l u in ap (gate_at rows) (sym (gate_to i l u)) ∙ new_gate_at c.at c.within c.such

  pub leaf_there : (i : ℕ) → 0 < i → i < first → leaf_at rows i ≡ true
  leaf_there i p l = let e : i ≡ (i - 1) + 1 = omega arith in ap (leaf_at rows) e ∙ new_leaf_lem (i - 1) (omega arith)

  all_rows : AllRows rows used
  all_rows i u =
      ⊎_elim
      (λ (p : 0 < i). ⊎_elim (λ (l : i < first). is_row_leaf i (word0 rows i) (word1 rows i) (leaf_there i p l))
      (λ (l : first ≤ i). is_row_gate i (word0 rows i) (word1 rows i) (gate_there i l u)) (lt_or_le i first)) (λ (z : i ≤ 0). let e : i ≡ 0 = omega arith in rw e (is_row_false rows zero_is))
      (lt_or_le 0 i)

  -- rows before the gates are none
  pub low_no_gate : (i : ℕ) → i < first → gate_at rows i ≡ false
  low_no_gate i l =
      ⊎_elim
      (λ (p : 0 < i). leaf_no_gate i (word0 rows i) (word1 rows i) (omega (arith, limit, total)) (leaf_there i p l))
      (λ (z : i ≤ 0). let e : i ≡ 0 = omega arith in rw e (zero_no_gate rows))
      (lt_or_le 0 i)

  -- a new gate's edges are in order
  pub gate_sorted : (i : ℕ) → first ≤ i → i < used → Sorted (word0 rows i) (word1 rows i)
  gate_sorted i l u =
      let c = gate_from i l u in
      let r = gate_is c.at c.within c.such in
      rw (← (gate_to i l u), r.first, r.second) (ordered (renamed m (word0 g.rows c.at)) (renamed m (word1 g.rows c.at))).sorted

  -- ---- the lists
  pub entries : Renumbered m no_counts (lists_of g) g.counts (lists_of new)
  unfolding reencoded
  entries = renumbered m (lists_of out) no_counts (lists_of g) g.counts (lists_room out g.counts room)

  pub input_entry : (j : ℕ) → j < g.counts.inputs → get_or new.inputs j 0 ≡ m (get_or g.inputs j 0)
  unfolding reencoded
  input_entry j l =
      let z : 0 + j ≡ j = omega arith in
      ap (λ (k : ℕ). get_or new.inputs k 0) (sym z) ∙ written_at_lem out.inputs 0 (ids_of m g.inputs) g.counts.inputs j (omega (arith, room.inputs)) l

  pub input_number : (j : ℕ) → j < g.counts.inputs → get_or new.inputs j 0 ≡ 1 + j
  input_number j l =
      input_entry j l
      ∙ (ap m (sym (input_at g.inputs g.counts.inputs g.latches g.counts.latches s.inputs.within j l)) ∙ new_listed g marks s w j (omega arith))

  pub latch_entry : (j : ℕ) → j < g.counts.latches → latch_at new.latches j ≡ renamed_latch m (latch_at g.latches j)
  unfolding reencoded
  latch_entry j l = let z : 0 + j ≡ j = omega arith in ap (latch_at new.latches) (sym z) ∙ entries.latches j l

  pub next_entry : (j : ℕ) → j < g.counts.latches → (latch_at new.latches j).next ≡ renamed m (latch_at g.latches j).next
  unfolding renamed_latch
  next_entry j l = ap (λ (x : Latch). x.next) (latch_entry j l)

  pub init_entry : (j : ℕ) → j < g.counts.latches → (latch_at new.latches j).init ≡ renamed m (latch_at g.latches j).init
  unfolding renamed_latch
  init_entry j l = ap (λ (x : Latch). x.init) (latch_entry j l)

  pub latch_number : (j : ℕ) → j < g.counts.latches → (latch_at new.latches j).input ≡ 1 + (g.counts.inputs + j)
  unfolding renamed_latch
  latch_number j l =
      ap (λ (x : Latch). x.input) (latch_entry j l)
      ∙ (ap m (sym (latch_at_lem g.inputs g.counts.inputs g.latches g.counts.latches s.inputs.within j l)) ∙ new_listed g marks s w (g.counts.inputs + j) (omega arith))

  -- the listed ids of the result are 1, 2, ..
  inputs_fit : g.counts.inputs ≤ length new.inputs
  unfolding reencoded
  inputs_fit = omega (arith, room.inputs, written_length out.inputs 0 (ids_of m g.inputs) g.counts.inputs)

  pub new_list_long : length (listed new) ≡ leaves
  unfolding reencoded
  new_list_long = all_long new.inputs g.counts.inputs new.latches g.counts.latches inputs_fit

  pub listed_number : (j : ℕ) → j < leaves → get_or (listed new) j 0 ≡ 1 + j
  unfolding reencoded
  listed_number j l = ⊎_elim in_inputs in_latches (lt_or_le j g.counts.inputs)
    where
      in_inputs : j < g.counts.inputs → get_or (listed new) j 0 ≡ 1 + j
      in_inputs h = input_at new.inputs g.counts.inputs new.latches g.counts.latches inputs_fit j h ∙ input_number j h

      in_latches : g.counts.inputs ≤ j → get_or (listed new) j 0 ≡ 1 + j
      in_latches h =
          let q : j ≡ g.counts.inputs + (j - g.counts.inputs) = omega arith in
          let k : j - g.counts.inputs < g.counts.latches = omega arith in
          ap (λ (i : ℕ). get_or (listed new) i 0) q
          ∙ (latch_at_lem new.inputs g.counts.inputs new.latches g.counts.latches inputs_fit (j - g.counts.inputs) k ∙ (latch_number (j - g.counts.inputs) k ∙ omega arith))

  -- ---- sizes
  pub new_sized : (k : ℕ) → used ≤ k → Sized new k
  unfolding reencoded renumber rows_of
  new_sized k l =
      let n = g.counts in
      record {
        rows = record {
          some = s.rows.some;
          fit = record {
            within = omega (arith, room.rows, leaves_long out.rows leaves, gates_long m g.rows first (leaves_added out.rows leaves) used);
            limited = omega (arith, limited.rows, leaves_long out.rows leaves, gates_long m g.rows first (leaves_added out.rows leaves) used);
          };
        };
        marked = l;
        inputs = fitting (written_length out.inputs 0 (ids_of m g.inputs) n.inputs) room.inputs limited.inputs;
        latches = record {
          within = omega (arith, room.latches, latches_length m out.latches 0 g.latches n.latches);
          limited = omega (arith, limited.latches, latches_length m out.latches 0 g.latches n.latches);
        };
        constraints = fitting (written_length out.constraints 0 (edges_of m g.constraints) n.constraints) room.constraints limited.constraints;
        bads = fitting (written_length out.bads 0 (edges_of m g.bads) n.bads) room.bads limited.bads;
        outputs = fitting (written_length out.outputs 0 (edges_of m g.outputs) n.outputs) room.outputs limited.outputs;
        ends = fitting (written_length out.ends 0 (ends_of 0 g.ends) n.sets) room.ends limited.ends;
        edges = fitting (written_length out.edges 0 (edges_of m g.edges) n.edges) room.edges limited.edges;
        fairness = fitting (written_length out.fairness 0 (edges_of m g.fairness) n.fairness) room.fairness limited.fairness;
      }
    where
      fitting : {long lent count limit : ℕ} → long ≡ lent → count ≤ lent → lent ≤ limit → Fit count long limit
      fitting e a b = record { within = omega arith; limited = omega arith }

  -- ---- well-formed
  used_edges :
      (list after : List ℕ) (n : ℕ) → ((j : ℕ) → j < n → get_or after (0 + j) 0 ≡ renamed m (get_or list j 0)) → ((j : ℕ) → j < n → id_of (get_or list j 0) < used) → (j : ℕ) → j < n → id_of
      (get_or after j 0) < used
  used_edges list after n e u j l =
      let z : 0 + j ≡ j = omega arith in
      let q : get_or after j 0 ≡ renamed m (get_or list j 0) = ap (λ (k : ℕ). get_or after k 0) (sym z) ∙ e j l in
      rw q (edge_used (get_or list j 0) (u j l))

  end_same : (j : ℕ) → j < g.counts.sets → get_or new.ends j 0 ≡ get_or g.ends j 0
  unfolding reencoded
  end_same j l = let z : 0 + j ≡ j = omega arith in ap (λ (k : ℕ). get_or new.ends k 0) (sym z) ∙ (entries.ends j l ∙ omega arith)

  new_well_formed : WellFormed new
  unfolding reencoded
  new_well_formed =
      record {
        rows = all_rows;
        inputs = λ j l. rw (input_number j l) (leaf_used (1 + j) (omega arith) (omega arith));
        latches = λ j l. rw (latch_number j l) (leaf_used (1 + (g.counts.inputs + j)) (omega arith) (omega arith));
        once = λ i j l h e. omega (arith, new_list_long, listed_number i (omega (arith, new_list_long)), listed_number j (omega (arith, new_list_long)));
        nexts = λ j l. rw (next_entry j l) (edge_used (latch_at g.latches j).next (w.nexts j l));
        inits = λ j l. rw (init_entry j l) (init_used (latch_at g.latches j).init (w.inits j l));
        constraints = used_edges g.constraints new.constraints g.counts.constraints entries.constraints w.constraints;
        bads = used_edges g.bads new.bads g.counts.bads entries.bads w.bads;
        outputs = used_edges g.outputs new.outputs g.counts.outputs entries.outputs w.outputs;
        edges = used_edges g.edges new.edges g.counts.edges entries.edges w.edges;
        fairness = used_edges g.fairness new.fairness g.counts.fairness entries.fairness w.fairness;
        ends = λ i l. rw (end_same i (omega arith), end_same (i + 1) l) (w.ends i l);
        last = λ i e. end_same i (omega arith) ∙ w.last i e;
        no_sets = w.no_sets;
      }
    where
      leaf_used : (i : ℕ) → 0 < i → i < first → (i < used) × (leaf_at rows i ≡ true)
      leaf_used i p l = (omega (arith, total), leaf_there i p l)

      init_used : (e : ℕ) → (e ≡ none) ⊎ (id_of e < used) → (renamed m e ≡ none) ⊎ (id_of (renamed m e) < used)
      init_used e (inl q) = inl (none_stays m e q)
      init_used e (inr l) = inr (edge_used e l)

  -- ---- the whole
  in_order : InOrder g new
  unfolding reencoded
  in_order =
      record {
        inputs = input_number;
        latches = latch_number;
        gates = λ i j l u h. new_below g marks s w no i j l u h;
        fanins = λ i u h. ⊎_elim (λ (l : i < first). absurd (false_true (sym (low_no_gate i l) ∙ h))) (λ (l : first ≤ i). gate_sorted i l u) (lt_or_le i first);
      }

  pub renewed : Renewed g new
  unfolding reencoded
  renewed =
      record {
        counts = refl;
        one_to_one = one_to_one g marks s w no;
        carried = carried;
        values = same_values m (λ (i : ℕ). i < used) g.rows used rows used carried w.rows limit limit;
        inputs = input_entry;
        lists = entries;
        in_order = in_order;
        sized = new_sized;
        well_formed = new_well_formed;
      }
