-- The constraints say at the start that each latch has the value of its init, and the graph that they are added to stays well-formed.
-- Assumes nothing.
use Prim.Native.Nat.{ℕ, ◌+◌, ◌-◌, ◌*◌, ◌≤◌, ◌<◌}
use native.Mathlib.Omega.{arith}
use mathlib.Core.Path.{◌≡◌, refl, sym, ap, ◌∙◌}
use mathlib.Core.Bool.{Bool, true, false, not, ◌||◌}
use mathlib.Core.Logic.{⊎_elim}
use mathlib.Core.List.{List, []}
use lib.ListN.{length, get_or}
use borrow.Author.Tests.{lt-ltb, le-leb}
use Rattle.edge.specs.Edges.{id_of}
use Rattle.edge.specs.Meaning.{edge_value}
use Rattle.edge.proofs.Tests.{both_true, false_true, lt_or_le}
use Rattle.rows.specs.Sizes.{max_rows, fits, rows_lent, rows_fit}
use Rattle.rows.specs.Rows.{none, leaf_at, AllRows}
use Rattle.rows.specs.Value.{value}
use Rattle.rows.proofs.Value.{value_leaf}
use Rattle.graph.specs.declared.Counts.{Counts}
use Rattle.graph.specs.declared.latch.Latch.{Latch}
use Rattle.graph.specs.Latches.{latch_words, latch_at, latch_inputs, latch_set, latch}
use Rattle.graph.specs.Leaves.{latch_edges}
use Rattle.graph.specs.Graph.{value_in, Lent, lent, Sized}
use Rattle.graph.specs.WellFormed.{listed, WellFormed}
use Rattle.build_leaves.specs.Calls.{counted}
use Rattle.gates.specs.Gates.{state, leaf_added}
use Rattle.build_leaves.specs.Leaves.{free_row}
use Rattle.gates.specs.Meaning.{Grows}
use Rattle.gates.proofs.Building.{row_long}
use Rattle.gates.proofs.Growing.{grows_on}
use Rattle.gates.proofs.Meaning.{grows_value, grows_edge}
use Rattle.build_leaves.proofs.Keeping.{keeps}
use Rattle.build_leaves.proofs.Meaning.{leaf_grows, leaf_made}
use Rattle.build_leaves.proofs.Graphs.{rows_stay, listed_used}
use Rattle.build_latches.proofs.Graphs.{latch_stays}
use Rattle.graph.proofs.Counting.{count_past, Counted, counted as counted_at}
use Rattle.graph.proofs.Latches.{latch_set_length, latch_kept, latch_set_at, same_inputs}
use Rattle.property.specs.GateInit.{Gating, gating, gate_steps, initless, inits_taken, part_of, with_part, gated_all, gated_counts, new_latch, gated_part}
use Rattle.property.specs.GateInitMeaning.{gated_at, GateRoom, place_of, StartsAt, equal, Constrained}
use Rattle.property.proofs.Making.{Within, Made, made}
use Rattle.property.proofs.Initless.{inits_length, inits_at, initless_input, initless_next, initless_gated, initless_left, initless_init, gated_edge}

-- ---- truth values
equal_same : (a b : Bool) → equal a b ≡ true → a ≡ b
equal_same true b h = sym h
equal_same false true h = absurd (false_true h)
equal_same false false h = refl

same_equal : (a : Bool) → equal a a ≡ true
same_equal true = refl
same_equal false = refl

-- ---- sizes as tests
rows_right : (g : Lent) (marks : ℕ) → Sized g marks → rows_fit g.counts.rows g.rows ≡ true
unfolding rows_fit fits
rows_right g marks s =
    both_true (lt-ltb 0 g.counts.rows s.rows.some)
    (both_true (le-leb g.counts.rows (rows_lent g.rows) s.rows.fit.within) (le-leb (rows_lent g.rows) max_rows s.rows.fit.limited))

constant_edges : (used x : ℕ) → 0 < used → latch_edges used (latch x 0 1) ≡ true
unfolding latch_edges
constant_edges used x l = rw (lt-ltb 0 used l)

-- ---- where a latch has such an init
module _ (g : Lent) (marks : ℕ) (z : Sized g marks) (w : WellFormed g) (room : GateRoom g) where
  abbrev used : ℕ
  used = g.counts.rows

  abbrev n : ℕ
  n = g.counts.latches

  abbrev at : ℕ
  at = g.counts.constraints

  abbrev base : List ℕ
  base = leaf_added g.rows used

  abbrev s : Gating
  s = gate_steps used g.latches (gating base (used + 1) g.constraints at) n

  base_long : length base ≡ length g.rows
  base_long = row_long g.rows used none 0

  rows_room : s.used ≤ rows_lent g.rows
  unfolding gated_all
  rows_room = room.rows

  list_room : s.count ≤ length g.constraints
  unfolding gated_all
  list_room = room.constraints

  within : (i : ℕ) → i < n → gated_at g i ≡ true → Within (used + 1) (latch_at g.latches i)
  within i l e = record { input = omega (arith, (w.latches i l).0); init = omega (arith, gated_edge used (latch_at g.latches i) e (w.inits i l)) }

  m : Made base (used + 1) used g.latches g.constraints at (omega arith) (omega arith) s n
  m = made base (used + 1) used g.latches g.constraints at (omega arith) (omega arith) n within (rw base_long rows_room) list_room

  free : free_row g.rows used ≡ true
  free = lt-ltb used (rows_lent g.rows) (omega (arith, rows_room, m.grows.more))

  abbrev leaf_state : Grows g.rows used (state base (used + 1) (2 * used))
  leaf_state = leaf_grows g.rows g.counts (rows_right g marks z) free

  grows : Grows g.rows used (state s.rows s.used 0)
  grows = grows_on g.rows used (state base (used + 1) (2 * used)) (state s.rows s.used 0) leaf_state m.grows

  good : AllRows s.rows s.used
  unfolding counted
  good = (keeps g.rows g.counts (state s.rows s.used 0) grows rows_room [] g.counts.inputs n 0).good w.rows

  chosen : (leaf : ℕ → Bool) → value base leaf used ≡ leaf used
  chosen = (leaf_made g.rows g.counts (rows_right g marks z) free [] g.counts.inputs n).chosen

  is_leaf_lem : leaf_at s.rows used ≡ true
  is_leaf_lem =
      rw (m.grows.kept (2 * used) (omega arith), m.grows.kept (2 * used + 1) (omega arith))
      (leaf_made g.rows g.counts (rows_right g marks z) free [] g.counts.inputs n).is_leaf

  -- ---- the constraint for latch i
  few : used ≤ max_rows
  few = omega (arith, z.rows.fit.within, z.rows.fit.limited)

  latch_value : (leaf : ℕ → Bool) (i : ℕ) → i < n → value base leaf (latch_at g.latches i).input ≡ leaf (latch_at g.latches i).input
  latch_value leaf i l =
      let x = (latch_at g.latches i).input in
      grows_value g.rows used (state base (used + 1) (2 * used)) leaf_state leaf x (w.latches i l).0
      ∙ value_leaf g.rows used leaf few x (w.latches i l).0 (w.latches i l).1

  init_value : (leaf : ℕ → Bool) (i : ℕ) → i < n → gated_at g i ≡ true → edge_value (value base leaf) (latch_at g.latches i).init ≡ value_in g leaf (latch_at g.latches i).init
  init_value leaf i l e =
      grows_edge g.rows used (state base (used + 1) (2 * used)) leaf_state leaf (latch_at g.latches i).init (gated_edge used (latch_at g.latches i) e (w.inits i l))

  each : (leaf : ℕ → Bool) (i : ℕ) → i < n → gated_at g i ≡ true
      → edge_value (value s.rows leaf) (get_or s.constraints (place_of g i) 0)
      ≡ not (leaf used) || equal (leaf (latch_at g.latches i).input) (value_in g leaf (latch_at g.latches i).init)
  each leaf i l e = (m.each i l e).means leaf ∙ rw (chosen leaf, latch_value leaf i l, init_value leaf i l e)

  -- a new constraint is one for a latch
  abbrev new_at : (k : ℕ) → at ≤ k → k < s.count → Counted (gated_at g) n (k - at)
  new_at k h l = counted_at (gated_at g) n (k - at) (omega (arith, m.count))

  new_holds : (leaf : ℕ → Bool) → ((i : ℕ) → i < n → gated_at g i ≡ true → not (leaf used) || equal (leaf (latch_at g.latches i).input) (value_in g leaf (latch_at g.latches i).init) ≡ true)
      → (k : ℕ) → at ≤ k → k < s.count → edge_value (value s.rows leaf) (get_or s.constraints k 0) ≡ true
  new_holds leaf h k a l =
      let c = new_at k a l in
      let q : k ≡ place_of g c.at = omega (arith, c.count) in
      rw q (each leaf c.at c.within c.such ∙ h c.at c.within c.such)

  holds_new : (leaf : ℕ → Bool) → leaf used ≡ true → ((k : ℕ) → at ≤ k → k < s.count → edge_value (value s.rows leaf) (get_or s.constraints k 0) ≡ true)
      → (i : ℕ) → i < n → gated_at g i ≡ true → StartsAt g leaf i
  holds_new leaf t h i l e =
      let v = sym (each leaf i l e) ∙ h (place_of g i) (omega arith) (omega (arith, m.count, count_past (gated_at g) n i l e)) in
      equal_same (leaf (latch_at g.latches i).input) (value_in g leaf (latch_at g.latches i).init) (rw t at v)

  edge_used : (k : ℕ) → k < s.count → id_of (get_or s.constraints k 0) < s.used
  edge_used k l =
      ⊎_elim
      (λ (h : k < at). rw (m.before k h) (omega (arith, w.constraints k h, grows.more)))
      (λ (h : at ≤ k).
      let c = new_at k h l in
      let q : k ≡ place_of g c.at = omega (arith, c.count) in
      rw q (m.each c.at c.within c.such).edge)
      (lt_or_le k at)

  -- ---- the latches
  abbrev taken : List ℕ
  taken = inits_taken g.latches n

  abbrev latches : List ℕ
  latches = latch_set taken n (new_latch used)

  has : latch_words * n ≤ length g.latches
  has = omega (arith, z.latches.within)

  taken_at : (i : ℕ) → i < n → latch_at taken i ≡ initless (latch_at g.latches i)
  taken_at i l = inits_at g.latches n i l has

  latch_room : latch_words * (n + 1) ≤ length taken
  latch_room = omega (arith, inits_length g.latches n, room.latches)

  old_latch : (i : ℕ) → i < n → latch_at latches i ≡ initless (latch_at g.latches i)
  old_latch i l = latch_kept taken n (new_latch used) i (λ (e : i ≡ n). absurd (omega arith)) ∙ taken_at i l

  taken_input : (i : ℕ) → i < n → (latch_at taken i).input ≡ (latch_at g.latches i).input
  taken_input i l = ap (λ (x : Latch). x.input) (taken_at i l) ∙ initless_input (latch_at g.latches i)

  taken_next : (i : ℕ) → i < n → (latch_at taken i).next ≡ (latch_at g.latches i).next
  taken_next i l = ap (λ (x : Latch). x.next) (taken_at i l) ∙ initless_next (latch_at g.latches i)

  taken_init : (i : ℕ) → i < n → (latch_at taken i).init ≡ (initless (latch_at g.latches i)).init
  taken_init i l = ap (λ (x : Latch). x.init) (taken_at i l)

  listed_same : latch_inputs taken n ≡ latch_inputs g.latches n
  listed_same = same_inputs taken g.latches n taken_input

  -- ---- before the new latch is added
  abbrev counts : Counts
  counts =
      record {
        rows = s.used;
        inputs = g.counts.inputs;
        latches = n;
        constraints = s.count;
        bads = g.counts.bads;
        outputs = g.counts.outputs;
        sets = g.counts.sets;
        edges = g.counts.edges;
        fairness = g.counts.fairness;
      }

  abbrev gated : Lent
  gated = lent s.rows g.inputs taken s.constraints g.bads g.outputs g.ends g.edges g.fairness counts

  gated_stays : WellFormed gated
  unfolding counted
  gated_stays =
      let t = rows_stay g w s.rows s.used grows.more grows.kept good in
      record {
        rows = t.rows;
        inputs = t.inputs;
        latches = λ i l. rw (taken_input i l) (t.latches i l);
        once = rw listed_same t.once;
        nexts = λ i l. rw (taken_next i l) (t.nexts i l);
        inits = λ i l. rw (taken_init i l) (initless_init s.used (latch_at g.latches i) (t.inits i l));
        constraints = edge_used;
        bads = t.bads;
        outputs = t.outputs;
        edges = t.edges;
        fairness = t.fairness;
        ends = t.ends;
        last = t.last;
        no_sets = t.no_sets;
      }

  unlisted : (j : ℕ) → j < length (listed gated) → get_or (listed gated) j 0 ≡ used → ⊥
  unlisted = rw listed_same (λ j l e. absurd (omega (arith, listed_used g z.inputs.within w j l)))

  after_stays : WellFormed (with_part g (gated_part (part_of g)))
  unfolding gated_part gated_counts gated_all counted
  after_stays =
      latch_stays gated gated_stays used (omega (arith, m.grows.more), is_leaf_lem) unlisted 0 1 latch_room (constant_edges s.used used (omega (arith, m.grows.more)))

  after_sized : (k : ℕ) → (with_part g (gated_part (part_of g))).counts.rows ≤ k → Sized (with_part g (gated_part (part_of g))) k
  unfolding gated_part gated_counts gated_all
  after_sized k h =
      let a : length latches ≡ length g.latches = latch_set_length taken n (new_latch used) ∙ inits_length g.latches n in
      record {
        rows = record {
          some = omega (arith, grows.more, z.rows.some);
          fit = record { within = rw grows.long rows_room; limited = rw grows.long z.rows.fit.limited };
        };
        marked = h;
        inputs = z.inputs;
        latches = record { within = omega (arith, a, room.latches); limited = omega (arith, a, z.latches.limited) };
        constraints = record { within = rw m.long list_room; limited = rw m.long z.constraints.limited };
        bads = z.bads;
        outputs = z.outputs;
        ends = z.ends;
        edges = z.edges;
        fairness = z.fairness;
      }

  pub constrained : Constrained g (with_part g (gated_part (part_of g)))
  unfolding gated_part gated_counts gated_all
  constrained =
      record {
        kept = record { more = grows.more; words = grows.kept; values = grows_value g.rows used (state s.rows s.used 0) grows };
        new_leaf_lem = (omega (arith, m.grows.more), is_leaf_lem);
        counts = refl;
        latches = refl;
        new_latch_lem = latch_set_at taken n (new_latch used) latch_room;
        inputs = λ i l. ap (λ (x : Latch). x.input) (old_latch i l) ∙ initless_input (latch_at g.latches i);
        nexts = λ i l. ap (λ (x : Latch). x.next) (old_latch i l) ∙ initless_next (latch_at g.latches i);
        lost = λ i l e. ap (λ (x : Latch). x.init) (old_latch i l ∙ initless_gated (latch_at g.latches i) e);
        left = λ i l e. old_latch i l ∙ initless_left (latch_at g.latches i) e;
        old_constraints = m.before;
        constraints = m.count;
        each = each;
        start = λ leaf t. (holds_new leaf t, λ h. new_holds leaf (λ i l e. rw (t, h i l e) (same_equal (value_in g leaf (latch_at g.latches i).init))));
        later = λ leaf f. new_holds leaf (λ i l e. rw f);
        others = refl;
        sized = after_sized;
        well_formed = after_stays;
      }
