-- The result is a well-formed graph of right sizes.
-- Assumes nothing.
use Prim.Native.Nat.{ℕ, ◌+◌, ◌-◌, ◌≤◌, ◌<◌}
use native.Mathlib.Omega.{arith}
use native.Mathlib.Nat.{eq-or-lt_of_le}
use mathlib.Core.Path.{◌≡◌, refl, sym, ap, subst, ◌∙◌}
use mathlib.Core.Bool.{true, cond}
use mathlib.Core.Logic.{◌⊎◌, inl, inr, ⊎_elim}
use mathlib.Core.List.{List, ◌++◌}
use lib.ListN.{length, get_or, take}
use lib.Dec.{ltb}
use borrow.Author.Tests.{lt-ltb, le-ltb, eq-eqb}
use Rattle.edge.specs.Edges.{id_of}
use Rattle.edge.proofs.Tests.{lt_or_le}
use Rattle.rows.specs.Sizes.{Fit}
use Rattle.rows.specs.Rows.{none, leaf_at}
use Rattle.graph.specs.declared.latch.Latch.{Latch}
use Rattle.graph.specs.Latches.{latch_at, latch_inputs}
use Rattle.graph.specs.Graph.{Lent, Sized, no_counts}
use Rattle.graph.specs.WellFormed.{UsedLeaf, listed, WellFormed}
use Rattle.graph.proofs.Listed.{all_long, input_at, latch_at_lem}
use Rattle.graph.specs.Count.{count_below}
use Rattle.renumber.specs.Renumber.{renamed, renamed_latch, edges_of, ends_of, ids_of, lists_of, renumber}
use Rattle.output.specs.Room.{Limited, Room}
use Rattle.renumber.specs.Entries.{SameEntries, Renumbered}
use Rattle.output.proofs.Writing.{written_length}
use Rattle.renumber.proofs.Writing.{latches_length}
use Rattle.renumber.proofs.Carrying.{renamed_row}
use Rattle.kept_rows.specs.Keeping.{kept_input, with_kept}
use Rattle.kept_rows.specs.Copying.{rows_kept, inputs_kept}
use Rattle.refine.specs.Refining.{is_kept, new_row, refined_counts, refined, old_rows}
use Rattle.refine.specs.Meaning.{Kept, KeptEdges, input_place, Refined}
use Rattle.refine.proofs.Result.{limit, coi, in_order, within, apart, some_row, named, carried, values, all_rows, inverse, input_from, entries}
use Rattle.refine.proofs.Standing.{words_long, rows_long}

-- the none word stays
none_stays : (m : ℕ → ℕ) (e : ℕ) → e ≡ none → renamed m e ≡ none
unfolding renamed
none_stays m e q = rw (eq-eqb e none q)

-- a listed id stands at one place
one_place : (g : Lent) → WellFormed g → (i j : ℕ) → i < length (listed g) → j < length (listed g) → get_or (listed g) i 0 ≡ get_or (listed g) j 0 → i ≡ j
one_place g w i j h k e =
    ⊎_elim
    (λ (l : i < j). absurd (w.once i j l k e))
    (λ (l : j ≤ i). ⊎_elim (λ (r : j ≡ i). sym r) (λ (r : j < i). absurd (w.once j i r h (sym e))) (eq-or-lt_of_le l))
    (lt_or_le i j)

module _ (g out : Lent) (marks : ℕ) (s : Sized g marks) (w : WellFormed g) (room : Room out (refined_counts g)) (limited : Limited out) where
  abbrev used : ℕ
  used = g.counts.rows

  abbrev used' : ℕ
  used' = count_below (is_kept g) used

  abbrev n : ℕ
  n = g.counts.inputs

  abbrev n' : ℕ
  n' = count_below (kept_input (is_kept g) g.inputs) n

  abbrev m : ℕ → ℕ
  m = new_row g

  abbrev new : Lent
  new = refined g out

  abbrev rows : List ℕ
  rows = rows_kept (is_kept g) (new_row g) g.rows out.rows used

  abbrev inputs : List ℕ
  inputs = inputs_kept (is_kept g) (new_row g) g.inputs out.inputs n

  -- ---- sizes
  fitting : {long lent count limit : ℕ} → long ≡ lent → count ≤ lent → lent ≤ limit → Fit count long limit
  fitting e a b = record { within = omega arith; limited = omega arith }

  inputs_long : length inputs ≡ length out.inputs
  inputs_long = words_long (kept_input (is_kept g) g.inputs) (ids_of (new_row g) g.inputs) out.inputs n

  new_sized : (k : ℕ) → used' ≤ k → Sized new k
  unfolding refined renumber with_kept
  new_sized k l =
      let c = g.counts in
      let r = rows_long (is_kept g) (new_row g) g.rows out.rows used in
      record {
        rows = record { some = some_row g marks s w; fit = record { within = omega (arith, r, room.rows); limited = omega (arith, r, limited.rows) } };
        marked = l;
        inputs = fitting inputs_long room.inputs limited.inputs;
        latches = record {
          within = omega (arith, room.latches, latches_length m out.latches 0 g.latches c.latches);
          limited = omega (arith, limited.latches, latches_length m out.latches 0 g.latches c.latches);
        };
        constraints = fitting (written_length out.constraints 0 (edges_of m g.constraints) c.constraints) room.constraints limited.constraints;
        bads = fitting (written_length out.bads 0 (edges_of m g.bads) c.bads) room.bads limited.bads;
        outputs = fitting (written_length out.outputs 0 (edges_of m g.outputs) c.outputs) room.outputs limited.outputs;
        ends = fitting (written_length out.ends 0 (ends_of 0 g.ends) c.sets) room.ends limited.ends;
        edges = fitting (written_length out.edges 0 (edges_of m g.edges) c.edges) room.edges limited.edges;
        fairness = fitting (written_length out.fairness 0 (edges_of m g.fairness) c.fairness) room.fairness limited.fairness;
      }

  -- ---- ids and edges
  leaf_used : (x : ℕ) → UsedLeaf g x → Kept g x → (m x < used') × (leaf_at rows (m x) ≡ true)
  leaf_used x t k = (within g marks s w x t.0 k, (carried g marks s w out room).leaves x t.0 k t.1)

  edge_used : (e : ℕ) → id_of e < used → Kept g (id_of e) → id_of (renamed m e) < used'
  edge_used e l k = rw (renamed_row m e (λ (q : e ≡ none). absurd (omega (arith, limit g marks s w)))) (within g marks s w (id_of e) l k)

  edges_used :
      (list after : List ℕ) (c : ℕ) → SameEntries m 0 list c after → ((j : ℕ) → j < c → id_of (get_or list j 0) < used) → KeptEdges g list c → (j : ℕ) → j < c → id_of (get_or after j 0) <
      used'
  edges_used list after c e u k j l =
      let z : 0 + j ≡ j = omega arith in
      let q : get_or after j 0 ≡ renamed m (get_or list j 0) = ap (λ (i : ℕ). get_or after i 0) (sym z) ∙ e j l in
      rw q (edge_used (get_or list j 0) (u j l) (k j l))

  -- ---- the lists, entry by entry
  lists : Renumbered (new_row g) no_counts (lists_of g) g.counts (lists_of new)
  unfolding refined
  lists = entries g marks s w out room

  latch_entry : (j : ℕ) → j < g.counts.latches → latch_at new.latches j ≡ renamed_latch m (latch_at g.latches j)
  latch_entry j l = let z : 0 + j ≡ j = omega arith in ap (latch_at new.latches) (sym z) ∙ lists.latches j l

  input_entry : (j : ℕ) → j < g.counts.latches → (latch_at new.latches j).input ≡ m (latch_at g.latches j).input
  unfolding renamed_latch
  input_entry j l = ap (λ (x : Latch). x.input) (latch_entry j l)

  next_entry : (j : ℕ) → j < g.counts.latches → (latch_at new.latches j).next ≡ renamed m (latch_at g.latches j).next
  unfolding renamed_latch
  next_entry j l = ap (λ (x : Latch). x.next) (latch_entry j l)

  init_entry : (j : ℕ) → j < g.counts.latches → (latch_at new.latches j).init ≡ renamed m (latch_at g.latches j).init
  unfolding renamed_latch
  init_entry j l = ap (λ (x : Latch). x.init) (latch_entry j l)

  init_used : (e : ℕ) → (e ≡ none) ⊎ (id_of e < used) → (e ≡ none) ⊎ Kept g (id_of e) → (renamed m e ≡ none) ⊎ (id_of (renamed m e) < used')
  init_used e (inl q) k = inl (none_stays m e q)
  init_used e (inr l) (inl q) = inl (none_stays m e q)
  init_used e (inr l) (inr k) = inr (edge_used e l k)

  end_same : (j : ℕ) → j < g.counts.sets → get_or new.ends j 0 ≡ get_or g.ends j 0
  end_same j l = let z : 0 + j ≡ j = omega arith in ap (λ (k : ℕ). get_or new.ends k 0) (sym z) ∙ (lists.ends j l ∙ omega arith)

  -- ---- no leaf is listed twice
  abbrev all : List ℕ
  all = take n' inputs ++ latch_inputs new.latches g.counts.latches

  fit : n' ≤ length inputs
  unfolding with_kept
  fit = omega (arith, inputs_long, room.inputs)

  long : length all ≡ n' + g.counts.latches
  long = all_long inputs n' new.latches g.counts.latches fit

  long_before : length (listed g) ≡ n + g.counts.latches
  long_before = all_long g.inputs n g.latches g.counts.latches s.inputs.within

  -- where place q of the listed ids goes
  place : ℕ → ℕ
  place q = cond (ltb q n) (input_place g q) (n' + (q - n))

  -- what is listed at k is a listed id of g that is kept
  record From (k : ℕ) : Type 0 where
    at : ℕ
    within_list : at < length (listed g)
    goes : k ≡ place at
    kept : Kept g (get_or (listed g) at 0)
    same : get_or all k 0 ≡ m (get_or (listed g) at 0)

  from_input : (k : ℕ) → k < n' → From k
  unfolding place
  from_input k h =
      let c = input_from g marks s w out room k h in
      let e = input_at g.inputs n g.latches g.counts.latches s.inputs.within c.from c.within in
      record {
        at = c.from;
        within_list = omega (arith, long_before, c.within);
        goes = rw (lt-ltb c.from n c.within) (sym c.place);
        kept = rw e c.kept;
        same = input_at inputs n' new.latches g.counts.latches fit k h ∙ (c.same ∙ ap m (sym e));
      }

  from_latch : (i : ℕ) → i < g.counts.latches → From (n' + i)
  unfolding place
  from_latch i h =
      let e = latch_at_lem g.inputs n g.latches g.counts.latches s.inputs.within i h in
      record {
        at = n + i;
        within_list = omega (arith, long_before);
        goes = rw (le-ltb (n + i) n (omega arith)) (omega arith);
        kept = rw e ((named g marks s w).latches i h);
        same = latch_at_lem inputs n' new.latches g.counts.latches fit i h ∙ (input_entry i h ∙ ap m (sym e));
      }

  from : (k : ℕ) → k < length all → From k
  from k h =
      ⊎_elim
      (λ (r : k < n'). from_input k r)
      (λ (r : n' ≤ k). let e : n' + (k - n') ≡ k = omega arith in subst From e (from_latch (k - n') (omega (arith, long))))
      (lt_or_le k n')

  once : (i j : ℕ) → i < j → j < length all → get_or all i 0 ≡ get_or all j 0 → ⊥
  once i j h k e =
      let a = from i (omega arith) in
      let b = from j k in
      let x : get_or (listed g) a.at 0 ≡ get_or (listed g) b.at 0 = apart g marks s w (get_or (listed g) a.at 0) (get_or (listed g) b.at 0) a.kept b.kept (sym a.same ∙ (e ∙ b.same)) in
      let y : i ≡ j = a.goes ∙ (ap place (one_place g w a.at b.at a.within_list b.within_list x) ∙ sym b.goes) in
      omega arith

  -- ---- the whole
  new_input : (k : ℕ) → k < n' → (get_or inputs k 0 < used') × (leaf_at rows (get_or inputs k 0) ≡ true)
  new_input k l = let c = input_from g marks s w out room k l in rw c.same (leaf_used (get_or g.inputs c.from 0) (w.inputs c.from c.within) c.kept)

  new_well_formed : WellFormed new
  unfolding refined with_kept
  new_well_formed =
      let k = named g marks s w in
      record {
        rows = all_rows g marks s w out room;
        inputs = new_input;
        latches = λ j l. rw (input_entry j l) (leaf_used (latch_at g.latches j).input (w.latches j l) (k.latches j l));
        once = once;
        nexts = λ j l. rw (next_entry j l) (edge_used (latch_at g.latches j).next (w.nexts j l) (k.nexts j l));
        inits = λ j l. rw (init_entry j l) (init_used (latch_at g.latches j).init (w.inits j l) (k.inits j l));
        constraints = edges_used g.constraints new.constraints g.counts.constraints lists.constraints w.constraints k.constraints;
        bads = edges_used g.bads new.bads g.counts.bads lists.bads w.bads k.bads;
        outputs = edges_used g.outputs new.outputs g.counts.outputs lists.outputs w.outputs k.outputs;
        edges = edges_used g.edges new.edges g.counts.edges lists.edges w.edges k.edges;
        fairness = edges_used g.fairness new.fairness g.counts.fairness lists.fairness w.fairness k.fairness;
        ends = λ i l. rw (end_same i (omega arith), end_same (i + 1) l) (w.ends i l);
        last = λ i e. end_same i (omega arith) ∙ w.last i e;
        no_sets = w.no_sets;
      }

  pub is_refined : (old : List ℕ) → (refined_counts g).rows ≤ length old → Refined g (refined g out) (old_rows g old)
  unfolding refined with_kept
  is_refined old old_room =
      record {
        counts = refl;
        is_coi = coi g marks s w;
        in_order = in_order g marks s w;
        inverse = inverse g marks s w out room old old_room;
        carried = carried g marks s w out room;
        values = values g marks s w out room;
        named = named g marks s w;
        lists = lists;
        inputs = λ k l. input_from g marks s w out room k l;
        sized = new_sized;
        well_formed = new_well_formed;
      }
