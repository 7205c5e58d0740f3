-- The result: kept rows are carried over in order and with their values, and every entry corresponds.
-- Assumes nothing.
use Prim.Native.Nat.{ℕ, ◌*◌, ◌≤◌, ◌<◌}
use native.Mathlib.Omega.{arith}
use mathlib.Core.Path.{◌≡◌, refl, sym, ap, subst, ◌∙◌}
use mathlib.Core.Bool.{Bool, true, false, ◌&&◌, ◌||◌, or-true}
use mathlib.Core.Logic.{◌⊎◌, inl, inr, ⊎_elim}
use mathlib.Core.List.Memᴰ
use mathlib.Core.List.{List, ◌++◌}
use lib.ListN.{length, get_or, take}
use lib.Seq.{length-take-le, get_or-take}
use lib.Dec.{eqb, ltb}
use borrow.Author.Tests.{lt-ltb, ltb-true, eq-eqb, eqb-true, eqb-false}
use Rattle.edge.specs.Edges.{id_of}
use Rattle.edge.proofs.Tests.{both, both_true, either}
use Rattle.rows.specs.Sizes.{max_rows, rows_lent}
use Rattle.rows.specs.Rows.{word0, word1, none, false_word, is_false_row, is_leaf, is_gate, is_row, leaf_at, gate_at, row_at, AllRows}
use Rattle.rows.proofs.Laws.{gate_below}
use Rattle.rows.proofs.Value.{leaf_no_gate}
use Rattle.graph.specs.Latches.{latch_at}
use Rattle.graph.specs.Graph.{Lent, Sized, no_counts}
use Rattle.graph.specs.WellFormed.{WellFormed}
use Rattle.coi.specs.Meaning.{IsCoi}
use Rattle.coi.specs.Meaning.Reached.{always, latch}
use Rattle.coi.proofs.Searching.{On, on_at}
use Rattle.graph.specs.Count.{count_below}
use Rattle.renumber.specs.Renumber.{renamed, ids_of, lists_of, renumber}
use Rattle.renumber.specs.Steps.{ListsRoom}
use Rattle.output.specs.Room.{Room}
use Rattle.renumber.specs.Entries.{Renumbered}
use Rattle.renumber.specs.Meaning.{Carried, SameValues}
use Rattle.graph.proofs.Counting.{count_within, count_past, count_apart, Counted, counted}
use Rattle.renumber.proofs.Carrying.{renamed_edge, same_values}
use Rattle.renumber.proofs.Mapping.{lists_room}
use Rattle.renumber.proofs.Entering.{renumbered}
use Rattle.kept_rows.specs.Kept.{init_roots, list_roots, refine_roots, kept_flags}
use Rattle.kept_rows.specs.Keeping.{kept_row, kept_id, kept_input, with_kept}
use Rattle.kept_rows.specs.Copying.{row_word, rows_kept, inputs_kept}
use Rattle.refine.specs.Refining.{is_kept, new_row, refined_counts, old_rows}
use Rattle.refine.specs.Meaning.{Kept, NamedKept, InputFrom, Inverse}
use Rattle.kept_rows.proofs.Reaching.{kept_coi, input_reached, edge_on, init_reached}
use Rattle.refine.proofs.Standing.{word_at, first_at, second_at}

-- ---- a row's kind, by its words
is_leaf_lem : (i j a b : ℕ) → is_leaf i a b ≡ true → 0 < j → is_leaf j a b ≡ true
unfolding is_leaf
is_leaf_lem i j a b h l =
    let t = both {a = ltb 0 i && eqb a none} {b = eqb b 0} h in
    both_true (both_true (lt-ltb 0 j l) (both {a = ltb 0 i} {b = eqb a none} t.0).1) t.1

leaf_some : (i a b : ℕ) → is_leaf i a b ≡ true → 0 < i
unfolding is_leaf
leaf_some i a b h = ltb-true 0 i (both {a = ltb 0 i} {b = eqb a none} (both {a = ltb 0 i && eqb a none} {b = eqb b 0} h).0).0

is_gate_lem : (k a b : ℕ) → a < 2 * k → b < 2 * k → is_gate k a b ≡ true
unfolding is_gate
is_gate_lem k a b l m = both_true (lt-ltb a (2 * k) l) (lt-ltb b (2 * k) m)

row_leaf : (i a b : ℕ) → is_leaf i a b ≡ true → is_row i a b ≡ true
unfolding is_row
row_leaf i a b h = rw (h, or-true (is_false_row i a b))

row_gate : (i a b : ℕ) → is_gate i a b ≡ true → is_row i a b ≡ true
unfolding is_row
row_gate i a b h = rw (h, or-true (is_false_row i a b || is_leaf i a b))

-- row 0 is no gate
zero_no_gate : (a b : ℕ) → is_gate 0 a b ≡ false
unfolding is_gate
zero_no_gate a b = go (ltb a 0) refl
  where
    go : (t : Bool) → ltb a 0 ≡ t → t && ltb b 0 ≡ false
    go true e = absurd (omega (arith, ltb-true a 0 e))
    go false e = refl

module _ (g : Lent) (marks : ℕ) (s : Sized g marks) (w : WellFormed g) where
  abbrev used : ℕ
  used = g.counts.rows

  abbrev p : ℕ → Bool
  p = kept_row (kept_flags g)

  abbrev m : ℕ → ℕ
  m = new_row g

  pub limit : used ≤ max_rows
  limit = omega (arith, s.rows.fit.within, s.rows.fit.limited)

  pub coi : IsCoi g (refine_roots g) (kept_flags g)
  coi = kept_coi g marks s w

  -- ---- the new numbers
  is_kept_lem : (i : ℕ) → Kept g i → is_kept g i ≡ true
  is_kept_lem i k = eq-eqb (get_or (kept_flags g) i 0) 1 k

  kept_is : (i : ℕ) → is_kept g i ≡ true → Kept g i
  kept_is i t = eqb-true (get_or (kept_flags g) i 0) 1 t

  zero_kept : Kept g 0
  zero_kept = coi.reached 0 always

  pub number : (i : ℕ) → Kept g i → new_row g i ≡ count_below (is_kept g) i
  unfolding kept_id
  number i k = rw (is_kept_lem i k)

  pub number_zero : new_row g 0 ≡ 0
  number_zero = number 0 zero_kept ∙ none
    where
      none : count_below (is_kept g) 0 ≡ 0
      none = unfold count_below in refl

  pub in_order : (i j : ℕ) → i < j → Kept g i → Kept g j → new_row g i < new_row g j
  in_order i j l a b = omega (arith, number i a, number j b, count_past (is_kept g) j i l (is_kept_lem i a))

  pub within : (i : ℕ) → i < used → Kept g i → new_row g i < count_below (is_kept g) used
  within i l k = omega (arith, number i k, count_past (is_kept g) used i l (is_kept_lem i k))

  pub apart : (i j : ℕ) → Kept g i → Kept g j → new_row g i ≡ new_row g j → i ≡ j
  apart i j a b e = count_apart (is_kept g) i j (is_kept_lem i a) (is_kept_lem j b) (sym (number i a) ∙ (e ∙ number j b))

  pub some_row : 0 < count_below (is_kept g) used
  some_row = omega (arith, within 0 s.rows.some zero_kept)

  -- row k of the new graph was a kept row
  pub came : (k : ℕ) → k < count_below (is_kept g) used → Counted (is_kept g) used k
  came k l = counted (is_kept g) used k l

  -- ---- what the lists name is kept
  list_on : (list : List ℕ) (n j : ℕ) → n ≤ length list → j < n → On (get_or list j 0) (take n list)
  list_on list n j h l = subst (λ (x : ℕ). On x (take n list)) (get_or-take n list j 0 l) (on_at (take n list) j (rw (length-take-le n list h) l))

  named_edge : (e : ℕ) → On e (list_roots g) → Kept g (id_of e)
  named_edge e o = coi.reached (id_of e) (edge_on g marks s w e (Memᴰ.append_left (init_roots g.latches g.counts.latches) o))

  abbrev c : List ℕ
  c = take g.counts.constraints g.constraints

  abbrev b : List ℕ
  b = take g.counts.bads g.bads

  abbrev o : List ℕ
  o = take g.counts.outputs g.outputs

  abbrev e : List ℕ
  e = take g.counts.edges g.edges

  abbrev f : List ℕ
  f = take g.counts.fairness g.fairness

  pub named : NamedKept g
  named =
      record {
        latches = λ j l. coi.reached (latch_at g.latches j).input (input_reached g marks s w j l);
        nexts = λ j l. coi.reached (id_of (latch_at g.latches j).next) (latch j l (input_reached g marks s w j l));
        inits = λ j l. init j l (eqb (latch_at g.latches j).init none) refl;
        constraints = λ j l. named_edge (get_or g.constraints j 0) (Memᴰ.append_left (b ++ (o ++ (e ++ f))) (list_on g.constraints g.counts.constraints j s.constraints.within l));
        bads = λ j l. named_edge (get_or g.bads j 0) (Memᴰ.append_right c (Memᴰ.append_left (o ++ (e ++ f)) (list_on g.bads g.counts.bads j s.bads.within l)));
        outputs = λ j l. named_edge (get_or g.outputs j 0)
            (Memᴰ.append_right c (Memᴰ.append_right b (Memᴰ.append_left (e ++ f) (list_on g.outputs g.counts.outputs j s.outputs.within l))));
        edges = λ j l. named_edge (get_or g.edges j 0)
            (Memᴰ.append_right c (Memᴰ.append_right b (Memᴰ.append_right o (Memᴰ.append_left f (list_on g.edges g.counts.edges j s.edges.within l)))));
        fairness = λ j l. named_edge (get_or g.fairness j 0)
            (Memᴰ.append_right c (Memᴰ.append_right b (Memᴰ.append_right o (Memᴰ.append_right e (list_on g.fairness g.counts.fairness j s.fairness.within l)))));
      }
    where
      init : (j : ℕ) → j < g.counts.latches → (t : Bool) → eqb (latch_at g.latches j).init none ≡ t → ((latch_at g.latches j).init ≡ none) ⊎ Kept g (id_of (latch_at g.latches j).init)
      init j l true q = inl (eqb-true (latch_at g.latches j).init none q)
      init j l false q = inr (coi.reached (id_of (latch_at g.latches j).init) (init_reached g marks s w j l (eqb-false (latch_at g.latches j).init none q)))

  module _ (out : Lent) (room : Room out (refined_counts g)) where
    abbrev rows : List ℕ
    rows = rows_kept (is_kept g) (new_row g) g.rows out.rows used

    abbrev used' : ℕ
    used' = count_below (is_kept g) used

    rows_room : count_below (is_kept g) used ≤ rows_lent out.rows
    unfolding with_kept
    rows_room = room.rows

    -- ---- the rows
    -- the words of a kept row, where it went
    first_word : (i : ℕ) → i < used → Kept g i → word0 rows (m i) ≡ row_word m g.rows i (word0 g.rows i)
    first_word i l k = rw (number i k) (first_at p m g.rows out.rows used i rows_room l (is_kept_lem i k))

    second_word : (i : ℕ) → i < used → Kept g i → word1 rows (m i) ≡ row_word m g.rows i (word1 g.rows i)
    second_word i l k = rw (number i k) (second_at p m g.rows out.rows used i rows_room l (is_kept_lem i k))

    -- those of a row that is no gate stay
    word_stays : (i x : ℕ) → gate_at g.rows i ≡ false → row_word m g.rows i x ≡ x
    unfolding row_word
    word_stays i x h = rw h

    word_renamed : (i x : ℕ) → gate_at g.rows i ≡ true → row_word m g.rows i x ≡ renamed m x
    unfolding row_word
    word_renamed i x h = rw h

    leaf_carried : (i : ℕ) → i < used → Kept g i → leaf_at g.rows i ≡ true → leaf_at rows (m i) ≡ true
    leaf_carried i l k h =
        let n = leaf_no_gate i (word0 g.rows i) (word1 g.rows i) (omega (arith, limit)) h in
        let z = in_order 0 i (leaf_some i (word0 g.rows i) (word1 g.rows i) h) zero_kept k in
        rw (first_word i l k ∙ word_stays i (word0 g.rows i) n, second_word i l k ∙ word_stays i (word1 g.rows i) n)
        (is_leaf_lem i (m i) (word0 g.rows i) (word1 g.rows i) h (omega arith))

    -- an edge of a kept gate
    edge_below : (i x : ℕ) → i < used → Kept g i → id_of x < i → Kept g (id_of x) → renamed m x < 2 * m i
    edge_below i x l k h q = omega (arith, renamed_edge m x (λ (z : x ≡ none). absurd (omega (arith, limit))), in_order (id_of x) i h q k)

    gate_carried : (i : ℕ) → i < used → Kept g i → gate_at g.rows i ≡ true → gate_at rows (m i) ≡ true
    gate_carried i l k h =
        let t = gate_below i (word0 g.rows i) (word1 g.rows i) h in
        let f = coi.closed i k h in
        rw (first_word i l k ∙ word_renamed i (word0 g.rows i) h, second_word i l k ∙ word_renamed i (word1 g.rows i) h)
        (is_gate_lem (m i) (renamed m (word0 g.rows i)) (renamed m (word1 g.rows i)) (edge_below i (word0 g.rows i) l k t.0 f.0) (edge_below i (word1 g.rows i) l k t.1 f.1))

    pub carried : Carried (new_row g) (Kept g) g.rows used rows used'
    carried =
        record {
          zero = number_zero;
          within = within;
          leaves = leaf_carried;
          gates = λ i l k h. (gate_carried i l k h, inl (first_word i l k ∙ word_renamed i (word0 g.rows i) h, second_word i l k ∙ word_renamed i (word1 g.rows i) h));
          fanins = λ i l k h. coi.closed i k h;
        }

    pub few : used' ≤ max_rows
    few = omega (arith, count_within (is_kept g) used, limit)

    pub values : SameValues (new_row g) (Kept g) g.rows used rows
    values = same_values (new_row g) (Kept g) g.rows used rows used' carried w.rows limit few

    row_carried : (i : ℕ) → i < used → Kept g i → row_at rows (m i) ≡ true
    unfolding is_row is_false_row
    row_carried i l k =
        ⊎_elim (λ h. ⊎_elim zero_row (λ h. row_leaf (m i) (word0 rows (m i)) (word1 rows (m i)) (leaf_carried i l k h)) (either {a = is_false_row i (word0 g.rows i) (word1 g.rows i)} h))
        (λ h. row_gate (m i) (word0 rows (m i)) (word1 rows (m i)) (gate_carried i l k h))
        (either {a = is_false_row i (word0 g.rows i) (word1 g.rows i) || is_leaf i (word0 g.rows i) (word1 g.rows i)} (w.rows i l))
      where
        zero_row : is_false_row i (word0 g.rows i) (word1 g.rows i) ≡ true → is_row (m i) (word0 rows (m i)) (word1 rows (m i)) ≡ true
        zero_row h =
            let t = both {a = eqb i 0 && eqb (word0 g.rows i) false_word} {b = eqb (word1 g.rows i) 0} h in
            let u = both {a = eqb i 0} {b = eqb (word0 g.rows i) false_word} t.0 in
            let z : i ≡ 0 = eqb-true i 0 u.0 in
            let n : gate_at g.rows i ≡ false = rw z (zero_no_gate (word0 g.rows 0) (word1 g.rows 0)) in
            let q : m i ≡ 0 = ap m z ∙ number_zero in
            let x = first_word i l k ∙ word_stays i (word0 g.rows i) n in
            let y = second_word i l k ∙ word_stays i (word1 g.rows i) n in
            rw (x, y, u.1, t.1, eq-eqb (m i) 0 q)

    pub all_rows : AllRows rows used'
    all_rows k l = let c = came k l in subst (λ (x : ℕ). row_at rows x ≡ true) (number c.at (kept_is c.at c.such) ∙ c.count) (row_carried c.at c.within (kept_is c.at c.such))

    -- ---- the new-to-old list
    module _ (old : List ℕ) (old_room : (refined_counts g).rows ≤ length old) where
      old_at : (i : ℕ) → i < used → Kept g i → get_or (old_rows g old) (new_row g i) 0 ≡ i
      unfolding old_rows with_kept
      old_at i l k = rw (number i k) (word_at p (λ (j : ℕ). j) old used i old_room l (is_kept_lem i k))

      pub inverse : Inverse g used' (old_rows g old)
      inverse =
          record {
            back = old_at;
            kept = λ k l. let c = came k l in subst (Kept g) (sym (stands k l)) (kept_is c.at c.such);
            forth = λ k l. let c = came k l in ap (new_row g) (stands k l) ∙ (number c.at (kept_is c.at c.such) ∙ c.count);
          }
        where
          stands : (k : ℕ) (l : k < used') → get_or (old_rows g old) k 0 ≡ (came k l).at
          stands k l =
              let c = came k l in
              ap (λ (x : ℕ). get_or (old_rows g old) x 0) (sym (number c.at (kept_is c.at c.such) ∙ c.count)) ∙ old_at c.at c.within (kept_is c.at c.such)

    -- ---- the inputs
    abbrev q : ℕ → Bool
    q = kept_input (is_kept g) g.inputs

    inputs_room : count_below q g.counts.inputs ≤ length out.inputs
    unfolding with_kept
    inputs_room = room.inputs

    abbrev inputs : List ℕ
    inputs = inputs_kept (is_kept g) (new_row g) g.inputs out.inputs g.counts.inputs

    pub input_from : (k : ℕ) → k < count_below (kept_input (is_kept g) g.inputs) g.counts.inputs → InputFrom g inputs k
    input_from k l =
        let c = counted q g.counts.inputs k l in
        record {
          from = c.at;
          within = c.within;
          kept = kept_is (get_or g.inputs c.at 0) c.such;
          place = c.count;
          same = ap (λ (x : ℕ). get_or inputs x 0) (sym c.count) ∙ word_at q (ids_of (new_row g) g.inputs) out.inputs g.counts.inputs c.at inputs_room c.within c.such;
        }

    -- ---- the other lists
    pub other_room : ListsRoom (lists_of out) no_counts g.counts
    unfolding with_kept
    other_room =
        let t = lists_room out (refined_counts g) room in
        record { latches = t.latches; constraints = t.constraints; bads = t.bads; outputs = t.outputs; ends = t.ends; edges = t.edges; fairness = t.fairness }

    pub entries : Renumbered (new_row g) no_counts (lists_of g) g.counts (renumber (new_row g) (lists_of out) no_counts (lists_of g) g.counts)
    entries = renumbered (new_row g) (lists_of out) no_counts (lists_of g) g.counts other_room
