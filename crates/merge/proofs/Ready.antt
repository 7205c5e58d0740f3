-- What is lent to `merge` is right: then the map fits, every column can be written by it, and what is written is as the map's definition says.
-- Assumes nothing.
use Prim.Native.Nat.{ℕ, ◌+◌, ◌-◌, ◌*◌, ◌/◌, ◌≤◌, ◌<◌}
use native.Mathlib.Omega.{arith}
use native.Mathlib.Nat.{le_of_eq}
use mathlib.Core.Path.{◌≡◌, refl, sym, ap, ◌∙◌}
use mathlib.Core.Bool.{Bool, true, false, cond, ◌||◌}
use mathlib.Core.Logic.{inl, inr, ⊎_elim}
use mathlib.Core.List.{List, ◌++◌}
use lib.ListN.{length, get_or, set, take, drop, replicate, length-drop}
use lib.Seq.{get_or-drop, take_all}
use Rattle.std.proofs.lemmas.List.{get_or-take, length-take-le}
use lib.Dec.{eqb, ltb}
use borrow.Author.Tests.{ltb-true, ltb-false, eqb-true, eq-eqb, ne_eqb}
use Rattle.edge.specs.Edges.{id_of}
use Rattle.edge.proofs.Tests.{either, false_true}
use Rattle.rows.specs.Sizes.{max_rows}
use Rattle.rows.specs.Rows.{none}
use Rattle.graph.specs.declared.Counts.{Counts}
use Rattle.graph.specs.Graph.{Lent, Sized}
use Rattle.graph.specs.Check.{cleared}
use Rattle.output.specs.Writing.{written}
use Rattle.renumber.specs.Renumber.{renamed, edges_of, ids_of, Lists, lists_of, renumber, graph_of, by}
use Rattle.renumber.specs.Steps.{IdsReady, ListsReady}
use Rattle.renumber.specs.Steps.{MarksHold, Small, ListsRoom}
use Rattle.output.specs.Room.{Room}
use Rattle.output.specs.Copying.{words_of, copied}
use Rattle.output.proofs.Writing.{written_length, written_turn, written_same, written_at_lem, written_drop}
use Rattle.output.proofs.Copying.{copied_whole}
use Rattle.renumber.proofs.Mapping.{lists_used, renumber_by, known, lists_ready}
use Rattle.renumber.proofs.Rowing.{Reaches, words_reach}
use Rattle.merge.specs.Merge.{shifted, offset, summed, merged, MergeLent}
use Rattle.merge.specs.Steps.{Addable, Movable, RowsReady}

-- ---- counts of right sizes can be added
pub addable : (g : Lent) (marks : ℕ) → Sized g marks → Addable g.counts
addable g marks s =
    record {
      some_row = s.rows.some;
      rows = omega (arith, s.rows.fit.within, s.rows.fit.limited);
      inputs = omega (arith, s.inputs.within, s.inputs.limited);
      latches = omega (arith, s.latches.within, s.latches.limited);
      constraints = omega (arith, s.constraints.within, s.constraints.limited);
      bads = omega (arith, s.bads.within, s.bads.limited);
      outputs = omega (arith, s.outputs.within, s.outputs.limited);
      sets = omega (arith, s.ends.within, s.ends.limited);
      edges = omega (arith, s.edges.within, s.edges.limited);
      fairness = omega (arith, s.fairness.within, s.fairness.limited);
    }

-- ---- room behind the first graph's entries
module _ (a : Lent) (n : Counts) (r : Room a (summed a.counts n)) where
  pub rows_room : a.counts.rows + n.rows - 1 ≤ length a.rows / 2
  unfolding summed
  rows_room = r.rows

  pub inputs_room : a.counts.inputs + n.inputs ≤ length a.inputs
  unfolding summed
  inputs_room = r.inputs

  pub lists_room : ListsRoom (lists_of a) a.counts n
  unfolding summed
  lists_room =
      record {
        latches = omega (arith, r.latches);
        constraints = r.constraints;
        bads = r.bads;
        outputs = r.outputs;
        ends = r.ends;
        edges = r.edges;
        fairness = r.fairness;
      }

-- ---- a word moved
module _ (n e : ℕ) where
  pub moved_kept : ltb e 2 || eqb e none ≡ true → e ≡ renamed (shifted n) e
  unfolding renamed shifted
  moved_kept h =
      ⊎_elim
      (λ (t : ltb e 2 ≡ true).
      let l : e < 2 = ltb-true e 2 t in
      let z : id_of e ≡ 0 = omega arith in
      rw (ne_eqb e none (λ (q : e ≡ none). absurd (omega arith)), eq-eqb (id_of e) 0 z) (omega arith))
      (λ (t : eqb e none ≡ true). rw t (eqb-true e none t))
      (either {a = ltb e 2} h)

  moves : ltb e 2 || eqb e none ≡ false → (2 ≤ e) × (eqb e none ≡ false)
  moves = go (ltb e 2) refl
    where
      go : (t : Bool) → ltb e 2 ≡ t → t || eqb e none ≡ false → (2 ≤ e) × (eqb e none ≡ false)
      go true q h = absurd (false_true (sym h))
      go false q h = (ltb-false e 2 q, h)

  module _ (h : ltb e 2 || eqb e none ≡ false) where
    pub moved_on : e + 2 * n ≡ renamed (shifted n) e
    unfolding renamed shifted
    moved_on = let t = moves h in rw (t.1, ne_eqb (id_of e) 0 (λ (z : id_of e ≡ 0). absurd (omega (arith, t.0)))) (omega arith)

-- ---- the map
-- a turn of the loop that fills it in
pub filled_turn : (f : ℕ → ℕ) (marks : List ℕ) (j : ℕ) {now : List ℕ} {v : ℕ} → now ≡ written marks 0 f j → v ≡ f j → set now j v ≡ written marks 0 f (j + 1)
filled_turn f marks j {now} {v} e w = let z : 0 + j ≡ j = omega arith in ap (λ (k : ℕ). set now k v) (sym z) ∙ written_turn marks 0 f j e w

-- the front of the marks is written, before the rest
pub filled_front : (f : ℕ → ℕ) (n : ℕ) (marks : List ℕ) {front : List ℕ} → front ≡ written (take n marks) 0 f (length (take n marks)) → n ≤ length marks
    → front ++ drop n marks ≡ written marks 0 f n
unfolding copied
filled_front f n marks {front} e h =
    let l : length (take n marks) ≡ n = length-take-le n marks h in
    let is : front ≡ written (take n marks) 0 f n = rw l at e in
    let long : length front ≡ n = rw is (written_length (take n marks) 0 f n ∙ l) in
    ap (λ (t : List ℕ). t ++ drop n marks) (sym (take_all n front (le_of_eq long))) ∙ (copied_whole marks front n (le_of_eq (sym long)) h ∙
    written_same marks 0 (words_of front) f n
    (λ j k. let z : 0 + j ≡ j = omega arith in ap (λ (t : List ℕ). get_or t j 0) is ∙ (ap (λ (i : ℕ). get_or (written (take n marks) 0 f n) i 0) (sym z) ∙ written_at_lem (take n marks) 0 f n j
    (omega (arith, l)) k)))

-- the marks hold it
pub filled : (f : ℕ → ℕ) (n : ℕ) (marks : List ℕ) {map : List ℕ} → map ≡ written marks 0 f n → n ≤ length marks → MarksHold n f map
filled f n marks {map} e h x l =
    let z : 0 + x ≡ x = omega arith in
    ap (λ (m : List ℕ). get_or m x 0) e ∙ (ap (λ (k : ℕ). get_or (written marks 0 f n) k 0) (sym z) ∙ written_at_lem marks 0 f n x (omega arith) l)

-- and are cleared of it
pub map_cleared : (f : ℕ → ℕ) (n : ℕ) (marks : List ℕ) {map after : List ℕ} → map ≡ written marks 0 f n → after ≡ cleared n map → after ≡ cleared n marks
map_cleared f n marks e w = w ∙ ap (λ (l : List ℕ). replicate n 0 ++ l) (ap (drop n) e ∙ written_drop marks 0 f n n (omega arith))

module _ (a b : Lent) (marks : ℕ) (l : MergeLent a b marks) where
  abbrev used : ℕ
  used = b.counts.rows

  abbrev m : ℕ → ℕ
  m = shifted (offset a)

  abbrev behind : ℕ
  behind = 2 * (used - 1)

  pub few : a.counts.rows + used ≤ max_rows + 1
  few = omega (arith, rows_room a b.counts l.room, l.sized.first.rows.fit.limited)

  pub small : Small used m
  unfolding shifted
  small x h = go (eqb x 0)
    where
      go : (t : Bool) → cond t 0 (x + offset a) ≤ max_rows
      go true = omega arith
      go false = omega (arith, few, l.sized.first.rows.some)

  reach : (j : ℕ) → j < behind → Reaches used (get_or (drop 2 b.rows) j 0)
  reach j h = rw (get_or-drop 2 b.rows j 0) (words_reach b.rows used l.second.rows j (omega arith))

  movable : (e : ℕ) → Reaches used e → Movable (offset a) e
  movable e (inl q) n = absurd (n q)
  movable e (inr k) n = omega (arith, few, l.sized.first.rows.some)

  -- the words of the rows behind row 0
  abbrev pub words : List ℕ
  words = take (2 * used - 2) (drop 2 b.rows)

  words_long : length words ≡ behind
  words_long = length-take-le (2 * used - 2) (drop 2 b.rows) (rw (length-drop 2 b.rows) (omega (arith, l.sized.second.rows.fit.within))) ∙ omega (arith, l.sized.second.rows.some)

  word_at : (j : ℕ) → j < behind → get_or words j 0 ≡ get_or (drop 2 b.rows) j 0
  word_at j h = get_or-take (2 * used - 2) (drop 2 b.rows) j 0 (omega arith)

  pub rows_ready : RowsReady (offset a) a.rows (2 * a.counts.rows) words
  rows_ready =
      record {
        room = omega (arith, words_long, rows_room a b.counts l.room, l.sized.first.rows.some, l.sized.second.rows.some);
        movable = λ j k. let h : j < behind = omega (arith, words_long) in rw (word_at j h) (movable (get_or (drop 2 b.rows) j 0) (reach j h));
      }

  rows_by : written a.rows (2 * a.counts.rows) (edges_of m words) (length words) ≡ written a.rows (2 * a.counts.rows) (edges_of m (drop 2 b.rows)) behind
  rows_by =
      rw words_long (written_same a.rows (2 * a.counts.rows) (edges_of m words) (edges_of m (drop 2 b.rows)) behind (λ j h. ap (renamed m) (word_at j h)))

  module _ (map : List ℕ) (h : MarksHold used m map) where
    pub inputs_by : written a.inputs a.counts.inputs (ids_of (by map) b.inputs) b.counts.inputs ≡ written a.inputs a.counts.inputs (ids_of m b.inputs) b.counts.inputs
    inputs_by =
        written_same a.inputs a.counts.inputs (ids_of (by map) b.inputs) (ids_of m b.inputs) b.counts.inputs
        (λ j k. h (get_or b.inputs j 0) (l.second.inputs j k).0)

    pub lists_by : renumber (by map) (lists_of a) a.counts (lists_of b) b.counts ≡ renumber m (lists_of a) a.counts (lists_of b) b.counts
    lists_by = renumber_by used m map h (lists_of a) a.counts (lists_of b) b.counts (lists_used b marks l.sized.second l.second)

    module _ (long : used ≤ length map) where
      pub inputs_ready : IdsReady map a.inputs a.counts.inputs b.inputs b.counts.inputs
      inputs_ready =
          record {
            room = inputs_room a b.counts l.room;
            has = l.sized.second.inputs.within;
            known = λ j k. known used m map h small long (get_or b.inputs j 0) (l.second.inputs j k).0;
          }

      pub all_ready : ListsReady map (lists_of a) a.counts (lists_of b) b.counts
      all_ready =
          lists_ready used m map h small long (lists_of a) a.counts (lists_of b) b.counts (lists_used b marks l.sized.second l.second)
          (lists_room a b.counts l.room)
          (omega (arith, l.sized.first.edges.within, l.sized.first.edges.limited))

  -- ---- the whole
  pub whole : (map : List ℕ) → MarksHold used m map → {rows inputs : List ℕ} {ls : Lists}
      → rows ≡ written a.rows (2 * a.counts.rows) (edges_of m words) (length words)
      → inputs ≡ written a.inputs a.counts.inputs (ids_of (by map) b.inputs) b.counts.inputs
      → ls ≡ renumber (by map) (lists_of a) a.counts (lists_of b) b.counts
      → graph_of rows inputs ls (summed a.counts b.counts) ≡ merged a b
  unfolding merged
  whole map h p q r = rw (p ∙ rows_by, q ∙ inputs_by map h, r ∙ lists_by map h)
