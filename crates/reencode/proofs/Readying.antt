-- What the steps rest on holds where no answer is left.
-- Assumes nothing.
use Prim.Native.Nat.{ℕ, ◌+◌, ◌≤◌, ◌<◌, ◌^◌}
use native.Mathlib.Omega.{arith}
use mathlib.Core.Path.{◌≡◌, sym, ap, ◌∙◌}
use mathlib.Core.List.{List}
use lib.ListN.{length, get_or, take, drop}
use Rattle.std.proofs.lemmas.List.{get_or-take, length-take-le}
use Rattle.rows.specs.Sizes.{max_rows}
use Rattle.graph.specs.declared.Counts.{Counts}
use Rattle.graph.specs.Latches.{latch_at}
use Rattle.graph.specs.Graph.{Lent, Sized, no_counts}
use Rattle.graph.specs.WellFormed.{WellFormed, leaf_list}
use Rattle.graph.proofs.Listed.{all_long, input_at, latch_at_lem}
use Rattle.output.specs.Writing.{written}
use Rattle.renumber.specs.Renumber.{ids_of, Lists, lists_of, renumber, graph_of, by}
use Rattle.renumber.specs.Steps.{IdsReady, ListsReady}
use Rattle.renumber.specs.Steps.{MarksHold, Small}
use Rattle.output.proofs.Writing.{written_same}
use Rattle.renumber.proofs.Mapping.{lists_used, lists_room, renumber_by, known, lists_ready}
use Rattle.graph.specs.Count.{gates_below}
use Rattle.reencode.specs.Numbers.{place_in, first_gate, numbered, number_of, new_id}
use Rattle.reencode.specs.Steps.{placed}
use Rattle.reencode.specs.Rebuilding.{leaves_added, gates_added, rows_of, reencoded}
use Rattle.reencode.specs.Steps.{IdsMarked, GatesReady, RowsReady, ReencodeReady}
use Rattle.reencode.proofs.Placing.{placed_length, placed_same, placed_split, placed_beyond, place_bound, places_hold}
use Rattle.reencode.proofs.Numbering.{numbered_same, numbered_small, gates_same}
use Rattle.reencode.proofs.Leaving.{listed_leaf, rows_counted}

-- ---- the rows and the numbers
module _ (g : Lent) (marks : List ℕ) (r : RowsReady g marks) where
  abbrev n : Counts
  n = g.counts

  abbrev rows : List ℕ
  rows = g.rows

  abbrev inputs : List ℕ
  inputs = g.inputs

  abbrev latches : List ℕ
  latches = g.latches

  abbrev list : List ℕ
  list = leaf_list inputs n.inputs latches n.latches

  abbrev input_id : ℕ → ℕ
  input_id j = get_or inputs j 0

  abbrev latch_id : ℕ → ℕ
  latch_id j = (latch_at latches j).input

  long : length list ≡ n.inputs + n.latches
  long = all_long inputs n.inputs latches n.latches r.inputs_long

  input_used : (j : ℕ) → j < n.inputs → input_id j < n.rows
  input_used j l = rw (← (input_at inputs n.inputs latches n.latches r.inputs_long j l)) (r.used j (omega (arith, long)))

  latch_used : (j : ℕ) → j < n.latches → latch_id j < n.rows
  latch_used j l = rw (← (latch_at_lem inputs n.inputs latches n.latches r.inputs_long j l)) (r.used (n.inputs + j) (omega (arith, long)))

  abbrev front : List ℕ
  front = take n.inputs inputs

  module _ {one : List ℕ} (numbered_front : one ≡ placed marks (λ (j : ℕ). get_or front j 0) 1 (length front)) where
    p : one ≡ placed marks input_id 1 n.inputs
    p =
        numbered_front ∙ (ap (placed marks (λ (j : ℕ). get_or front j 0) 1) (length-take-le n.inputs inputs r.inputs_long) ∙
        placed_same marks (λ (j : ℕ). get_or front j 0) input_id 1 n.inputs (λ j l. get_or-take n.inputs inputs j 0 l))

    one_long : length one ≡ length marks
    one_long = ap length p ∙ placed_length marks input_id 1 n.inputs

    pub latches_marked : IdsMarked one latch_id (1 + n.inputs) n.latches
    latches_marked = record { marked = λ j l. omega (arith, latch_used j l, r.marks_long, one_long); few = omega (arith, r.few) }

    module _ {two : List ℕ} (q : two ≡ placed one latch_id (1 + n.inputs) n.latches) where
      two_long : length two ≡ length marks
      two_long = ap length q ∙ (placed_length one latch_id (1 + n.inputs) n.latches ∙ one_long)

      -- inputs, then latches: the listed leaves
      both_placed : two ≡ placed marks (λ (j : ℕ). get_or list j 0) 1 (length list)
      both_placed =
          q ∙
          (ap (λ (x : List ℕ). placed x latch_id (1 + n.inputs) n.latches)
          (p ∙ placed_same marks input_id (λ (j : ℕ). get_or list j 0) 1 n.inputs (λ j l. sym (input_at inputs n.inputs latches n.latches r.inputs_long j l))) ∙
          (placed_same (placed marks (λ (j : ℕ). get_or list j 0) 1 n.inputs) latch_id (λ (j : ℕ). get_or list (n.inputs + j) 0) (1 + n.inputs) n.latches
          (λ j l. sym (latch_at_lem inputs n.inputs latches n.latches r.inputs_long j l)) ∙
          (placed_split marks (λ (j : ℕ). get_or list j 0) 1 n.inputs n.latches ∙ ap (placed marks (λ (j : ℕ). get_or list j 0) 1) (sym long))))

      leaves_held : MarksHold n.rows (place_in list) two
      leaves_held x l = rw both_placed (places_hold n.rows marks list r.marks_long r.zeros r.used r.once x l)

      beyond : drop n.rows two ≡ drop n.rows marks
      beyond = rw both_placed (placed_beyond n.rows marks (λ (j : ℕ). get_or list j 0) 1 (length list) r.used)

      pub gates_ready : GatesReady rows n.rows (first_gate n) two
      gates_ready =
          record {
            rows_long = r.rows_long;
            marks_long = omega (arith, r.marks_long, two_long);
            few = r.few;
            used_few = r.rows_few;
            small = numbered_small rows n.rows (first_gate n) (by two) r.few (λ x l. rw (leaves_held x l) (omega (arith, place_bound 1 list x, long, r.few)));
          }

      same_number : (x : ℕ) → x < n.rows → numbered rows (first_gate n) (by two) x ≡ number_of rows inputs latches n x
      unfolding number_of
      same_number x l = numbered_same rows (first_gate n) (by two) (place_in list) x (leaves_held x l)

      -- what is written
      pub rows_written :
          (out three : List ℕ) {first last : List ℕ} → first ≡ leaves_added out (n.inputs + n.latches) → last ≡ gates_added (numbered rows (first_gate n) (by two)) rows (first_gate n) first
          n.rows → MarksHold n.rows (numbered rows (first_gate n) (by two)) three → drop n.rows three ≡ drop n.rows two → (last ≡ rows_of g out) ×
          (MarksHold n.rows (number_of rows inputs latches n) three × (drop n.rows three ≡ drop n.rows marks))
      unfolding rows_of
      rows_written out three {first} a b h d = (
        b ∙
            (gates_same (numbered rows (first_gate n) (by two)) (number_of rows inputs latches n) rows (first_gate n) first n.rows same_number ∙ ap
            (λ (x : List ℕ). gates_added (number_of rows inputs latches n) rows (first_gate n) x n.rows) a),
        ((λ x l. h x l ∙ same_number x l), d ∙ beyond),
      )

-- ---- a well-formed graph
pub rows_ready : (g : Lent) (k : ℕ) → Sized g k → WellFormed g → (marks : List ℕ) → g.counts.rows ≤ length marks → MarksHold g.counts.rows (λ (_ : ℕ). 0) marks
    → RowsReady g marks
rows_ready g k s w marks l z =
    record {
      rows_long = omega (arith, s.rows.fit.within);
      inputs_long = s.inputs.within;
      latches_long = omega (arith, s.latches.within);
      marks_long = l;
      zeros = z;
      few = omega (arith, rows_counted g k s w, s.rows.fit.within, s.rows.fit.limited);
      rows_few = omega (arith, s.rows.fit.within, s.rows.fit.limited);
      used = λ j h. (listed_leaf g k s w j h).0;
      once = w.once;
    }

-- the new numbers are within the limit
pub new_small : (g : Lent) (k : ℕ) → Sized g k → WellFormed g → Small g.counts.rows (new_id g)
unfolding number_of
new_small g k s w =
    let c = rows_counted g k s w in
    let list = leaf_list g.inputs g.counts.inputs g.latches g.counts.latches in
    let few : first_gate g.counts + gates_below g.rows g.counts.rows ≤ max_rows = omega (arith, c, s.rows.fit.within, s.rows.fit.limited) in
    numbered_small g.rows g.counts.rows (first_gate g.counts) (place_in list) few
    (λ x l. omega (arith, place_bound 1 list x, all_long g.inputs g.counts.inputs g.latches g.counts.latches s.inputs.within))

-- ---- the whole graph, by the map that the marks hold
module _ (g out : Lent) (marks : List ℕ) (r : ReencodeReady g out marks) where
  pub to_rows : RowsReady g marks
  to_rows = rows_ready g r.marked r.sized r.well_formed marks r.marks_long r.zeros

  small : Small g.counts.rows (new_id g)
  small = new_small g r.marked r.sized r.well_formed

  module _ (map : List ℕ) (h : MarksHold g.counts.rows (new_id g) map) (same : length map ≡ length marks) where
    long' : g.counts.rows ≤ length map
    long' = omega (arith, same, r.marks_long)

    pub to_inputs : IdsReady map out.inputs 0 g.inputs g.counts.inputs
    to_inputs =
        record {
          room = omega (arith, r.room.inputs);
          has = r.sized.inputs.within;
          known = λ j l. known g.counts.rows (new_id g) map h small long' (get_or g.inputs j 0) (r.well_formed.inputs j l).0;
        }

    pub to_lists : {at : Counts} → at ≡ no_counts → (at.edges < 2 ^ 32) × ListsReady map (lists_of out) at (lists_of g) g.counts
    to_lists e =
        rw e (
          omega arith,
          lists_ready g.counts.rows (new_id g) map h small long' (lists_of out) no_counts (lists_of g) g.counts (lists_used g r.marked r.sized r.well_formed)
              (lists_room out g.counts r.room) (omega arith),
        )

    pub all_written : {at : Counts} → at ≡ no_counts → {a b : List ℕ} {ls : Lists} → a ≡ rows_of g out.rows
        → b ≡ written out.inputs 0 (ids_of (by map) g.inputs) g.counts.inputs → ls ≡ renumber (by map) (lists_of out) at (lists_of g) g.counts
        → graph_of a b ls g.counts ≡ reencoded g out
    unfolding reencoded
    all_written n {a} {b} p q t =
        let q' = q ∙ written_same out.inputs 0 (ids_of (by map) g.inputs) (ids_of (new_id g) g.inputs) g.counts.inputs (λ j l. h (get_or g.inputs j 0) (r.well_formed.inputs j l).0) in
        let t' = t ∙ (ap (λ (x : Counts). renumber (by map) (lists_of out) x (lists_of g) g.counts) n
        ∙ renumber_by g.counts.rows (new_id g) map h (lists_of out) no_counts (lists_of g) g.counts (lists_used g r.marked r.sized r.well_formed)) in
        ap (λ (l : Lists). graph_of a b l g.counts) t' ∙ rw (p, q')
