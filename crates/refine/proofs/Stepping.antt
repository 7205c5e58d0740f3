-- Laws of the steps: what they need, and what they give.
-- Assumes nothing.
use Prim.Native.Nat.{ℕ, ◌≤◌, ◌<◌}
use native.Mathlib.Omega.{arith}
use native.Mathlib.Nat.{le_of_eq}
use mathlib.Core.Path.{◌≡◌, refl, sym, ap, subst, ◌∙◌}
use mathlib.Core.List.{List, ◌++◌}
use lib.ListN.{length, get_or, take, drop, replicate, length-replicate, length-append, length-drop, get_or-append}
use lib.Seq.{drop_at}
use Rattle.std.specs.Prelude.{All}
use Rattle.std.proofs.lemmas.List.{get_or_default, get_or-take, length-take-le}
use Rattle.rows.specs.Sizes.{max_rows}
use Rattle.graph.specs.declared.Counts.{Counts}
use Rattle.graph.specs.Graph.{Lent, Sized, no_counts}
use Rattle.graph.specs.Check.{cleared}
use Rattle.graph.specs.WellFormed.{WellFormed}
use Rattle.root_marks.specs.Flags.{Flagged}
use Rattle.root_marks.proofs.Roots.{roots_known}
use Rattle.coi.specs.Meaning.Reached.{always}
use Rattle.graph.specs.Count.{count_below}
use Rattle.renumber.specs.Renumber.{ids_of, Lists, lists_of, renumber, graph_of, by}
use Rattle.renumber.specs.Steps.{ListsReady}
use Rattle.renumber.specs.Steps.{MarksHold, Small}
use Rattle.output.specs.Room.{Room}
use Rattle.graph.proofs.Counting.{count_same}
use Rattle.renumber.proofs.Mapping.{lists_used, lists_room, renumber_by, known, lists_ready}
use Rattle.kept_rows.specs.Kept.{kept_flags, kept_cone}
use Rattle.kept_rows.specs.Keeping.{word_put, kept_row, kept_id, new_ids, numbered, kept_input, with_kept, kept_counts}
use Rattle.kept_rows.specs.Copying.{row_put, rows_kept, inputs_kept, old_kept}
use Rattle.kept_rows.specs.Steps.{FlagsReady, IdsThere, RowsReady, KeptReady}
use Rattle.refine.specs.Steps.{RefineReady, WriteReady}
use Rattle.refine.specs.Refining.{refined_counts, refined, old_rows}
use Rattle.kept_rows.proofs.Copying.{kept_same, row_put_same, inputs_front, count_front}
use Rattle.kept_rows.proofs.Numbering.{numbered_kept, ids_hold, ids_long, ids_small, inputs_kept_lem}
use Rattle.kept_rows.proofs.Reaching.{kept_coi, kept_is}

-- ---- the inputs of a well-formed graph are used rows
inputs_within : (g : Lent) (marks : ℕ) → Sized g marks → WellFormed g → {n : ℕ} → g.counts.rows ≤ n → All (λ (x : ℕ). x < n) (take g.counts.inputs g.inputs)
inputs_within g marks s w h j d l =
    let m : j < g.counts.inputs = omega (arith, length-take-le g.counts.inputs g.inputs s.inputs.within) in
    rw (get_or_default (take g.counts.inputs g.inputs) j d 0 l, get_or-take g.counts.inputs g.inputs j 0 m) (omega (arith, (w.inputs j m).0))

-- ---- a well-formed graph, whose marks are 0
module _ (g : Lent) (marks : List ℕ) (r : RefineReady g marks) where
  pub flags_ready : FlagsReady g marks
  flags_ready =
      record {
        some = r.sized.rows.some;
        small = omega (arith, r.sized.rows.fit.within, r.sized.rows.fit.limited);
        rows_long = omega (arith, r.sized.rows.fit.within);
        zeros = r.zeros;
        roots = roots_known g (length marks) r.sized r.well_formed;
        inputs_used = record { has = omega (arith, r.sized.latches.within); used = λ i l. (r.well_formed.latches i l).0 };
      }

  zeros_long : length marks ≡ g.counts.rows
  zeros_long = ap length r.zeros ∙ length-replicate g.counts.rows 0

  pub inputs_there : IdsThere marks g.inputs g.counts.inputs
  inputs_there = record { has = r.sized.inputs.within; there = inputs_within g (length marks) r.sized r.well_formed (le_of_eq (sym zeros_long)) }

  cone_is : kept_cone g ≡ kept_flags g
  cone_is = kept_is g (length marks) r.sized r.well_formed marks flags_ready

  -- the marks, once they hold the numbers
  module _ {ids : List ℕ} (q : ids ≡ new_ids (kept_cone g)) where
    pub ids_are_kept : ids ≡ new_ids (kept_flags g)
    ids_are_kept = q ∙ ap new_ids cone_is

    kept_long : length (kept_flags g) ≡ g.counts.rows
    kept_long = (kept_coi g (length marks) r.sized r.well_formed).one_each.long

    kept_first : Flagged (kept_flags g) 0
    kept_first = (kept_coi g (length marks) r.sized r.well_formed).reached 0 always

    pub kept_ids_long : length ids ≡ g.counts.rows
    kept_ids_long = ap length ids_are_kept ∙ (ids_long (kept_flags g) kept_first ∙ kept_long)

  module _ {need : Counts} (e : need ≡ kept_counts (kept_cone g) g.inputs g.counts) where
    pub need_is : need ≡ refined_counts g
    need_is = e ∙ ap (λ (f : List ℕ). kept_counts f g.inputs g.counts) cone_is

-- ---- marks that hold the numbers of a well-formed graph's kept rows
module _ (g : Lent) (marks : List ℕ) (s : Sized g (length marks)) (w : WellFormed g) {after : List ℕ} (e : after ≡ new_ids (kept_flags g) ++ drop g.counts.rows marks) where
  first_kept : Flagged (kept_flags g) 0
  first_kept = (kept_coi g (length marks) s w).reached 0 always

  flags_long : length (kept_flags g) ≡ g.counts.rows
  flags_long = (kept_coi g (length marks) s w).one_each.long

  numbers_long : length (new_ids (kept_flags g)) ≡ g.counts.rows
  numbers_long = ids_long (kept_flags g) first_kept ∙ flags_long

  pub same_long : length after ≡ length marks
  same_long = ap length e ∙ (length-append (new_ids (kept_flags g)) (drop g.counts.rows marks) ∙ omega (arith, numbers_long, length-drop g.counts.rows marks, s.marked))

  hold : MarksHold g.counts.rows (kept_id (kept_flags g)) after
  hold i l =
      ap (λ (x : List ℕ). get_or x i 0) e
      ∙ (get_or-append (new_ids (kept_flags g)) (drop g.counts.rows marks) 0 i (omega (arith, numbers_long)) ∙ ids_hold (kept_flags g) first_kept i (omega (arith, flags_long)))

  pub write_ready : (out : Lent) (old : List ℕ) → Room out (refined_counts g) → (refined_counts g).rows ≤ length old → WriteReady g out old after
  write_ready out old a b = record { sized = subst (Sized g) (sym same_long) s; well_formed = w; room = a; old_room = b; holds = hold }

  -- cleared, they are as `check` left them
  pub cleared_back : {last : List ℕ} → last ≡ cleared g.counts.rows after → last ≡ cleared g.counts.rows marks
  cleared_back p =
      p ∙ ap (λ (x : List ℕ). replicate g.counts.rows 0 ++ x)
      (ap (drop g.counts.rows) e ∙ drop_at (new_ids (kept_flags g)) (drop g.counts.rows marks) g.counts.rows numbers_long)

-- ---- no answer is left
module _ (g out : Lent) (old map : List ℕ) (r : WriteReady g out old map) where
  abbrev used : ℕ
  used = g.counts.rows

  abbrev flags : List ℕ
  flags = kept_flags g

  zero_kept : Flagged flags 0
  zero_kept = (kept_coi g (length map) r.sized r.well_formed).reached 0 always

  small_rows : used ≤ max_rows
  small_rows = omega (arith, r.sized.rows.fit.within, r.sized.rows.fit.limited)

  small : Small used (kept_id flags)
  small = ids_small flags zero_kept used small_rows

  same_kept : (i : ℕ) → i < used → numbered map i ≡ kept_row flags i
  same_kept = numbered_kept flags zero_kept map used r.holds

  same_count : count_below (numbered map) used ≡ count_below (kept_row flags) used
  same_count = count_same (numbered map) (kept_row flags) used same_kept

  pub rows_ready : RowsReady g.rows used out.rows old map
  unfolding with_kept
  rows_ready =
      record {
        long = omega (arith, r.sized.rows.fit.within);
        small = small_rows;
        known = known used (kept_id flags) map r.holds small r.sized.marked;
        room = omega (arith, same_count, r.room.rows);
        old_room = omega (arith, same_count, r.old_room);
      }

  input_used : (j : ℕ) → j < g.counts.inputs → get_or g.inputs j 0 < used
  input_used j l = (r.well_formed.inputs j l).0

  pub inputs_ready : KeptReady map (take g.counts.inputs g.inputs) out.inputs
  unfolding with_kept
  inputs_ready =
      record {
        there = inputs_within g (length map) r.sized r.well_formed r.sized.marked;
        room = omega (
          arith,
          count_front (numbered map) g.inputs g.counts.inputs r.sized.inputs.within,
          inputs_kept_lem flags zero_kept map used r.holds g.inputs g.counts.inputs input_used,
          r.room.inputs,
        );
      }

  pub all_ready : ListsReady map (lists_of out) no_counts (lists_of g) g.counts
  unfolding with_kept
  all_ready =
      lists_ready used (kept_id flags) map r.holds small r.sized.marked (lists_of out) no_counts (lists_of g) g.counts (lists_used g (length map) r.sized r.well_formed)
      (let t = lists_room out (refined_counts g) r.room in record
      { latches = t.latches; constraints = t.constraints; bads = t.bads; outputs = t.outputs; ends = t.ends; edges = t.edges; fairness = t.fairness }) (omega arith)

  pub old_done : {a : List ℕ} → a ≡ old_kept (numbered map) old used → a ≡ old_rows g old
  unfolding old_rows
  old_done e = e ∙ kept_same (numbered map) (kept_row flags) (word_put (λ (i : ℕ). i)) (word_put (λ (i : ℕ). i)) old used same_kept (λ l k i m. refl)

  rows_done : rows_kept (numbered map) (by map) g.rows out.rows used ≡ rows_kept (kept_row flags) (kept_id flags) g.rows out.rows used
  rows_done =
      kept_same (numbered map) (kept_row flags) (row_put (by map) g.rows) (row_put (kept_id flags) g.rows) out.rows used same_kept
      (λ l k i m. row_put_same (by map) (kept_id flags) g.rows i (λ j b. r.holds j (omega arith)) l k)

  abbrev inputs : List ℕ
  inputs = take g.counts.inputs g.inputs

  inputs_done : inputs_kept (numbered map) (by map) inputs out.inputs (length inputs) ≡ inputs_kept (kept_row flags) (kept_id flags) g.inputs out.inputs g.counts.inputs
  inputs_done =
      inputs_front (numbered map) (by map) g.inputs out.inputs g.counts.inputs r.sized.inputs.within ∙
      kept_same (kept_input (numbered map) g.inputs) (kept_input (kept_row flags) g.inputs) (word_put (ids_of (by map) g.inputs)) (word_put (ids_of (kept_id flags) g.inputs))
      out.inputs g.counts.inputs (λ j l. same_kept (get_or g.inputs j 0) (input_used j l))
      (λ l k j m. ap (λ (x : ℕ). word_put (λ (_ : ℕ). x) l k j) (r.holds (get_or g.inputs j 0) (input_used j m)))

  pub write_done : {a b : List ℕ} {l : Lists}
      → a ≡ rows_kept (numbered map) (by map) g.rows out.rows used → b ≡ inputs_kept (numbered map) (by map) inputs out.inputs (length inputs)
      → l ≡ renumber (by map) (lists_of out) no_counts (lists_of g) g.counts → graph_of a b l (refined_counts g) ≡ refined g out
  unfolding refined
  write_done {a} {b} {l} p q s =
      let p' = p ∙ rows_done in
      let q' = q ∙ inputs_done in
      let s' = s ∙ renumber_by used (kept_id flags) map r.holds (lists_of out) no_counts (lists_of g) g.counts (lists_used g (length map) r.sized r.well_formed) in
      ap (λ (x : List ℕ). graph_of x b l (refined_counts g)) p' ∙
      (ap (λ (x : List ℕ). graph_of (rows_kept (kept_row flags) (kept_id flags) g.rows out.rows used) x l (refined_counts g)) q' ∙ ap
      (λ (x : Lists). graph_of (rows_kept (kept_row flags) (kept_id flags) g.rows out.rows used) (inputs_kept (kept_row flags) (kept_id flags) g.inputs out.inputs g.counts.inputs) x
      (refined_counts g)) s')
