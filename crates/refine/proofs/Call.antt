-- Laws of the call: what it answers and writes.
-- Assumes nothing.
use Prim.Native.Nat.{ℕ, ◌≤◌}
use native.Mathlib.Omega.{arith}
use mathlib.Core.Path.{◌≡◌, refl, sym, ap, ◌∙◌}
use mathlib.Core.Bool.{Bool, true, false, cond, ◌&&◌}
use mathlib.Core.List.{List, ◌++◌}
use lib.ListN.{length, take, drop, replicate, length-replicate, length-append, length-drop}
use lib.Seq.{take_at, drop_at}
use lib.Dec.{leb}
use borrow.Author.Tests.{leb-true}
use Rattle.std.specs.Prelude.{Result, Ok, Err}
use Rattle.edge.specs.declared.answer.Refusal.{Refusal}
use Rattle.edge.specs.declared.answer.Refusal.TheVariants.{NoRoom}
use Rattle.edge.specs.declared.answer.Given.{Given}
use Rattle.edge.specs.Answers.{done, no_room, refused, told, value_or, or_else}
use Rattle.edge.proofs.Tests.{both}
use Rattle.edge.proofs.Answers.{goes_past, none_of_two, not_done, was_done, was_refused}
use Rattle.graph.specs.declared.Counts.{Counts}
use Rattle.graph.specs.Graph.{Lent}
use Rattle.graph.specs.Check.{cleared, CheckSeen, check_seen}
use Rattle.renumber.specs.Seen.{Rebuilt, listed_seen}
use Rattle.output.specs.Room.{room_in, fits_in, Fits}
use Rattle.output.proofs.Fitting.{limited, fits_known}
use Rattle.output.proofs.Asking.{asked_accepted, asked_cleared}
use Rattle.kept_rows.specs.Kept.{kept_flags, kept_cone}
use Rattle.kept_rows.specs.Keeping.{new_ids, kept_counts}
use Rattle.refine.specs.Steps.{RefineReady, WriteReady}
use Rattle.refine.specs.Refining.{refined_counts, refined, old_rows}
use Rattle.renumber.specs.Steps.{FoundSeen, found_seen}
use Rattle.refine.specs.Call.{refine_asked, refine_room, refine_answer, refine_call}
use Rattle.refine.specs.Steps.{refine_checked}
use Rattle.refine.specs.Meaning.{RefineLent}
use Rattle.refine.proofs.Stepping.{ids_are_kept, kept_ids_long, need_is, same_long, write_ready, cleared_back}

-- ---- answers 1 to 3
asked_clears : (g : Lent) (room : Counts) (marks : List ℕ) → (refine_asked g room marks).given.number ≡ 0 → (refine_asked g room marks).marks ≡ cleared g.counts.rows marks
asked_clears g room marks z = asked_cleared true g room marks (λ (o : (refine_asked g room marks).given.number ≡ 1). absurd (omega arith))

-- ---- the answer
module _ (g : Lent) (room : Counts) (old : ℕ) (marks : List ℕ) where
  abbrev asked : Given
  asked = (refine_asked g room marks).given

  pub answer_goes : asked.number ≡ 0 → refine_answer g room old marks ≡ cond (refine_room g room old) done no_room
  unfolding refine_answer
  answer_goes z = goes_past asked (cond (refine_room g room old) done no_room) z

  room_known : (cond (refine_room g room old) done no_room).number ≡ 0 → Fits room (refined_counts g) × ((refined_counts g).rows ≤ old)
  room_known = go (refine_room g room old) refl
    where
      go : (t : Bool) → refine_room g room old ≡ t → (cond t done no_room).number ≡ 0 → Fits room (refined_counts g) × ((refined_counts g).rows ≤ old)
      go true e z =
          let b = both {a = fits_in room (refined_counts g)} {b = leb (refined_counts g).rows old} e in
          (fits_known room (refined_counts g) b.0, leb-true _ _ b.1)
      go false e z = absurd (omega arith)

-- what is lent is right, and there is room
pub all_right : (g out : Lent) (old marks : List ℕ) → (refine_answer g (room_in out) (length old) marks).number ≡ 0 → RefineLent g out old marks
unfolding refine_answer
all_right g out old marks z =
    let t = none_of_two (refine_asked g (room_in out) marks).given (cond (refine_room g (room_in out) (length old)) done no_room) z in
    let a = asked_accepted true g (room_in out) marks t.0 in
    let r = room_known g (room_in out) (length old) marks t.1 in
    record { limited = limited out a.roomy; sized = a.sized; well_formed = a.well_formed; room = r.0; old_room = r.1 }

-- ---- the check: a is the answer up to 3, and `after` are the marks
module _ (g : Lent) (room : Counts) (old : ℕ) (marks : List ℕ) (a : Result Unit Refusal) {after : List ℕ} (seen : check_seen a after ≡ refine_asked g room marks) where
  given : told a ≡ (refine_asked g room marks).given
  given = ap (λ (s : CheckSeen). s.given) seen

  kept : after ≡ (refine_asked g room marks).marks
  kept = ap (λ (s : CheckSeen). s.marks) seen

  stopped : {f : Refusal} → a ≡ Err f → refine_answer g room old marks ≡ refused f
  unfolding refine_answer or_else
  stopped {f} e = rw (was_refused given e, not_done f) refl

  pub checked_refused : {f : Refusal} → a ≡ Err f → found_seen g.counts (Err f) after ≡ refine_checked g room old marks
  unfolding refine_checked
  checked_refused {f} e = rw (stopped e, not_done f, kept) refl

  module _ (h : a ≡ Ok tt) where
    number : (refine_asked g room marks).given.number ≡ 0
    number = ap (λ (t : Given). t.number) (was_done given h)

    marks_are : after ≡ cleared g.counts.rows marks
    marks_are = kept ∙ asked_clears g room marks number

    part_zero : take g.counts.rows after ≡ replicate g.counts.rows 0
    part_zero = rw marks_are (take_at (replicate g.counts.rows 0) (drop g.counts.rows marks) g.counts.rows (length-replicate g.counts.rows 0))

    part_long : length (take g.counts.rows after) ≡ g.counts.rows
    part_long = ap length part_zero ∙ length-replicate g.counts.rows 0

    rest_kept : drop g.counts.rows after ≡ drop g.counts.rows marks
    rest_kept = rw marks_are (drop_at (replicate g.counts.rows 0) (drop g.counts.rows marks) g.counts.rows (length-replicate g.counts.rows 0))

    -- the marks that are lent on, one for each used row
    pub record Lending : Type 0 where
      pub long : g.counts.rows ≤ length after
      pub part : length (take g.counts.rows after) ≡ g.counts.rows
      pub ready : RefineReady g (take g.counts.rows after)

    pub lending : Lending
    lending =
        let t = asked_accepted true g room marks number in
        let l : length (cleared g.counts.rows marks) ≡ length marks = simp (length-append, length-replicate {A = ℕ} g.counts.rows 0, length-drop) (omega (arith, t.sized.marked)) in
        let s = t.sized in
        record {
          long = omega (arith, ap length marks_are, l, t.sized.marked);
          part = part_long;
          ready = record {
            sized = record {
              rows = s.rows;
              marked = omega (arith, part_long);
              inputs = s.inputs;
              latches = s.latches;
              constraints = s.constraints;
              bads = s.bads;
              outputs = s.outputs;
              ends = s.ends;
              edges = s.edges;
              fairness = s.fairness;
            };
            well_formed = t.well_formed;
            zeros = part_zero;
          };
        }

    -- they hold the new numbers
    module _ {ids : List ℕ} (q : ids ≡ new_ids (kept_cone g)) where
      numbers_are : ids ++ drop g.counts.rows after ≡ new_ids (kept_flags g) ++ drop g.counts.rows marks
      numbers_are = rw (ids_are_kept g (take g.counts.rows after) lending.ready q, rest_kept)

      pub numbers_cover : g.counts.rows ≤ length (ids ++ drop g.counts.rows after)
      numbers_cover = omega (arith, length-append ids (drop g.counts.rows after), kept_ids_long g (take g.counts.rows after) lending.ready q)

      pub numbers_long : length (ids ++ drop g.counts.rows after) ≡ length after
      numbers_long =
          omega (arith, length-append ids (drop g.counts.rows after), kept_ids_long g (take g.counts.rows after) lending.ready q, length-drop g.counts.rows after, lending.long)

      -- `all_fit` is what the tests say
      module _ {need : Counts} (n : need ≡ kept_counts (kept_cone g) g.inputs g.counts) {fits all_fit : Bool} (e : fits ≡ fits_in room need) (p : all_fit ≡ fits && leb need.rows old) where
        counts_are : need ≡ refined_counts g
        counts_are = need_is g (take g.counts.rows after) lending.ready n

        room_is : all_fit ≡ refine_room g room old
        room_is = p ∙ rw (e, counts_are)

        pub no_room_lem :
            all_fit ≡ false → {last : List ℕ} → last ≡ cleared g.counts.rows (ids ++ drop g.counts.rows after) → found_seen g.counts (Err NoRoom) last ≡ refine_checked g room old marks
        unfolding refine_checked
        no_room_lem f c =
            let t = asked_accepted true g room marks number in
            let l = cleared_back g marks t.sized t.well_formed numbers_are c ∙ sym (asked_clears g room marks number) in
            rw (answer_goes g room old marks number, sym room_is ∙ f, l) refl

        pub all_found : all_fit ≡ true → found_seen g.counts (Ok need) (ids ++ drop g.counts.rows after) ≡ refine_checked g room old marks
        unfolding refine_checked
        all_found f = rw (answer_goes g room old marks number, sym room_is ∙ f, counts_are, numbers_are) refl

-- ---- the call: r is what the check found, and `after` are the marks
module _ (g out : Lent) (old marks : List ℕ) (r : Rebuilt) {after : List ℕ} (seen : found_seen g.counts r after ≡ refine_checked g (room_in out) (length old) marks) where
  answer_is : told r ≡ refine_answer g (room_in out) (length old) marks
  unfolding refine_checked
  answer_is = ap (λ (s : FoundSeen). s.given) seen

  module _ {f : Refusal} (e : r ≡ Err f) where
    refusal : refine_answer g (room_in out) (length old) marks ≡ refused f
    refusal = was_refused answer_is e

    marks_asked : after ≡ (refine_asked g (room_in out) marks).marks
    unfolding refine_checked
    marks_asked = ap (λ (s : FoundSeen). s.marks) seen ∙ rw (refusal, not_done f) refl

    pub refine_refused : listed_seen (Err f) out old after ≡ refine_call g out old marks
    unfolding refine_call
    refine_refused = rw (refusal, not_done f, marks_asked) refl

  module _ {n : Counts} (e : r ≡ Ok n) where
    done_is : refine_answer g (room_in out) (length old) marks ≡ done
    done_is = was_done answer_is e

    right : RefineLent g out old marks
    right = all_right g out old marks (ap (λ (t : Given). t.number) done_is)

    pub counts_found : n ≡ refined_counts g
    unfolding refine_checked
    counts_found = sym (ap (λ (q : Rebuilt). value_or g.counts q) e) ∙ (ap (λ (s : FoundSeen). s.counts) seen ∙ rw done_is refl)

    marks_found : after ≡ new_ids (kept_flags g) ++ drop g.counts.rows marks
    unfolding refine_checked
    marks_found = ap (λ (s : FoundSeen). s.marks) seen ∙ rw done_is refl

    pub ready_to_write : WriteReady g out old after
    ready_to_write = write_ready g marks right.sized right.well_formed marks_found out old right.room right.old_room

    pub marks_cover : g.counts.rows ≤ length after
    marks_cover = omega (arith, same_long g marks right.sized right.well_formed marks_found, right.sized.marked)

    pub refine_done : (m : Counts) {new : Lent} {rows-were last : List ℕ} → new ≡ refined g out → rows-were ≡ old_rows g old → last ≡ cleared g.counts.rows after
        → listed_seen (Ok m) new rows-were last ≡ refine_call g out old marks
    unfolding refine_call refine_answer
    refine_done m a b c =
        let z = (none_of_two (refine_asked g (room_in out) marks).given (cond (refine_room g (room_in out) (length old)) done no_room) (ap (λ (t : Given). t.number) done_is)).0 in
        let l = cleared_back g marks right.sized right.well_formed marks_found c ∙ sym (asked_clears g (room_in out) marks z) in
        rw (done_is, a, b, l) refl
