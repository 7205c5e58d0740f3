-- Laws of the call: what it answers and writes.
-- Assumes nothing.
use Prim.Native.Nat.{ℕ, ◌≤◌}
use native.Mathlib.Omega.{arith}
use mathlib.Core.Path.{◌≡◌, refl, sym, ap, ◌∙◌}
use mathlib.Core.Bool.{Bool, true, false, cond}
use mathlib.Core.List.{List, []}
use lib.ListN.{length}
use borrow.Author.Tests.{eqb-false}
use Rattle.std.specs.Prelude.{Ok, Err}
use Rattle.edge.specs.declared.answer.Refusal.{Refusal}
use Rattle.edge.specs.declared.answer.Refusal.TheVariants.{NoRoom}
use Rattle.edge.specs.declared.answer.Given.{Given}
use Rattle.edge.specs.Answers.{done, no_room, refused}
use Rattle.edge.proofs.Answers.{stops_here, goes_past, none_of_two, not_done}
use Rattle.rows.specs.Sizes.{max_entries}
use Rattle.graph.specs.declared.Counts.{Counts}
use Rattle.graph.specs.Graph.{Lent}
use Rattle.graph.specs.Check.{CheckSeen, check_seen}
use Rattle.renumber.specs.Seen.{rebuilt_seen}
use Rattle.output.specs.Room.{room_in, fits_in, Fits, has_room}
use Rattle.output.proofs.Fitting.{limited, fits_known}
use Rattle.output.proofs.Asking.{asked_accepted}
use Rattle.aig_move.specs.Moving.{making, counts_with, moved_counts, moved}
use Rattle.aig_move.specs.Steps.{MakeReady, MoveReady}
use Rattle.renumber.specs.Steps.{FoundSeen, found_seen}
use Rattle.aig_move.specs.Call.{move_asked, move_answer, move_call}
use Rattle.aig_move.specs.Steps.{move_checked}
use Rattle.aig_move.specs.Meaning.{MoveLent}
use Rattle.aig_move.proofs.Copied.{make_ready}

-- ---- the answer
module _ (g : Lent) (room : Counts) (marks : List ℕ) where
  abbrev asked : Given
  asked = (move_asked g room marks).given

  pub answer_stops : (asked.number ≡ 0 → ⊥) → move_answer g room marks ≡ asked
  unfolding move_answer
  answer_stops h = stops_here asked (cond (fits_in room (moved_counts g)) done no_room) h

  pub answer_goes : asked.number ≡ 0 → move_answer g room marks ≡ cond (fits_in room (moved_counts g)) done no_room
  unfolding move_answer
  answer_goes z = goes_past asked (cond (fits_in room (moved_counts g)) done no_room) z

  room_known : (cond (fits_in room (moved_counts g)) done no_room).number ≡ 0 → Fits room (moved_counts g)
  room_known = go (fits_in room (moved_counts g)) refl
    where
      go : (t : Bool) → fits_in room (moved_counts g) ≡ t → (cond t done no_room).number ≡ 0 → Fits room (moved_counts g)
      go true e z = fits_known room (moved_counts g) e
      go false e z = absurd (omega arith)

-- what is lent is right, and there is room
pub all_right : (g out : Lent) (marks : List ℕ) → (move_answer g (room_in out) marks).number ≡ 0 → MoveLent g out marks
unfolding move_answer
all_right g out marks z =
    let t = none_of_two (move_asked g (room_in out) marks).given (cond (has_room out (moved_counts g)) done no_room) z in
    let a = asked_accepted true g (room_in out) marks t.0 in
    record { limited = limited out a.roomy; sized = a.sized; well_formed = a.well_formed; room = room_known g (room_in out) marks t.1 }

-- ---- the check: `after` are the marks behind answers 1 to 3
module _ (g : Lent) (room : Counts) (marks after : List ℕ) where
  pub checked_refused : (f : Refusal) → check_seen (Err f) after ≡ move_asked g room marks → found_seen g.counts (Err f) after ≡ move_checked g room marks
  unfolding move_checked
  checked_refused f seen =
      let given : refused f ≡ (move_asked g room marks).given = ap (λ (s : CheckSeen). s.given) seen in
      let kept : after ≡ (move_asked g room marks).marks = ap (λ (s : CheckSeen). s.marks) seen in
      let stopped : (move_asked g room marks).given.number ≡ 0 → ⊥ = λ z. eqb-false _ _ (not_done f) (ap (λ (t : Given). t.number) given ∙ z) in
      rw (answer_stops g room marks stopped, ← given, ← kept, not_done f) refl

  module _ (seen : check_seen (Ok tt) after ≡ move_asked g room marks) where
    number : (move_asked g room marks).given.number ≡ 0
    number = ap (λ (s : CheckSeen). s.given.number) (sym seen)

    kept : after ≡ (move_asked g room marks).marks
    kept = ap (λ (s : CheckSeen). s.marks) seen

    pub to_make : MakeReady g
    to_make = make_ready g (length marks) (asked_accepted true g room marks number).sized

    pub few_latches : g.counts.latches ≤ max_entries
    few_latches = let s = (asked_accepted true g room marks number).sized.latches in omega (arith, s.within, s.limited)

    -- so many rows are counted, and `fits` says whether the result fits
    module _ {used : ℕ} (p : used ≡ (making g []).used) {need : Counts} (q : need ≡ counts_with g.counts used) {fits : Bool} (e : fits ≡ fits_in room need) where
      need_is : need ≡ moved_counts g
      need_is = q ∙ ap (counts_with g.counts) p

      room_is : fits ≡ fits_in room (moved_counts g)
      room_is = e ∙ ap (fits_in room) need_is

      pub no_room_lem : fits ≡ false → found_seen g.counts (Err NoRoom) after ≡ move_checked g room marks
      unfolding move_checked
      no_room_lem f = rw (answer_goes g room marks number, sym room_is ∙ f, kept)

      pub all_found : fits ≡ true → found_seen g.counts (Ok need) after ≡ move_checked g room marks
      unfolding move_checked
      all_found f = rw (answer_goes g room marks number, sym room_is ∙ f, need_is, kept)

-- ---- the call: `after` are the marks behind the check
module _ (g out : Lent) (marks after : List ℕ) where
  pub move_refused : (f : Refusal) → found_seen g.counts (Err f) after ≡ move_checked g (room_in out) marks → rebuilt_seen (Err f) out after ≡ move_call g out marks
  unfolding move_checked move_call
  move_refused f seen =
      let answer : refused f ≡ move_answer g (room_in out) marks = ap (λ (s : FoundSeen). s.given) seen in
      let kept : after ≡ (move_asked g (room_in out) marks).marks = ap (λ (s : FoundSeen). s.marks) seen in
      rw (← answer, ← kept, not_done f) refl

  module _ (n : Counts) (seen : found_seen g.counts (Ok n) after ≡ move_checked g (room_in out) marks) where
    answer : done ≡ move_answer g (room_in out) marks
    unfolding move_checked
    answer = ap (λ (s : FoundSeen). s.given) seen

    pub counts_found : n ≡ moved_counts g
    unfolding move_checked
    counts_found = ap (λ (s : FoundSeen). s.counts) seen ∙ rw (← answer) refl

    pub ready_to_write : MoveReady g out
    ready_to_write =
        let right = all_right g out marks (ap (λ (t : Given). t.number) (sym answer)) in
        record { marked = length marks; sized = right.sized; room = right.room }

    pub move_done : {new : Lent} → new ≡ moved g out → rebuilt_seen (Ok n) new after ≡ move_call g out marks
    unfolding move_checked move_call
    move_done a =
        let kept : after ≡ (move_asked g (room_in out) marks).marks = ap (λ (s : FoundSeen). s.marks) seen in
        rw (← answer, a, kept) refl
