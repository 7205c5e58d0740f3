-- `coi_refine` is right.
-- Assumes nothing.
use Prim.Native.Nat.{ℕ}
use mathlib.Core.Path.{◌≡◌, refl, ap, ◌∙◌}
use mathlib.Core.Bool.{true}
use mathlib.Core.List.{List}
use lib.ListN.{length}
use borrow.Author.Tests.{eq-eqb, ne_eqb, le-leb}
use Rattle.edge.specs.declared.answer.Given.{Given}
use Rattle.edge.specs.Answers.{done}
use Rattle.edge.proofs.Tests.{both_true}
use Rattle.graph.specs.Graph.{Lent}
use Rattle.graph.proofs.Exactly.{names_refused, room_answers}
use Rattle.root_marks.proofs.Arguments.{args_answers}
use Rattle.output.specs.Room.{room_in, limits, has_room}
use Rattle.output.specs.Asking.{asked_in}
use Rattle.output.proofs.Fitting.{limits_true, room_true}
use Rattle.output.proofs.Asking.{asked_accepts}
use Rattle.refine.specs.Refining.{refined_counts, refined, old_rows}
use Rattle.refine.specs.Call.{refine_asked, refine_room, refine_answer, refine_call}
use Rattle.refine.specs.Meaning.{Refined, RefineLent, RefineRight}
use Rattle.refine.proofs.Call.{answer_goes, all_right}
use Rattle.refine.proofs.Forming.{is_refined}

module _ (g out : Lent) (old marks : List ℕ) where
  abbrev answer : ℕ
  answer = (refine_answer g (room_in out) (length old) marks).number

  abbrev asked : Given
  asked = (refine_asked g (room_in out) marks).given

  -- the call's answer
  answer_is : (refine_call g out old marks).given.number ≡ answer
  unfolding refine_call
  answer_is = refl

  accepts : RefineLent g out old marks → answer ≡ 0
  accepts l =
      let a : asked ≡ done = asked_accepts true g (room_in out) marks (record { roomy = limits_true out l.limited; all_good = refl; sized = l.sized; well_formed = l.well_formed }) in
      let r : refine_room g (room_in out) (length old) ≡ true = both_true {a = has_room out (refined_counts g)} (room_true out (refined_counts g) l.room)
      (le-leb (refined_counts g).rows (length old) l.old_room) in
      let n : asked.number ≡ 0 = ap (λ (t : Given). t.number) a in
      ap (λ (t : Given). t.number) (answer_goes g (room_in out) (length old) marks n) ∙ rw r

  graph_done : answer ≡ 0 → (refine_call g out old marks).graph ≡ refined g out
  unfolding refine_call
  graph_done z = rw (eq-eqb answer 0 z)

  old_done : answer ≡ 0 → (refine_call g out old marks).old ≡ old_rows g old
  unfolding refine_call
  old_done z = rw (eq-eqb answer 0 z)

  refines : answer ≡ 0 → Refined g (refine_call g out old marks).graph (refine_call g out old marks).old
  refines z =
      let l = all_right g out old marks z in
      rw (graph_done z, old_done z) (is_refined g out (length marks) l.sized l.well_formed l.room l.limited old l.old_room)

  refused : (answer ≡ 0 → ⊥) → ((refine_call g out old marks).graph ≡ out) × ((refine_call g out old marks).old ≡ old)
  unfolding refine_call
  refused h = let f = ne_eqb answer 0 h in (rw f, rw f)

  pub refine_right : RefineRight g out old marks
  refine_right =
      record {
        accepts = λ l. answer_is ∙ accepts l;
        accepted = λ z. unfold refine_call in all_right g out old marks z;
        refines = λ z. unfold refine_call in refines z;
        refused = λ h. unfold refine_call in refused h;
        answers = unfold refine_call refine_answer asked_in in room_answers (names_refused g) (refine_room g (room_in out) (length old)) (args_answers (limits out) true g marks);
      }
