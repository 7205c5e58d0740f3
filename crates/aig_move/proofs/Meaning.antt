-- `aig_move` is right.
-- Assumes nothing.
use Prim.Native.Nat.{ℕ}
use mathlib.Core.Path.{◌≡◌, refl, ap, ◌∙◌}
use mathlib.Core.Bool.{Bool, true, false, cond}
use mathlib.Core.List.{List}
use lib.ListN.{length}
use lib.Dec.{eqb}
use borrow.Author.Tests.{eq-eqb, ne_eqb}
use Rattle.edge.specs.declared.answer.Given.{Given}
use Rattle.edge.specs.Answers.{done}
use Rattle.graph.specs.Graph.{Lent}
use Rattle.graph.proofs.Exactly.{names_refused, room_answers}
use Rattle.root_marks.proofs.Arguments.{args_answers}
use Rattle.output.specs.Writing.{written}
use Rattle.output.specs.Room.{room_in, limits, has_room}
use Rattle.output.proofs.Fitting.{limits_true, room_true}
use Rattle.output.specs.Copying.{copied, copy_of}
use Rattle.output.specs.Asking.{asked_in}
use Rattle.output.proofs.Asking.{asked_accepts}
use Rattle.aig_move.specs.Moving.{moved_counts, finished, moved}
use Rattle.aig_move.specs.Call.{move_asked, move_answer, move_call}
use Rattle.aig_move.specs.Meaning.{MoveLent, Moved, MoveRight}
use Rattle.aig_move.proofs.Call.{answer_goes, all_right}
use Rattle.aig_move.proofs.Result.{is_moved}

module _ (g out : Lent) (marks : List ℕ) where
  abbrev asked : Given
  asked = (move_asked g (room_in out) marks).given

  abbrev answer : ℕ
  answer = (move_answer g (room_in out) marks).number

  accepts : MoveLent g out marks → answer ≡ 0
  accepts l =
      let a : asked ≡ done = asked_accepts true g (room_in out) marks (record { roomy = limits_true out l.limited; all_good = refl; sized = l.sized; well_formed = l.well_formed }) in
      let n : asked.number ≡ 0 = ap (λ (t : Given). t.number) a in
      ap (λ (t : Given). t.number) (answer_goes g (room_in out) marks n) ∙ rw (room_true out (moved_counts g) l.room)

  graph_done : answer ≡ 0 → (move_call g out marks).graph ≡ moved g out
  unfolding move_call
  graph_done z = rw (eq-eqb answer 0 z)

  moves : answer ≡ 0 → Moved g (move_call g out marks).graph
  moves z =
      let l = all_right g out marks z in
      rw (graph_done z) (is_moved g out (length marks) l.sized l.well_formed l.room l.limited)

  refused : (answer ≡ 0 → ⊥) → (move_call g out marks).graph ≡ out
  unfolding move_call
  refused h = rw (ne_eqb answer 0 h)

  constraints_stay : (move_call g out marks).graph.constraints ≡ out.constraints
  unfolding move_call moved finished copy_of copied written
  constraints_stay = go (eqb answer 0)
    where
      go : (t : Bool) → (cond t (moved g out) out).constraints ≡ out.constraints
      go true = refl
      go false = refl

  pub aig_move_right : MoveRight g out marks
  aig_move_right =
      record {
        accepts = λ l. unfold move_call in accepts l;
        accepted = λ z. unfold move_call in all_right g out marks z;
        moves = λ z. unfold move_call in moves z;
        refused = λ h. unfold move_call in refused h;
        constraints_stay = constraints_stay;
        answers = unfold move_call move_answer asked_in in room_answers (names_refused g) (has_room out (moved_counts g)) (args_answers (limits out) true g marks);
      }
