-- Laws of the answer, before anything is written.
-- Assumes nothing.
use Prim.Native.Nat.{ℕ}
use native.Mathlib.Omega.{arith}
use mathlib.Core.Path.{◌≡◌, refl, sym, ap, ◌∙◌}
use mathlib.Core.Bool.{Bool, true, false, cond}
use mathlib.Core.List.{List}
use lib.ListN.{length}
use borrow.Author.Tests.{eqb-false}
use Rattle.std.specs.Prelude.{Ok, Err}
use Rattle.edge.specs.declared.answer.Refusal.{Refusal}
use Rattle.edge.specs.declared.answer.Refusal.TheVariants.{BadSizes, NoRoom}
use Rattle.edge.specs.declared.answer.Given.{Given}
use Rattle.edge.specs.Answers.{done, bad_sizes, no_room, refused, or_else}
use Rattle.edge.proofs.Answers.{stops_here, goes_past, none_of_two, not_done}
use Rattle.graph.specs.Graph.{Lent, Sized}
use Rattle.graph.specs.Check.{CheckSeen, check_seen, check_call}
use Rattle.graph.specs.WellFormed.{WellFormed}
use Rattle.graph.specs.Exactly.{Answers}
use Rattle.graph.proofs.WellFormed.{exact}
use Rattle.graph.proofs.Exactly.{room_answers, check_answers, names_refused, own_answers}
use Rattle.property.specs.Checking.{change_checked}

-- what is known where nothing is refused
pub record Accepted (limits room : Bool) (g : Lent) (marks : ℕ) : Type 0 where
  pub limited : limits ≡ true
  pub sized : Sized g marks
  pub well_formed : WellFormed g
  pub has_room : room ≡ true

module _ (limits room : Bool) (g : Lent) (marks : List ℕ) where
  abbrev last : Given
  last = cond room done no_room

  -- each answer exactly in its case, and the marks
  pub change_answers : Answers limits true room g marks (change_checked limits room g marks).given (change_checked limits room g marks).marks
  unfolding change_checked
  change_answers =
      own_answers limits g marks (record { given = or_else (check_call g marks).given last; marks = (check_call g marks).marks }) (room_answers (names_refused g) room (check_answers g marks))

  pub change_accepted : (change_checked limits room g marks).given.number ≡ 0 → Accepted limits room g (length marks)
  unfolding change_checked
  change_accepted = go limits refl
    where
      fits : (r : Bool) → (cond r done no_room).number ≡ 0 → r ≡ true
      fits true z = refl
      fits false z = absurd (omega arith)

      go : (l : Bool) → limits ≡ l
          → (cond {A = CheckSeen} l (record { given = or_else (check_call g marks).given last; marks = (check_call g marks).marks }) (record { given = bad_sizes; marks = marks })).given.number ≡ 0
          → Accepted limits room g (length marks)
      go true e z =
          let t = none_of_two (check_call g marks).given last z in
          let s = (exact g marks).accepted t.0 in
          record { limited = e; sized = s.0; well_formed = s.1; has_room = fits room t.1 }
      go false e z = absurd (omega arith)

  pub change_accepts : Accepted limits room g (length marks) → (change_checked limits room g marks).given ≡ done
  unfolding change_checked
  change_accepts a = rw (a.limited, (exact g marks).accepts a.sized a.well_formed, a.has_room) (goes_past done done refl)

  pub limit_passed : limits ≡ false → check_seen (Err BadSizes) marks ≡ change_checked limits room g marks
  unfolding change_checked
  limit_passed e = rw e

  -- `after` are the marks behind the check of the graph
  module _ (within : limits ≡ true) (after : List ℕ) where
    pub check_stops : (f : Refusal) → check_seen (Err f) after ≡ check_call g marks → check_seen (Err f) after ≡ change_checked limits room g marks
    unfolding change_checked
    check_stops f seen =
        let given : refused f ≡ (check_call g marks).given = ap (λ (s : CheckSeen). s.given) seen in
        let kept : after ≡ (check_call g marks).marks = ap (λ (s : CheckSeen). s.marks) seen in
        let stopped : (check_call g marks).given.number ≡ 0 → ⊥ = λ z. eqb-false _ _ (not_done f) (ap (λ (t : Given). t.number) given ∙ z) in
        rw (within, stops_here (check_call g marks).given last stopped, ← given, ← kept) refl

    module _ (seen : check_seen (Ok tt) after ≡ check_call g marks) where
      passed : (check_call g marks).given.number ≡ 0
      passed = ap (λ (s : CheckSeen). s.given.number) (sym seen)

      kept : after ≡ (check_call g marks).marks
      kept = ap (λ (s : CheckSeen). s.marks) seen

      pub check_right : Sized g (length marks) × WellFormed g
      check_right = (exact g marks).accepted passed

      pub check_room : room ≡ true → check_seen (Ok tt) after ≡ change_checked limits room g marks
      unfolding change_checked
      check_room e = rw (within, goes_past (check_call g marks).given last passed, e, kept) refl

      pub check_full : room ≡ false → check_seen (Err NoRoom) after ≡ change_checked limits room g marks
      unfolding change_checked
      check_full e = rw (within, goes_past (check_call g marks).given last passed, e, kept) refl
