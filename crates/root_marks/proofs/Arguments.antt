-- Laws of a list of arguments, and of the answers of a call that takes one.
-- Assumes nothing.
use Prim.Native.Nat.{ℕ, zero, suc, ◌<◌}
use native.Mathlib.Omega.{arith}
use mathlib.Core.Path.{◌≡◌, refl, ap}
use mathlib.Core.Bool.{Bool, true, false, cond, ◌&&◌}
use mathlib.Core.List.{List, [], ◌∷◌}
use lib.ListN.{length, get_or}
use Rattle.std.specs.Prelude.{Result, Ok, Err}
use Rattle.std.specs.List.{list_all}
use Rattle.edge.specs.declared.answer.Refusal.{Refusal}
use Rattle.edge.specs.declared.answer.Refusal.TheVariants.{BadSizes}
use Rattle.edge.specs.Answers.{done, bad_argument, told, or_else}
use Rattle.edge.proofs.Tests.{both, both_true}
use Rattle.edge.proofs.Answers.{none_of_two, goes_past, not_done}
use Rattle.graph.specs.Graph.{Lent, Sized}
use Rattle.graph.specs.Check.{cleared, CheckSeen, check_seen, check_call}
use Rattle.graph.specs.WellFormed.{WellFormed}
use Rattle.graph.specs.Exactly.{Answers}
use Rattle.graph.proofs.WellFormed.{exact}
use Rattle.graph.proofs.Exactly.{argument_answers, check_answers, names_refused, own_answers}
use Rattle.root_marks.specs.Arguments.{every, args_call}

-- ---- every entry of a list
-- the library asks the same of a list
pub every_all : (good : ℕ → Bool) (xs : List ℕ) → list_all good xs ≡ every good xs
unfolding every
every_all good [] = refl
every_all good (x ∷ xs) = ap (λ (b : Bool). good x && b) (every_all good xs)

-- each entry by its place
pub every_at : (good : ℕ → Bool) (xs : List ℕ) → every good xs ≡ true → (k : ℕ) → k < length xs → good (get_or xs k 0) ≡ true
unfolding every
every_at good [] h k l = absurd (omega arith)
every_at good (x ∷ xs) h zero l = (both {a = good x} {b = every good xs} h).0
every_at good (x ∷ xs) h (suc k) l = every_at good xs (both {a = good x} {b = every good xs} h).1 k (omega arith)

pub at_every : (good : ℕ → Bool) (xs : List ℕ) → ((k : ℕ) → k < length xs → good (get_or xs k 0) ≡ true) → every good xs ≡ true
unfolding every
at_every good [] all = refl
at_every good (x ∷ xs) all = both_true {a = good x} (all 0 (omega arith)) (at_every good xs (λ k l. all (suc k) (omega arith)))

-- ---- the answers
-- what is lent is right, and the arguments are good
pub record Accepted (room good : Bool) (g : Lent) (marks : ℕ) : Type 0 where
  pub roomy : room ≡ true
  pub all_good : good ≡ true
  pub sized : Sized g marks
  pub well_formed : WellFormed g

module _ (room good : Bool) (g : Lent) (marks : List ℕ) where
  pub args_room : room ≡ false → check_seen (Err BadSizes) marks ≡ args_call room good g marks
  unfolding args_call
  args_room e = rw e

  pub args_accepted : (args_call room good g marks).given.number ≡ 0 → Accepted room good g (length marks)
  unfolding args_call
  args_accepted = go room good refl refl
    where
      go :
          (r d : Bool) → room ≡ r → good ≡ d →
          (cond {A = CheckSeen} r (record { given = or_else (check_call g marks).given (cond d done bad_argument); marks = (check_call g marks).marks })
          (check_seen (Err BadSizes) marks)).given.number ≡ 0 → Accepted room good g (length marks)
      go true true e f z =
          let t = (exact g marks).accepted (none_of_two (check_call g marks).given done z).0 in
          record { roomy = e; all_good = f; sized = t.0; well_formed = t.1 }
      go true false e f z = absurd (omega (arith, (none_of_two (check_call g marks).given bad_argument z).1))
      go false d e f z = absurd (omega arith)

  pub args_accepts : Accepted room good g (length marks) → (args_call room good g marks).given ≡ done
  unfolding args_call
  args_accepts a =
      let t = (exact g marks).accepts a.sized a.well_formed in
      rw (a.roomy, a.all_good, t) (goes_past done done refl)

  -- past 1 the call's own slices are right
  pub args_roomy : ((args_call room good g marks).given.number ≡ 1 → ⊥) → room ≡ true
  unfolding args_call
  args_roomy = go room refl
    where
      go :
          (r : Bool) → room ≡ r →
          ((cond {A = CheckSeen} r (record { given = or_else (check_call g marks).given (cond good done bad_argument); marks = (check_call g marks).marks })
          (check_seen (Err BadSizes) marks)).given.number ≡ 1 → ⊥) → room ≡ true
      go true e h = e
      go false e h = absurd (h refl)

  -- ---- each answer exactly in its case, and the marks
  pub args_answers : Answers room good true g marks (args_call room good g marks).given (args_call room good g marks).marks
  unfolding args_call
  args_answers =
      own_answers room g marks (record { given = or_else (check_call g marks).given (cond good done bad_argument); marks = (check_call g marks).marks })
      (argument_answers (names_refused g) good (check_answers g marks))

  pub args_untouched : (args_call room good g marks).given.number ≡ 1 → (args_call room good g marks).marks ≡ marks
  args_untouched = args_answers.untouched

  pub args_cleared : ((args_call room good g marks).given.number ≡ 1 → ⊥) → (args_call room good g marks).marks ≡ cleared g.counts.rows marks
  args_cleared = args_answers.zeroed

  -- ---- the graph's check is made, and then the arguments are looked at
  module _ (e : room ≡ true) (a : Result Unit Refusal) (after : List ℕ) (seen : check_seen a after ≡ check_call g marks) where
    given : told a ≡ (check_call g marks).given
    given = ap (λ (s : CheckSeen). s.given) seen

    kept : after ≡ (check_call g marks).marks
    kept = ap (λ (s : CheckSeen). s.marks) seen

    pub args_refused : (f : Refusal) → a ≡ Err f → check_seen (Err f) after ≡ args_call room good g marks
    unfolding args_call or_else
    args_refused f is = rw (e, ← given, ← kept, is, not_done f) refl

    pub args_done : a ≡ Ok tt → (r : Result Unit Refusal) → told r ≡ cond good done bad_argument → check_seen r after ≡ args_call room good g marks
    unfolding args_call or_else
    args_done is r t = rw (e, ← given, ← kept, is, ← t) refl
