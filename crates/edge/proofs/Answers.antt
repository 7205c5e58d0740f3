-- Laws of the first refusal.
-- Assumes nothing.
use mathlib.Core.Path.{◌≡◌, refl, sym, ap, ◌∙◌}
use mathlib.Core.Bool.{Bool, true, false, cond}
use lib.Dec.{eqb}
use borrow.Author.Tests.{eq-eqb, ne_eqb, eqb-true, eqb-false}
use Rattle.std.specs.Prelude.{Result, Ok, Err, IsErrAnd}
use Rattle.edge.specs.declared.answer.Given.{Given}
use Rattle.edge.specs.declared.answer.Refusal.{Refusal}
use Rattle.edge.specs.declared.answer.Refusal.TheVariants.{BadSizes, BadRow, BadEntry, BadArgument, NoRoom}
use Rattle.edge.specs.Answers.{done, refused, told, or_else}

-- of two answers
module _ (g h : Given) where
  pub stops_here : (g.number ≡ 0 → ⊥) → or_else g h ≡ g
  unfolding or_else
  stops_here n = rw (ne_eqb g.number 0 n)

  pub goes_past : g.number ≡ 0 → or_else g h ≡ h
  unfolding or_else
  goes_past n = rw (eq-eqb g.number 0 n)

  -- no refusal of the two
  pub none_of_two : (or_else g h).number ≡ 0 → (g.number ≡ 0) × (h.number ≡ 0)
  unfolding or_else
  none_of_two = go (eqb g.number 0) refl
    where
      go : (t : Bool) → eqb g.number 0 ≡ t → (cond t h g).number ≡ 0 → (g.number ≡ 0) × (h.number ≡ 0)
      go true e z = (eqb-true _ _ e, z)
      go false e z = absurd (eqb-false _ _ e z)

-- a refusal is not done
pub not_done : (f : Refusal) → eqb (refused f).number 0 ≡ false
not_done BadSizes = refl
not_done (BadRow i) = refl
not_done (BadEntry l i s) = refl
not_done BadArgument = refl
not_done NoRoom = refl

-- a `?` hands on the refusal that it was given
pub handed_on : {T : Type 0} (r : Result T Refusal) (f : Refusal) → IsErrAnd r (λ e. e ≡ f) → r ≡ Err f
handed_on (Ok x) f h = absurd h
handed_on (Err e) f h = ap Err h

-- what a call's answer tells, where its number and place are given by g
module _ {T : Type 0} {r : Result T Refusal} {g : Given} (p : told r ≡ g) where
  pub was_done : {x : T} → r ≡ Ok x → g ≡ done
  was_done e = sym p ∙ ap (λ (q : Result T Refusal). told q) e

  pub was_refused : {f : Refusal} → r ≡ Err f → g ≡ refused f
  was_refused e = sym p ∙ ap (λ (q : Result T Refusal). told q) e
