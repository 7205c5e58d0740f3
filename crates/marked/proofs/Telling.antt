-- What `same_words` tells: whether two lists are equal; and nothing else tells it.
-- Assumes nothing.
use Prim.Native.Nat.{ℕ, suc}
use native.Mathlib.Omega.{arith}
use mathlib.Core.Path.{◌≡◌, refl, sym, ap, ◌∙◌}
use mathlib.Core.Bool.{Bool, true, false, ◌&&◌}
use mathlib.Core.List.{List, [], ◌∷◌}
use lib.ListN.{length, get_or}
use lib.Dec.{eqb}
use borrow.Author.Tests.{eqb-true, eqb-false}
use Rattle.marked.specs.Same.{same_words, Tells}

pub never : {X : Type 0} → ◌≡◌ false true → X
never e = absurd (let z : ◌≡◌ {A = ℕ} 0 1 = cc in omega arith)

none_no_word : {X : Type 0} (n : ℕ) → 0 ≡ suc n → X
none_no_word n e = absurd (omega arith)

abbrev rest : List ℕ → List ℕ
rest [] = []
rest (x ∷ a) = a

tells_word : (t : Bool) (x y : ℕ) (a b : List ℕ) → eqb x y ≡ t → Tells (same_words a b) a b → Tells (t && same_words a b) (x ∷ a) (y ∷ b)
tells_word true x y a b e h =
    ((λ s. ap (λ (n : ℕ). n ∷ a) (eqb-true x y e) ∙ ap (λ (l : List ℕ). y ∷ l) (h.0 s)), (λ q. h.1 (ap rest q)))
tells_word false x y a b e h = ((λ s. never s), (λ q. absurd (eqb-false x y e (ap (λ (l : List ℕ). get_or l 0 0) q))))

pub same_tells : (a b : List ℕ) → Tells (same_words a b) a b
unfolding same_words
same_tells [] [] = ((λ s. refl), (λ q. refl))
same_tells [] (y ∷ b) = ((λ s. never s), (λ q. none_no_word (length b) (ap length q)))
same_tells (x ∷ a) [] = ((λ s. never s), (λ q. none_no_word (length a) (sym (ap length q))))
same_tells (x ∷ a) (y ∷ b) = tells_word (eqb x y) x y a b refl (same_tells a b)
