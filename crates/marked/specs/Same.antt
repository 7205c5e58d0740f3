-- Whether two lists of words are the same.
-- Assumes nothing.
use Rattle.std.specs.Prelude.{ℕ, ◌≡◌, Bool, true, false, ◌&&◌, List, [], ◌∷◌, eqb}
use Rattle.edge.specs.Answers.{determined}

-- word by word, and as many
unfoldable pub same_words : List ℕ → List ℕ → Bool
same_words [] [] = true
same_words [] (y ∷ b) = false
same_words (x ∷ a) [] = false
same_words (x ∷ a) (y ∷ b) = eqb x y && same_words a b

-- true if they are equal, and only then
abbrev pub Tells : Bool → List ℕ → List ℕ → Type 0
Tells r a b = (r ≡ true → a ≡ b) × (a ≡ b → r ≡ true)

-- any two results that the promise of `same` allows are equal
pub same_determined : (a b : List ℕ) (r s : Bool) → r ≡ same_words a b → s ≡ same_words a b → r ≡ s
same_determined a b = determined (λ (t : Bool). t) (same_words a b)
