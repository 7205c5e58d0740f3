-- How words are written to a list.
-- Assumes nothing.
use Rattle.std.specs.Prelude.{ℕ, zero, suc, ◌+◌, List, get_or, set}

-- the words f 0, f 1, .. f (n - 1) written from place `at` on
unfoldable pub written : List ℕ → ℕ → (ℕ → ℕ) → ℕ → List ℕ
written list at f zero = list
written list at f (suc n) = set (written list at f n) (at + n) (f n)

-- what `of` makes of word j of a list
abbrev pub each_of : (ℕ → ℕ) → List ℕ → ℕ → ℕ
each_of of list j = of (get_or list j 0)
