-- Reading clauses back from the words of a buffer: "a clause is a length word and literals".
-- Assumes nothing.
use Rattle.std.specs.Prelude.{ℕ, zero, suc, List, [], ◌∷◌, length, take, drop}

-- the first n clauses: a length word, so many literals, and on after them
unfoldable pub first_clauses : ℕ → List ℕ → List (List ℕ)
first_clauses zero ws = []
first_clauses (suc n) [] = []
first_clauses (suc n) (w ∷ ws) = take w ws ∷ first_clauses n (drop w ws)

-- all of them: a clause takes a word at least, so there are no more than words
abbrev pub decoded : List ℕ → List (List ℕ)
decoded ws = first_clauses (length ws) ws
