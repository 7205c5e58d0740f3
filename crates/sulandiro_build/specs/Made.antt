-- What a caller in C sees of a constructor: the rows, the list that it may add to, and the answer, the counts and what was made as words.
-- Assumes nothing.
use Rattle.std.specs.Prelude.{ℕ, List, [], ◌∷◌, ◌++◌, ◌≡◌}
use Rattle.graph.specs.declared.Counts.{Counts}
use Rattle.build_leaves.specs.Calls.{Seen}
use Rattle.sulandiro_words.specs.Words.{count_words}
use Rattle.sulandiro_words.specs.Told.{Handed, Shown, shown, shown_of, shown_determined}

-- behind the counts, the edge or the id that was made
unfoldable pub made_words : Counts → ℕ → List ℕ
made_words n made = count_words n ++ (made ∷ [])

-- where a call is lent no list to add to, that list is empty
abbrev pub made_seen : List ℕ → List ℕ → List ℕ → Shown
made_seen rows list told = shown (rows ∷ list ∷ []) told

abbrev pub made : Seen → Handed
made s = record { given = s.given; words = made_words s.left.counts s.left.made; lists = s.left.rows ∷ s.left.list ∷ [] }

abbrev pub told_made : Seen → List ℕ → Shown
told_made s told = shown_of (made s) told

-- any two results that a constructor's promise allows are equal: every list, and what is told
pub made_determined : (s : Seen) (before : List ℕ) (a b : Shown) → a ≡ told_made s before → b ≡ told_made s before → (a.lists ≡ b.lists) × (a.told ≡ b.told)
made_determined s before = shown_determined (told_made s before)
