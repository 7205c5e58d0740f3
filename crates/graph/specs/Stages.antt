-- The check goes through stages, one after the other, and stops at the first bad place.
-- Assumes nothing.
use Rattle.std.specs.Prelude.{ℕ, ◌<◌, ◌≡◌, Bool, true, false, List, [], ◌∷◌, Option, Some, None}
use Rattle.edge.specs.declared.answer.Given.{Given}
use Rattle.edge.specs.Answers.{given, done}
use Rattle.graph.specs.Search.{first_bad}

-- how many places a stage looks at, which of them are good, and what is answered for a bad one
pub record Stage : Type 0 where
  pub count : ℕ
  pub good : ℕ → Bool
  pub bad : ℕ → Given

-- what was found at a stage is answered; else the rest
abbrev pub or_later : Stage → Option ℕ → Given → Given
or_later s (Some i) rest = s.bad i
or_later s None rest = rest

abbrev pub found : Stage → Option ℕ
found s = first_bad s.good 0 s.count

-- the answer for the first bad entry of a list
abbrev pub entry_found : ℕ → Option ℕ → Given
entry_found list (Some i) = given 3 list i 0
entry_found list None = done

-- the answer for the first bad place, stage by stage
unfoldable pub first_fault : List Stage → Given
first_fault [] = done
first_fault (s ∷ ss) = or_later s (found s) (first_fault ss)

-- ---- what a reader wants of it
abbrev pub Clean : Stage → Type 0
Clean s = (i : ℕ) → i < s.count → s.good i ≡ true

-- nothing is bad
pub data AllClean : List Stage → Type 0 where
  nothing : AllClean []
  more : {s : Stage} {ss : List Stage} → Clean s → AllClean ss → AllClean (s ∷ ss)

-- the answer names the first fault: it is bad, and nothing before it is, in its stage or in an earlier one
pub data Names : List Stage → Given → Type 0 where
  here : {s : Stage} {ss : List Stage} (i : ℕ) → i < s.count → s.good i ≡ false → ((j : ℕ) → j < i → s.good j ≡ true) → Names (s ∷ ss) (s.bad i)
  later : {s : Stage} {ss : List Stage} {g : Given} → Clean s → Names ss g → Names (s ∷ ss) g
