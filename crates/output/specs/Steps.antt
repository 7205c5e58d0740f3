-- What only the proofs need: what a step asks of its caller, and what its functions count on the way.
-- Assumes nothing.
use Rattle.std.specs.Prelude.{ℕ, ◌<◌, ◌^◌, ◌≤◌, ◌≡◌, List, length, get_or}
use Rattle.std.specs.Fn.{Shared}
use Rattle.graph.specs.declared.Counts.{Counts}
use Rattle.graph.specs.Graph.{Lent}
use Rattle.output.specs.Room.{Room}

-- each of them is a word
abbrev pub Words : (ℕ → ℕ) → ℕ → Type 0
Words f n = (j : ℕ) → j < n → f j < 2 ^ 32

-- the words are there, and there is room for them
pub record WordsFit (out list : List ℕ) (n : ℕ) : Type 0 where
  pub has : n ≤ length list
  pub room : n ≤ length out

-- the same of a graph: as many entries stand in g, and there is room for them in `out`
pub record CopyFits (g out : Lent) (n : Counts) : Type 0 where
  pub has : Room g n
  pub room : Room out n

-- f may be called on each word of the list
abbrev pub TakesEach : {F : Type 0} → Shared F (ℕ × Unit {0}) ℕ → F → List ℕ → Type 0
TakesEach g f list = (j : ℕ) → j < length list → g.pre f (get_or list j 0, tt)

-- each call of f gives what `of` makes of the word
abbrev pub GivesEach : {F : Type 0} → Shared F (ℕ × Unit {0}) ℕ → F → (ℕ → ℕ) → Type 0
GivesEach g f of = (x r : ℕ) → g.post f (x, tt) r → r ≡ of x
