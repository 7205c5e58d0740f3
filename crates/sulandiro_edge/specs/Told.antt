-- What a caller in C is told of an edge or a row: the answer, then what comes with it.
-- Assumes nothing.
use Rattle.std.specs.Prelude.{ℕ, Bool, cond, List, [], ◌∷◌, ◌≡◌, Option, Some, None}
use Rattle.edge.specs.Answers.{determined}
use Rattle.edge.specs.Edges.{EdgeSeen, BoolSeen, which_constant}
use Rattle.rows.specs.Reading.{FaninSeen}
use Rattle.sulandiro_words.specs.Told.{told_words}

abbrev pub told_edge : EdgeSeen → List ℕ → List ℕ
told_edge s told = told_words told s.given (s.edge ∷ [])

-- false is 0 and true is 1
abbrev pub told_truth : BoolSeen → List ℕ → List ℕ
told_truth s told = told_words told s.given (cond s.value 1 0 ∷ [])

abbrev pub told_fanins : FaninSeen → List ℕ → List ℕ
told_fanins s told = told_words told s.given (s.first ∷ s.second ∷ [])

abbrev pub constant_number : Option Bool → ℕ
constant_number (Some v) = cond v 1 0
constant_number None = 2

-- ---- any two results that a promise allows are equal. The calls that cannot refuse have the promises of `edge`, where that is said of each.
pub edge_told_determined : (s : EdgeSeen) (before a b : List ℕ) → a ≡ told_edge s before → b ≡ told_edge s before → a ≡ b
edge_told_determined s = determined (told_edge s)

pub truth_told_determined : (s : BoolSeen) (before a b : List ℕ) → a ≡ told_truth s before → b ≡ told_truth s before → a ≡ b
truth_told_determined s = determined (told_truth s)

pub fanins_told_determined : (s : FaninSeen) (before a b : List ℕ) → a ≡ told_fanins s before → b ≡ told_fanins s before → a ≡ b
fanins_told_determined s = determined (told_fanins s)

pub constant_number_determined : (e r s : ℕ) → r ≡ constant_number (which_constant e) → s ≡ constant_number (which_constant e) → r ≡ s
constant_number_determined = determined (λ (e : ℕ). constant_number (which_constant e))
