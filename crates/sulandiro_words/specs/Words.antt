-- Counts and answers as words.
-- Assumes nothing.
use Rattle.std.specs.Prelude.{ℕ, List, [], ◌∷◌, get_or}
use Rattle.edge.specs.declared.answer.Given.{Given}
use Rattle.graph.specs.declared.Counts.{Counts}

abbrev pub counts_from : ℕ → ℕ → ℕ → ℕ → ℕ → ℕ → ℕ → ℕ → ℕ → Counts
counts_from rows inputs latches constraints bads outputs sets edges fairness =
    record { rows = rows; inputs = inputs; latches = latches; constraints = constraints; bads = bads; outputs = outputs; sets = sets; edges = edges; fairness = fairness }

-- nine words in the order of `Counts`; a word that is not there is 0
unfoldable pub counts_in : List ℕ → Counts
counts_in w = counts_from (get_or w 0 0) (get_or w 1 0) (get_or w 2 0) (get_or w 3 0) (get_or w 4 0) (get_or w 5 0) (get_or w 6 0) (get_or w 7 0) (get_or w 8 0)

-- the number and the place of an answer
unfoldable pub given_words : Given → List ℕ
given_words g = g.number ∷ g.place ∷ g.index ∷ g.second ∷ []

unfoldable pub count_words : Counts → List ℕ
count_words n =
    n.rows ∷ n.inputs ∷ n.latches ∷ n.constraints ∷ n.bads ∷ n.outputs ∷ n.sets ∷ n.edges ∷ n.fairness ∷ []
