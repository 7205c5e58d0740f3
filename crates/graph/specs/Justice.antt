-- List 6: sets of edges, given as ends in one list. Set s is the edges from the end before, or 0, up to its end.
-- Assumes nothing.
use Rattle.std.specs.Prelude.{ℕ, ◌+◌, ◌-◌, List, ◌∷◌, Bool, not, ◌&&◌, ◌||◌, get_or, leb, eqb, unwrap_or}
use Rattle.edge.specs.declared.answer.Given.{Given}
use Rattle.edge.specs.Answers.{given}
use Rattle.graph.specs.Search.{first_bad}

-- where set s starts
abbrev pub start : List ℕ → ℕ → ℕ
start ends s = get_or (0 ∷ ends) s 0

-- "A bad end is below the one before, above the edge count, or last and not equal to it"
unfoldable pub end_is : ℕ → ℕ → ℕ → ℕ → ℕ → Bool
end_is sets edges s before end = leb before end && leb end edges && (not (eqb (s + 1) sets) || eqb end edges)

abbrev pub good_end : List ℕ → ℕ → ℕ → ℕ → Bool
good_end ends sets edges s = end_is sets edges s (start ends s) (get_or ends s 0)

-- the set that edge k is in: the first whose end is not at or below k
unfoldable pub set_of : List ℕ → ℕ → ℕ → ℕ
set_of ends sets k = unwrap_or (first_bad (λ (s : ℕ). leb (get_or ends s 0) k) 0 sets) sets

-- "there the index is the set's and the second is 1 + the position in the set"
abbrev pub edge_place : List ℕ → ℕ → ℕ → Given
edge_place ends sets k = given 3 6 (set_of ends sets k) (1 + (k - start ends (set_of ends sets k)))
