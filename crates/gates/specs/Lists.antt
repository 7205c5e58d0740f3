-- What is built of edges. "Or, ands, ors, imply, eq are as in `src/lib.rs`."
-- Assumes nothing.
use Rattle.std.specs.Prelude.{ℕ, List, [], ◌∷◌, map, Bool, true, false}
use Rattle.edge.specs.Edges.{complement, complement_if, constant_of}
use Rattle.gates.specs.Gates.{State, state, add_and, steps}

-- "empty ands is true, .. one entry is itself": the AND of the first two, then with one entry after the other
unfoldable pub all_of : Bool → List ℕ → ℕ → List ℕ → State
all_of trivial rows used [] = state rows used (constant_of true)
all_of trivial rows used (e ∷ es) = steps trivial (state rows used e) es

abbrev pub signed : Bool → List ℕ → List ℕ
signed or es = map (complement_if or) es

abbrev pub turned : Bool → State → State
turned or s = state s.rows s.used (complement_if or s.edge)

-- an OR is the complement of the AND of the complements; so "empty ors is false"
unfoldable pub list_of : Bool → Bool → List ℕ → ℕ → List ℕ → State
list_of trivial or rows used es = turned or (all_of trivial rows used (signed or es))

-- both, or neither
unfoldable pub eq_of : List ℕ → ℕ → ℕ → ℕ → State
eq_of rows used a b =
    let x = add_and rows used a b in
    let y = add_and x.rows x.used (complement a) (complement b) in
    list_of false true y.rows y.used (x.edge ∷ (y.edge ∷ []))
