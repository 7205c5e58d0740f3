-- The new numbers: "`reencode` numbers inputs, latches, then gates in row order".
-- Assumes nothing.
use Rattle.std.specs.Prelude.{ℕ, ◌+◌, List, [], ◌∷◌, Bool, cond, not, ◌&&◌, eqb}
use Rattle.rows.specs.Rows.{leaf_at, gate_at}
use Rattle.graph.specs.declared.Counts.{Counts}
use Rattle.graph.specs.Leaves.{member}
use Rattle.graph.specs.Graph.{Lent}
use Rattle.graph.specs.WellFormed.{leaf_list, listed}
use Rattle.graph.specs.Count.{count_below, gates_below}

-- the number of x, where the entries of a list are numbered from k on; 0 where it is no entry
unfoldable pub place_from : ℕ → List ℕ → ℕ → ℕ
place_from k [] x = 0
place_from k (y ∷ ys) x = cond (eqb x y) k (place_from (k + 1) ys x)

-- row 0 comes first, so the leaves are numbered from 1 on
abbrev pub place_in : List ℕ → ℕ → ℕ
place_in list x = place_from 1 list x

-- the first gate's number: after row 0, the inputs and the latches
abbrev pub first_gate : Counts → ℕ
first_gate n = 1 + (n.inputs + n.latches)

-- a gate is numbered from `first` on in row order, and another row as f says
unfoldable pub numbered : List ℕ → ℕ → (ℕ → ℕ) → ℕ → ℕ
numbered rows first f x = cond (gate_at rows x) (first + gates_below rows x) (f x)

-- the new number of row x; row 0, which is no gate and not listed, stays 0
unfoldable pub number_of : List ℕ → List ℕ → List ℕ → Counts → ℕ → ℕ
number_of rows inputs latches n = numbered rows (first_gate n) (place_in (leaf_list inputs n.inputs latches n.latches))

abbrev pub new_id : Lent → ℕ → ℕ
new_id g = number_of g.rows g.inputs g.latches g.counts

-- "A leaf in neither list is an orphan"
abbrev pub orphan_at : Lent → ℕ → Bool
orphan_at g x = leaf_at g.rows x && not (member x (listed g))

-- how many of the used rows are orphans
abbrev pub orphans : Lent → ℕ
orphans g = count_below (orphan_at g) g.counts.rows
