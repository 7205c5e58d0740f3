-- The cone: "flags of the edges' rows .. and all fanins below".
-- Assumes nothing.
use Rattle.std.specs.Prelude.{ℕ, zero, suc, List, cond, ◌&&◌, get_or, set, replicate, eqb}
use Rattle.edge.specs.Edges.{id_of}
use Rattle.rows.specs.Rows.{word0, word1, gate_at}
use Rattle.root_marks.specs.Marking.{mark_edges}

-- where row i is flagged and is a gate, both fanins are flagged
unfoldable pub mark_row : List ℕ → ℕ → List ℕ → List ℕ
mark_row rows i flags = cond (eqb (get_or flags i 0) 1 && gate_at rows i) (set (set flags (id_of (word0 rows i)) 1) (id_of (word1 rows i)) 1) flags

-- the same for the rows below n, from row n - 1 down to row 0
unfoldable pub mark_below : List ℕ → ℕ → List ℕ → List ℕ
mark_below rows zero flags = flags
mark_below rows (suc i) flags = mark_below rows i (mark_row rows i flags)

-- "a flag 0 or 1 per used row"
unfoldable pub cone_of : List ℕ → ℕ → List ℕ → List ℕ
cone_of rows used roots = mark_below rows used (mark_edges roots (replicate used 0))
