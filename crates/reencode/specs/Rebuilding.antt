-- What `reencode` writes.
-- Assumes nothing.
use Rattle.std.specs.Prelude.{ℕ, zero, suc, ◌+◌, List, cond}
use Rattle.rows.specs.Rows.{word0, word1, gate_at}
use Rattle.graph.specs.Graph.{Lent, no_counts}
use Rattle.gates.specs.Gates.{first_row, leaf_added, add_gate}
use Rattle.output.specs.Writing.{written}
use Rattle.renumber.specs.Renumber.{renamed, ids_of, lists_of, renumber, graph_of}
use Rattle.graph.specs.Count.{gates_below}
use Rattle.reencode.specs.Numbers.{first_gate, new_id}

-- row 0, and n leaves behind it
unfoldable pub leaves_added : List ℕ → ℕ → List ℕ
leaves_added out zero = first_row out
leaves_added out (suc n) = leaf_added (leaves_added out n) (n + 1)

-- "rows built by `trivial_new_and_node`": where row i is a gate, the gate of its edges under m is row k
unfoldable pub gate_added : (ℕ → ℕ) → List ℕ → ℕ → ℕ → List ℕ → List ℕ
gate_added m rows i k out = cond (gate_at rows i) (add_gate out k (renamed m (word0 rows i)) (renamed m (word1 rows i))).rows out

-- the gates among the first n rows, in row order, from row `first` on
unfoldable pub gates_added : (ℕ → ℕ) → List ℕ → ℕ → List ℕ → ℕ → List ℕ
gates_added m rows first out zero = out
gates_added m rows first out (suc i) = gate_added m rows i (first + gates_below rows i) (gates_added m rows first out i)

-- row 0, the inputs and latches, then the gates
unfoldable pub rows_of : Lent → List ℕ → List ℕ
rows_of g out = gates_added (new_id g) g.rows (first_gate g.counts) (leaves_added out (g.counts.inputs + g.counts.latches)) g.counts.rows

-- every column under the one map; there are as many rows and entries as before
unfoldable pub reencoded : Lent → Lent → Lent
reencoded g out =
    graph_of
    (rows_of g out.rows)
    (written out.inputs 0 (ids_of (new_id g) g.inputs) g.counts.inputs)
    (renumber (new_id g) (lists_of out) no_counts (lists_of g) g.counts)
    g.counts
