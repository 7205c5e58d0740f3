-- What `merge` writes: the rows and entries of a second graph, renumbered, behind those of the first.
-- Assumes nothing.
use Rattle.std.specs.Prelude.{ℕ, ◌+◌, ◌-◌, ◌*◌, cond, drop, eqb}
use Rattle.graph.specs.declared.Counts.{Counts}
use Rattle.graph.specs.Graph.{Lent}
use Rattle.graph.specs.WellFormed.{WellFormed}
use Rattle.two_graphs.specs.Pair.{SizedTwo}
use Rattle.output.specs.Writing.{written}
use Rattle.renumber.specs.Renumber.{edges_of, ids_of, lists_of, renumber, graph_of}
use Rattle.output.specs.Room.{Room}

-- "`merge` adds used−1 to ids other than 0": the two have row 0 in common, and the other rows of the second follow the used rows of the first
unfoldable pub shifted : ℕ → ℕ → ℕ
shifted by i = cond (eqb i 0) 0 (i + by)

abbrev pub offset : Lent → ℕ
offset a = a.counts.rows - 1

-- the counts of the whole
unfoldable pub summed : Counts → Counts → Counts
summed n m =
    record {
      rows = n.rows + m.rows - 1;
      inputs = n.inputs + m.inputs;
      latches = n.latches + m.latches;
      constraints = n.constraints + m.constraints;
      bads = n.bads + m.bads;
      outputs = n.outputs + m.outputs;
      sets = n.sets + m.sets;
      edges = n.edges + m.edges;
      fairness = n.fairness + m.fairness;
    }

-- the whole: rows, inputs, and every other list by `renumber`. A row is written as two edges; the words none and 0 of a leaf stay.
unfoldable pub merged : Lent → Lent → Lent
merged a b =
    graph_of
    (written a.rows (2 * a.counts.rows) (edges_of (shifted (offset a)) (drop 2 b.rows)) (2 * (b.counts.rows - 1)))
    (written a.inputs a.counts.inputs (ids_of (shifted (offset a)) b.inputs) b.counts.inputs)
    (renumber (shifted (offset a)) (lists_of a) a.counts (lists_of b) b.counts)
    (summed a.counts b.counts)

-- what is lent is right, and the first graph has room for both
pub record MergeLent (a b : Lent) (marks : ℕ) : Type 0 where
  pub sized : SizedTwo a b marks
  pub first : WellFormed a
  pub second : WellFormed b
  pub room : Room a (summed a.counts b.counts)
