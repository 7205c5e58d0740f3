-- What `aig_move` writes.
-- Assumes nothing.
use Rattle.std.specs.Prelude.{ℕ, ◌+◌, List, [], true, cond, set, ltb}
use Rattle.edge.specs.Edges.{constant_of}
use Rattle.graph.specs.declared.Counts.{Counts}
use Rattle.graph.specs.Latches.{latch_set, latch}
use Rattle.graph.specs.Graph.{Lent, lent}
use Rattle.output.specs.Copying.{copy_of}
use Rattle.aig_move.specs.Making.{Making, making_in}

-- the rows, where `rows` is the table to which they are added
abbrev pub making : Lent → List ℕ → Making
making g rows = making_in rows g.constraints g.bads g.outputs g.counts

-- "then clears constraints": what is copied
abbrev pub copy_counts : Counts → Counts
copy_counts n =
    record { rows = n.rows; inputs = n.inputs; latches = n.latches; constraints = 0; bads = n.bads; outputs = n.outputs; sets = n.sets; edges = n.edges; fairness = n.fairness }

-- the counts of the result: so many rows, and "it adds a latch"
unfoldable pub counts_with : Counts → ℕ → Counts
counts_with n rows =
    record { rows = rows; inputs = n.inputs; latches = n.latches + 1; constraints = 0; bads = n.bads; outputs = n.outputs; sets = n.sets; edges = n.edges; fairness = n.fairness }

-- the rows are counted by the same steps on no rows
abbrev pub moved_counts : Lent → Counts
moved_counts g = counts_with g.counts (making g []).used

-- of n entries the first is replaced, where there is one
unfoldable pub first_set : List ℕ → ℕ → ℕ → List ℕ
first_set list n e = cond (ltb 0 n) (set list 0 e) list

-- what is done on the copy c of g: "it adds a latch (init true), next = latch AND all constraints, and replaces the first bad and first output by their AND with that next"
unfoldable pub finished : Lent → Lent → Lent
finished g c =
    let n = g.counts in
    let m = making g c.rows in
    lent m.rows c.inputs (latch_set c.latches n.latches (latch n.rows m.next (constant_of true))) c.constraints
    (first_set c.bads n.bads m.bad)
    (first_set c.outputs n.outputs m.output)
    c.ends
    c.edges
    c.fairness
    (moved_counts g)

-- "`aig_move` works on a copy", which has no constraints
unfoldable pub moved : Lent → Lent → Lent
moved g out = finished g (copy_of (copy_counts g.counts) g out)
