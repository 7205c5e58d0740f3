-- What `new_latch` makes is a leaf.
-- Assumes nothing.
use Prim.Native.Nat.{ℕ, ◌+◌}
use mathlib.Core.List.{List}
use Rattle.graph.specs.declared.Counts.{Counts}
use Rattle.graph.specs.Latches.{latches_lent, latch}
use Rattle.graph.specs.Leaves.{latch_edges}
use Rattle.build_leaves.specs.Leaves.{free_row}
use borrow.Author.Tests.{eq-eqb}
use Rattle.build_leaves.proofs.Adding.{entry_told}
use Rattle.build_leaves.proofs.Meaning.{went}
use Rattle.build_latches.specs.Latches.{latch_answer, new_latch_call}
use Rattle.build_latches.specs.Meaning.{LatchLeaf}

pub latch_leaf : (rows : List ℕ) (n : Counts) → LatchLeaf rows n
unfolding new_latch_call latch_answer
latch_leaf rows n latches next init =
    went rows latches n n.inputs (n.latches + 1) _ _
    (λ z. let t = entry_told rows n.rows n.latches (latches_lent latches) (latch_edges n.rows (latch n.rows next init)) (free_row rows n.rows) (eq-eqb _ 0 z) in (t.0, t.2))
