use Prim.Native.Nat.{◌≤◌}
use mathlib.Core.Path.{◌≡◌}
use Rattle.rows.specs.Rows.{leaf_at}
use Rattle.graph.specs.Count.{count_below}
use Rattle.reencode.proofs.leaves.count_leaves.Given as goal

abbrev pub invariant-loop-i : goal.invariant-loop-i
invariant-loop-i l = (l.i ≤ l.used) × (l.n ≡ count_below (leaf_at l.rows) l.i)
