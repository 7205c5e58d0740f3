use Prim.Native.Nat.{◌+◌, ◌-◌, ◌≤◌}
use mathlib.Core.Path.{◌≡◌}
use Rattle.frame.specs.Steps.{new_leaves}
use Rattle.frame.proofs.map.new_leaves.Given as goal

abbrev pub invariant-loop-i : goal.invariant-loop-i
invariant-loop-i l = (l.i ≤ l.i-end) × (l.n ≤ l.i) × (l.n + new_leaves l.from l.map l.i (l.i-end - l.i) ≡ new_leaves l.from l.map 0 l.i-end)

abbrev pub decreases-loop-i : goal.decreases-loop-i
decreases-loop-i l = l.i-end - l.i
