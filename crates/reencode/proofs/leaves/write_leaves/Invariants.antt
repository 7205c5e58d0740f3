use Prim.Native.Nat.{◌≤◌}
use mathlib.Core.Path.{◌≡◌}
use Rattle.reencode.specs.Rebuilding.{leaves_added}
use Rattle.reencode.proofs.leaves.write_leaves.Given as goal

abbrev pub invariant-loop-i : goal.invariant-loop-i
invariant-loop-i l = (l.i ≤ l.n) × ((start : _) → l.initial.out ≡ leaves_added start 0 → l.out ≡ leaves_added start l.i)
