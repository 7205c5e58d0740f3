use Prim.Native.Nat.{◌-◌, ◌≤◌}
use mathlib.Core.Path.{◌≡◌}
use lib.ListN.{length}
use Rattle.frame.specs.Map.{nexts_set}
use Rattle.frame.proofs.map.write_nexts.Given as goal

abbrev pub invariant-loop-j : goal.invariant-loop-j
invariant-loop-j l = (l.j ≤ l.n) × (length l.latches ≡ length l.initial.latches) × (l.latches ≡ nexts_set l.map l.initial.latches l.from l.j)

abbrev pub decreases-loop-j : goal.decreases-loop-j
decreases-loop-j l = l.n - l.j
