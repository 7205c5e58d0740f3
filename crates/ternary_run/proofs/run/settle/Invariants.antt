use Prim.Native.Nat.{◌-◌, ◌≤◌}
use mathlib.Core.Path.{◌≡◌}
use mathlib.Core.List.{◌++◌}
use lib.ListN.{length, drop}
use Rattle.ternary_run.specs.Run.{rows3}
use Rattle.ternary_run.proofs.run.settle.Given as goal

abbrev pub invariant-loop-i : goal.invariant-loop-i
invariant-loop-i l = (l.i ≤ l.used) × (length l.values ≡ length l.initial.values) × (l.values ≡ rows3 l.rows l.initial.values l.i ++ drop l.i l.initial.values)

abbrev pub decreases-loop-i : goal.decreases-loop-i
decreases-loop-i l = l.used - l.i
