use Prim.Native.Nat.{◌-◌, ◌≤◌}
use mathlib.Core.Path.{◌≡◌}
use lib.ListN.{length}
use Rattle.property.specs.GateInit.{inits_taken}
use Rattle.property.proofs.gate_init.take_inits.Given as goal

abbrev pub invariant-loop-j : goal.invariant-loop-j
invariant-loop-j l = (l.j ≤ l.n) × (length l.latches ≡ length l.initial.latches) × (l.latches ≡ inits_taken l.initial.latches l.j)

abbrev pub decreases-loop-j : goal.decreases-loop-j
decreases-loop-j l = l.n - l.j
