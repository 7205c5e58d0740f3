use Prim.Native.Nat.{◌+◌, ◌-◌, ◌*◌, ◌≤◌}
use mathlib.Core.Path.{◌≡◌}
use lib.ListN.{length}
use Rattle.property.specs.GateInit.{gating, gate_steps}
use Rattle.property.proofs.gate_init.gate_steps.Given as goal

abbrev pub invariant-loop-j : goal.invariant-loop-j
invariant-loop-j l =
    (l.j ≤ l.n) × (l.at ≤ l.used + 6 * l.j) × (l.k ≤ l.count + l.j) × (length l.rows ≡ length l.initial.rows) × (length l.constraints ≡ length l.initial.constraints)
    × (gating l.rows l.at l.constraints l.k ≡ gate_steps l.new l.latches (gating l.initial.rows l.used l.initial.constraints l.count) l.j)

abbrev pub decreases-loop-j : goal.decreases-loop-j
decreases-loop-j l = l.n - l.j
