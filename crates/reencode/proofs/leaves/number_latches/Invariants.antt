use Prim.Native.Nat.{ℕ, ◌≤◌}
use mathlib.Core.Path.{◌≡◌}
use Rattle.graph.specs.Latches.{latch_at}
use Rattle.reencode.specs.Steps.{placed}
use Rattle.reencode.proofs.leaves.number_latches.Given as goal

abbrev pub invariant-loop-j : goal.invariant-loop-j
invariant-loop-j l = (l.j ≤ l.n) × (l.marks ≡ placed l.initial.marks (λ (i : ℕ). (latch_at l.latches i).input) l.first l.j)
