use Prim.Native.Nat.{ℕ, ◌≤◌}
use mathlib.Core.Path.{◌≡◌}
use lib.ListN.{length, get_or}
use Rattle.reencode.specs.Steps.{placed}
use Rattle.reencode.proofs.leaves.number_inputs.Given as goal

abbrev pub invariant-loop-j : goal.invariant-loop-j
invariant-loop-j l = (l.j ≤ length l.inputs) × (l.marks ≡ placed l.initial.marks (λ (i : ℕ). get_or l.inputs i 0) 1 l.j)
