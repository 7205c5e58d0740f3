use Prim.Native.Nat.{ℕ}
use mathlib.Core.Path.{◌≡◌}
use Rattle.output.specs.Writing.{written, each_of}
use Rattle.output.specs.Steps.{GivesEach}
use Rattle.output.proofs.write_each.Given as goal

abbrev pub invariant-loop-j : goal.invariant-loop-j
invariant-loop-j g l = (of : ℕ → ℕ) → GivesEach g.F.Fn l.f of → l.out ≡ written l.initial.out l.at (each_of of l.list) l.j
