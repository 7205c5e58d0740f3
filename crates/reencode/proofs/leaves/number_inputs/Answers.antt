-- `reencode::leaves::number_inputs` meets its contract.
use Prim.Native.Nat.{ℕ}
use mathlib.Core.Path.{refl}
use lib.ListN.{get_or}
use Rattle.reencode.specs.Steps.{placed}
use Rattle.reencode.proofs.Placing.{placed_turn}
use borrow.Author.Rules.{rules}
use Rattle.reencode.proofs.leaves.number_inputs.Goals as goal

pub loop-j-init : goal.loop-j-init
unfolding placed
loop-j-init c = (search rules, refl)

pub loop-j-preserved : goal.loop-j-preserved
loop-j-preserved c = (search rules, placed_turn c.args.marks.now (λ (i : ℕ). get_or c.args.inputs.now i 0) 1 c.loop-j.j c.loop-j.invariant.1 refl refl)
