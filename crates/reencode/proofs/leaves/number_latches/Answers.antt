-- `reencode::leaves::number_latches` meets its contract.
use Prim.Native.Nat.{ℕ}
use mathlib.Core.Path.{refl, ap}
use Rattle.graph.specs.declared.latch.Latch.{Latch}
use Rattle.graph.specs.Latches.{latch_at}
use Rattle.reencode.specs.Steps.{placed}
use Rattle.reencode.proofs.Placing.{placed_turn}
use borrow.Author.Rules.{rules}
use Rattle.reencode.proofs.leaves.number_latches.Goals as goal

pub loop-j-init : goal.loop-j-init
unfolding placed
loop-j-init c = (search rules, refl)

pub loop-j-preserved : goal.loop-j-preserved
loop-j-preserved c = (
  search rules,
  placed_turn c.args.marks.now (λ (i : ℕ). (latch_at c.args.latches.now i).input) c.args.first c.loop-j.j c.loop-j.invariant.1 (ap (λ (l : Latch). l.input) c.latch_at-l.ensures) refl,
)
