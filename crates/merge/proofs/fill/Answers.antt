-- `merge::fill` meets its contract.
use mathlib.Core.Path.{refl}
use Rattle.output.specs.Writing.{written}
use Rattle.merge.proofs.Ready.{filled_turn}
use Rattle.merge.specs.Merge.{shifted}
use borrow.Author.Rules.{rules}
use Rattle.merge.proofs.fill.Goals as goal

pub loop-i-init : goal.loop-i-init
unfolding written
loop-i-init c = (search rules, refl)

pub loop-i-preserved : goal.loop-i-preserved
loop-i-preserved c = (search rules, filled_turn (shifted c.args.by) c.args.map.now c.loop-i.i c.loop-i.invariant.1 c.shifted.ensures)
