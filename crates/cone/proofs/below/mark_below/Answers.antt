-- `cone::below::mark_below` meets its contract.
use mathlib.Core.Path.{sym, ap, ◌∙◌}
use Rattle.cone.specs.Cone.{mark_below}
use Rattle.cone.proofs.Marking.{below_turn, below_end}
use Rattle.cone.proofs.below.mark_below.Goals as goal

pub loop-i-preserved : goal.loop-i-preserved
loop-i-preserved c = ap (mark_below _ _) c.mark_row.ensures ∙ (sym (below_turn _ _ _ c.loop-i-test.true) ∙ c.loop-i.invariant)

pub returns : goal.returns
returns c = sym (below_end _ _ _ c.loop-i-test.false) ∙ c.loop-i.invariant
