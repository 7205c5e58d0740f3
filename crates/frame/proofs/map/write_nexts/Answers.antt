-- `frame::map::write_nexts` meets its contract.
use mathlib.Core.Path.{refl, ap, ◌∙◌}
use Rattle.graph.specs.Latches.{latch_set}
use Rattle.frame.specs.Map.{nexts_set}
use Rattle.frame.proofs.Mapping.{nexts_set_turn}
use borrow.Author.Rules.{rules}
use Rattle.frame.proofs.map.write_nexts.Goals as goal

pub loop-j-init : goal.loop-j-init
unfolding nexts_set
loop-j-init c = (search rules, refl, refl)

pub loop-j-preserved : goal.loop-j-preserved
loop-j-preserved c = (
  search rules,
  search rules,
  nexts_set_turn c.args.map.now
      c.args.latches.now
      c.args.from.now
      c.loop-j.j c.loop-j.invariant.2
      c.latch_at-l.ensures c.latch_at.ensures
      c.mapped-next.ensures (c.write_latch.ensures ∙ ap (latch_set _ _) c.with_next.ensures),
)
