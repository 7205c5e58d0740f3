-- `kept_rows::flags::mark_inputs` meets its contract.
use Rattle.kept_rows.proofs.Flagging.{inputs_start, inputs_turn}
use borrow.Author.Rules.{rules}
use Rattle.kept_rows.proofs.flags.mark_inputs.Goals as goal

pub loop-k-init : goal.loop-k-init
loop-k-init c = (search rules, inputs_start c.args.latches.now c.args.marks.now)

pub loop-k-preserved : goal.loop-k-preserved
loop-k-preserved c = (
  search rules,
  inputs_turn c.args.latches.now c.loop-k.k c.args.marks.now
      c.loop-k.invariant.1 c.latch_at-l.ensures,
)
