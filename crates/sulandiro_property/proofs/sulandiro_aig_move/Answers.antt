-- `sulandiro_property::sulandiro_aig_move` meets its contract.
use mathlib.Core.Path.{sym}
use Rattle.edge.specs.Answers.{value_or}
use Rattle.graph.specs.Graph.{lent}
use Rattle.output.specs.Tables.{lent_in}
use Rattle.aig_move.specs.Call.{move_call}
use Rattle.sulandiro_words.specs.Words.{counts_in}
use Rattle.sulandiro_words.proofs.Telling.{tells}
use Rattle.sulandiro_property.proofs.sulandiro_aig_move.Goals as goal

pub returns : goal.returns
returns c =
    let same = c.aig_move-r.ensures.same_lists in
    rw (
      c.rows2-1.given.1.1 (sym same.rows),
      c.inputs2-1.given.1.1 (sym same.inputs),
      c.latches2-1.given.1.1 (sym same.latches),
      c.constraints2-1.given.1.1 (sym same.constraints),
      c.bads2-1.given.1.1 (sym same.bads),
      c.outputs2-1.given.1.1 (sym same.outputs),
      c.ends2-1.given.1.1 (sym same.ends),
      c.edges2-1.given.1.1 (sym same.edges),
      c.fairness2-1.given.1.1 (sym same.fairness),
    )
    (tells c.args.told.now c.aig_move-r.result (lent_in c.aig_move-r.new.tables (value_or c.counts_in-n.result c.aig_move-r.result)) _ c.tell_rebuilt.ensures
    (move_call
    (lent c.args.rows.now c.args.inputs.now c.args.latches.now c.args.constraints.now c.args.bads.now c.args.outputs.now
    c.args.ends.now c.args.edges.now c.args.fairness.now (counts_in c.args.counts.now))
    (lent c.args.rows2.now c.args.inputs2.now c.args.latches2.now c.args.constraints2.now c.args.bads2.now c.args.outputs2.now
    c.args.ends2.now c.args.edges2.now c.args.fairness2.now (counts_in c.args.counts.now)) c.args.marks.now)
    (rw (← c.counts_in-n.ensures) c.aig_move-r.ensures.answer))
