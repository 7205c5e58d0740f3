-- `sulandiro_rebuild::sulandiro_reencode` meets its contract.
use mathlib.Core.Path.{sym}
use Rattle.edge.specs.Answers.{value_or}
use Rattle.graph.specs.Graph.{lent}
use Rattle.output.specs.Tables.{lent_in}
use Rattle.sulandiro_words.specs.Words.{counts_in}
use Rattle.reencode.specs.Call.{reencode_call}
use Rattle.sulandiro_words.proofs.Telling.{tells}
use Rattle.sulandiro_rebuild.proofs.sulandiro_reencode.Goals as goal

pub returns : goal.returns
returns c =
    let a = c.args in
    let same = c.reencode-r.ensures.same_lists in
    rw (
      c.rows2-1.given.1.1 (sym same.rows),
      c.inputs2-1.given.1.1 (sym same.inputs),
      c.latches2-1.given.1.1 (sym same.latches),
      c.constraints2-1.given.1.1 (sym same.constraints),
      c.bads2-1.given.1.1 (sym same.bads),
      c.outputs2-1.given.1.1 (sym same.outputs),
      c.ends2-1.given.1.1 (sym same.ends),
      c.edges2-1.given.1.1 (sym same.edges),
      c.fairness2-1.given.1.1 (sym same.fairness),
    )
    (tells a.told.now c.reencode-r.result (lent_in c.reencode-r.new.tables (value_or c.counts_in-n.result c.reencode-r.result)) _ c.tell_rebuilt.ensures
    (reencode_call
    (lent a.rows.now a.inputs.now a.latches.now a.constraints.now a.bads.now a.outputs.now a.ends.now a.edges.now a.fairness.now
    (counts_in a.counts.now))
    (lent a.rows2.now a.inputs2.now a.latches2.now a.constraints2.now a.bads2.now a.outputs2.now a.ends2.now a.edges2.now a.fairness2.now
    (counts_in a.counts.now)) a.marks.now) (rw (← c.counts_in-n.ensures) c.reencode-r.ensures.reencoded))
