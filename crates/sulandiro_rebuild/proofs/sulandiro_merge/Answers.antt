-- `sulandiro_rebuild::sulandiro_merge` meets its contract.
use mathlib.Core.Path.{sym}
use Rattle.edge.specs.Answers.{value_or}
use Rattle.graph.specs.Graph.{lent}
use Rattle.output.specs.Tables.{lent_in}
use Rattle.sulandiro_words.specs.Words.{counts_in}
use Rattle.merge.specs.Call.{merge_call}
use Rattle.sulandiro_words.proofs.Telling.{tells}
use Rattle.sulandiro_rebuild.proofs.sulandiro_merge.Goals as goal

pub returns : goal.returns
returns c =
    let a = c.args in
    let same = c.merge-r.ensures.same_lists in
    rw (
      c.rows-1.given.1.1 (sym same.rows),
      c.inputs-1.given.1.1 (sym same.inputs),
      c.latches-1.given.1.1 (sym same.latches),
      c.constraints-1.given.1.1 (sym same.constraints),
      c.bads-1.given.1.1 (sym same.bads),
      c.outputs-1.given.1.1 (sym same.outputs),
      c.ends-1.given.1.1 (sym same.ends),
      c.edges-1.given.1.1 (sym same.edges),
      c.fairness-1.given.1.1 (sym same.fairness),
    )
    (tells a.told.now c.merge-r.result (lent_in c.merge-r.new.tables (value_or c.counts_in-n.result c.merge-r.result)) _ c.tell_rebuilt.ensures
    (merge_call
    (lent a.rows.now a.inputs.now a.latches.now a.constraints.now a.bads.now a.outputs.now a.ends.now a.edges.now a.fairness.now
    (counts_in a.counts.now))
    (lent a.rows2.now a.inputs2.now a.latches2.now a.constraints2.now a.bads2.now a.outputs2.now a.ends2.now a.edges2.now a.fairness2.now
    (counts_in a.counts2.now)) a.marks.now) (rw (← c.counts_in-n.ensures, ← c.counts_in-n2.ensures) c.merge-r.ensures.merged))
