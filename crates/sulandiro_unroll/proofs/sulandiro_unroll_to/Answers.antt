-- `sulandiro_unroll::sulandiro_unroll_to` meets its contract.
use mathlib.Core.Path.{sym}
use Rattle.graph.specs.Graph.{lent}
use Rattle.output.specs.Tables.{lent_in}
use Rattle.sulandiro_words.specs.Words.{counts_in}
use Rattle.unroll_to.specs.Call.{unroll_to_call}
use Rattle.sulandiro_unroll.proofs.Telling.{tells_frames}
use Rattle.sulandiro_unroll.proofs.sulandiro_unroll_to.Goals as goal

pub returns : goal.returns
returns c =
    let a = c.args in
    let same = c.unroll_to-r.ensures.same_lists in
    rw (
      c.rows2-1.given.1.1 (sym same.rows),
      c.inputs2-1.given.1.1 (sym same.inputs),
      c.latches2-1.given.1.1 (sym same.latches),
      c.constraints2-1.given.1.1 (sym same.constraints),
      c.bads2-1.given.1.1 (sym same.bads),
      c.outputs2-1.given.1.1 (sym same.outputs),
      c.ends2-1.given.1.1 (sym same.ends),
      c.edges2-1.given.1.1 (sym same.edges),
      c.fairness2-1.given.1.1 (sym same.fairness),
    )
    (tells_frames a.told.now c.unroll_to-r.result (lent_in c.unroll_to-r.new.tables c.unroll_to-r.result.counts) _ c.tell_frames.ensures
    (unroll_to_call
    (lent a.rows.now a.inputs.now a.latches.now a.constraints.now a.bads.now a.outputs.now a.ends.now a.edges.now a.fairness.now
    (counts_in a.counts.now))
    (lent a.rows2.now a.inputs2.now a.latches2.now a.constraints2.now a.bads2.now a.outputs2.now a.ends2.now a.edges2.now a.fairness2.now
    (counts_in a.counts.now)) a.frames a.marks.now) (rw (← c.counts_in-n.ensures) c.unroll_to-r.ensures.unrolled))
