-- `build_latches::add_latch` meets its contract.
use mathlib.Core.Path.{ap, ◌∙◌}
use Rattle.graph.specs.Latches.{latch_set}
use Rattle.graph.specs.Leaves.{latch_edges}
use Rattle.build_leaves.specs.Calls.{counted}
use Rattle.build_leaves.proofs.Answering.{add_refused, call_done}
use Rattle.build_latches.specs.Latches.{add_latch_call, latch_answer}
use Rattle.build_latches.proofs.add_latch.Goals as goal

pub returns-in_err-entry_answer : goal.returns-in_err-entry_answer
unfolding add_latch_call latch_answer
returns-in_err-entry_answer c =
    let a = c.args in
    add_refused a.rows.now a.latches.now a.counts _ _
    (rw (← (c.latch_edges.ensures ∙ ap (latch_edges a.counts.rows) c.latch_of-l.ensures)) c.in_err-entry_answer.ensures.answer) _ c.from_residual.ensures.1

pub returns : goal.returns
unfolding add_latch_call latch_answer counted
returns c =
    let a = c.args in
    call_done a.rows.now a.latches.now a.counts _
    (rw (← (c.latch_edges.ensures ∙ ap (latch_edges a.counts.rows) c.latch_of-l.ensures)) c.in_ok-entry_answer.ensures.answer) _
    (rw (c.write_latch.ensures ∙ ap (latch_set a.latches.now a.counts.latches) c.latch_of-l.ensures))
