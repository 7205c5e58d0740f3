-- `build_latches::new_latch` meets its contract.
use mathlib.Core.Path.{◌≡◌, sym, ap, ◌∙◌}
use Rattle.graph.specs.Latches.{latch, latch_set}
use Rattle.graph.specs.Leaves.{latch_edges}
use Rattle.build_leaves.specs.Calls.{counted}
use Rattle.build_leaves.proofs.Answering.{add_refused, call_done}
use Rattle.build_latches.specs.Latches.{new_latch_call, latch_answer}
use Rattle.build_latches.proofs.Adding.{edges_of_lem}
use Rattle.build_latches.proofs.new_latch.Goals as goal
use Rattle.build_latches.proofs.new_latch.Goals.{After-free_row-free}

-- the edges are judged with whatever input
judged : (c : After-free_row-free) → let a = c.args in c.latch_edges-good.result ≡ latch_edges a.counts.rows (latch a.counts.rows a.next a.init)
judged c =
    let a = c.args in
    c.latch_edges-good.ensures ∙ (ap (latch_edges a.counts.rows) c.latch_of.ensures ∙ sym (edges_of_lem a.counts.rows a.counts.rows 0 a.next a.init))

pub returns-in_err-entry_answer : goal.returns-in_err-entry_answer
unfolding new_latch_call latch_answer
returns-in_err-entry_answer c =
    let a = c.args in
    add_refused a.rows.now a.latches.now a.counts _ _
    (rw (← c.free_row-free.ensures, ← (judged (goal.at.returns-in_err-entry_answer c).After-free_row-free)) c.in_err-entry_answer.ensures.answer) _ c.from_residual.ensures.1

pub returns : goal.returns
unfolding new_latch_call latch_answer counted
returns c =
    let a = c.args in
    call_done a.rows.now a.latches.now a.counts _
    (rw (← c.free_row-free.ensures, ← (judged (goal.at.returns c).After-free_row-free)) c.in_ok-entry_answer.ensures.answer) _
    (rw (c.add_row.ensures, c.write_latch.ensures ∙ ap (latch_set a.latches.now a.counts.latches) c.latch_of-2.ensures))
