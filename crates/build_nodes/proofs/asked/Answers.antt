-- `build_nodes::asked` meets its contract.
use mathlib.Core.Path.{◌∙◌}
use Rattle.build_leaves.proofs.Answering.{goes_on}
use Rattle.build_nodes.proofs.Calling.{each_used, asked_fits}
use Rattle.build_nodes.proofs.asked.Goals as goal

pub returns-clause-answer : goal.returns-clause-answer
returns-clause-answer c = rw (← c.rows_fit.ensures, ← (c.all_used.ensures ∙ each_used c.args.used c.args.edges.now)) c.answered.ensures

pub returns-clause-limits : goal.returns-clause-limits
returns-clause-limits c ok =
    let h = goes_on c.answered.result c.answered.ensures ok in
    asked_fits c.args.rows.now c.args.used c.args.edges.now (rw (c.rows_fit.ensures, c.all_used.ensures ∙ each_used c.args.used c.args.edges.now) at h)
