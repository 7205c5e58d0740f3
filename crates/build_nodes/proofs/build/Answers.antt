-- `build_nodes::build` meets its contract.
use mathlib.Core.Path.{ap, ◌∙◌}
use Rattle.build_leaves.specs.Calls.{counted}
use Rattle.build_nodes.proofs.Calling.{gate_refused, same_rows, gate_full, gate_done}
use Rattle.build_nodes.proofs.build.Goals as goal

pub returns-in_err-asked : goal.returns-in_err-asked
returns-in_err-asked g c of total builds = gate_refused c.args.rows.now c.args.counts c.args.edges.now total _ c.in_err-asked.ensures.answer _ c.from_residual.ensures.1

pub returns-then-rows-dry : goal.returns-then-rows-dry
returns-then-rows-dry g c of total builds =
    let dry = builds _ _ _ c.steps-dry.ensures in
    gate_full c.args.rows.now c.args.counts c.args.edges.now total c.in_ok-asked.ensures.answer _ dry c.if-rows-dry.true

pub returns : goal.returns
unfolding counted
returns g c of total builds =
    let dry = builds _ _ _ c.steps-dry.ensures in
    gate_done c.args.rows.now c.args.counts c.args.edges.now total c.in_ok-asked.ensures.answer _ dry c.if-rows-dry.false
    _ (builds _ _ _ c.steps-grown.ensures ∙ ap of (same_rows c.args.rows.now c.args.counts c.args.edges.now total c.in_ok-asked.ensures.answer _ dry))
