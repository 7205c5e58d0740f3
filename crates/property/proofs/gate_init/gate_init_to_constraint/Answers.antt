-- `property::gate_init::gate_init_to_constraint` meets its contract.
use mathlib.Core.Path.{ap, ◌∙◌}
use Rattle.edge.specs.Answers.{value_or}
use Rattle.edge.proofs.Answers.{handed_on}
use Rattle.graph.specs.Graph.{lent}
use Rattle.renumber.specs.Seen.{rebuilt_seen}
use Rattle.property.proofs.Constraining.{gate_init_refused, gate_init_ready, gate_init_done}
use Rattle.property.proofs.gate_init.gate_init_to_constraint.Goals as goal

pub returns-in_err-checked : goal.returns-in_err-checked
returns-in_err-checked c =
    let a = c.args in
    let given = lent c.args.rows.now c.args.inputs.now c.args.latches.now c.args.constraints.now c.args.bads.now c.args.outputs.now c.args.ends.now c.args.edges.now c.args.fairness.now
    c.args.counts in
    ap (λ r. rebuilt_seen r (lent a.rows.now a.inputs.now a.latches.now a.constraints.now a.bads.now a.outputs.now a.ends.now a.edges.now a.fairness.now (value_or a.counts r))
    c.checked.new.marks) (handed_on _ _ c.from_residual.ensures.1) ∙
    gate_init_refused given a.marks.now _ _ c.in_err-checked.ensures

pub write-requires : goal.write-requires
write-requires c =
    let given = lent c.args.rows.now c.args.inputs.now c.args.latches.now c.args.constraints.now c.args.bads.now c.args.outputs.now c.args.ends.now c.args.edges.now c.args.fairness.now
    c.args.counts in
    gate_init_ready given c.args.marks.now _ c.in_ok-checked.ensures

pub returns : goal.returns
returns c =
    let given = lent c.args.rows.now c.args.inputs.now c.args.latches.now c.args.constraints.now c.args.bads.now c.args.outputs.now c.args.ends.now c.args.edges.now c.args.fairness.now
    c.args.counts in
    gate_init_done given c.args.marks.now _ c.in_ok-checked.ensures _ c.write.ensures
