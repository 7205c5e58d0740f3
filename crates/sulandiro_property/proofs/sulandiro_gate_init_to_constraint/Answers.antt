-- `sulandiro_property::sulandiro_gate_init_to_constraint` meets its contract.
use Rattle.edge.specs.Answers.{value_or}
use Rattle.graph.specs.Graph.{lent}
use Rattle.property.specs.GateInit.{gate_init_call}
use Rattle.sulandiro_words.specs.Words.{counts_in}
use Rattle.sulandiro_words.proofs.Telling.{tells}
use Rattle.sulandiro_property.proofs.sulandiro_gate_init_to_constraint.Goals as goal

pub returns : goal.returns
returns c =
    tells c.args.told.now c.gate_init_to_constraint-r.result
    (lent _ _ _ _ _ _ _ _ _ (value_or c.counts_in-n.result c.gate_init_to_constraint-r.result)) _ c.tell_rebuilt.ensures
    (gate_init_call
    (lent c.args.rows.now c.args.inputs.now c.args.latches.now c.args.constraints.now c.args.bads.now c.args.outputs.now
    c.args.ends.now c.args.edges.now c.args.fairness.now (counts_in c.args.counts.now)) c.args.marks.now)
    (rw (← c.counts_in-n.ensures) c.gate_init_to_constraint-r.ensures)
