-- `property::gate_init::gate_step` meets its contract.
use Rattle.property.specs.GateInit.{gating}
use Rattle.property.proofs.Gating.{step_kept, step_made}
use Rattle.property.proofs.gate_init.gate_step.Goals as goal

pub returns-then-not-is_gated : goal.returns-then-not-is_gated
returns-then-not-is_gated c =
    let a = c.args in
    step_kept a.new (gating a.rows.now a.used a.constraints.now a.count) a.l c.is_gated.ensures c.if-not-is_gated.true-raw

pub returns : goal.returns
returns c =
    let a = c.args in
    step_made a.new (gating a.rows.now a.used a.constraints.now a.count) a.l c.is_gated.ensures c.if-not-is_gated.false-raw _ _
    c.add_constraint-grown.ensures c.put.ensures
