-- `property::gate_init::need` meets its contract.
use mathlib.Core.Path.{ap}
use Rattle.property.specs.GateInit.{Gating}
use Rattle.property.proofs.gate_init.need.Goals as goal

pub returns : goal.returns
returns c = (ap (λ (s : Gating). s.used) c.gate_steps.ensures, ap (λ (s : Gating). s.count) c.gate_steps.ensures)
