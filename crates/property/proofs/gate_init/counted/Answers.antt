-- `property::gate_init::counted` meets its contract.
use mathlib.Core.Path.{refl}
use Rattle.property.specs.GateInit.{gated_counts}
use Rattle.property.proofs.gate_init.counted.Goals as goal

pub returns : goal.returns
unfolding gated_counts
returns c = refl
