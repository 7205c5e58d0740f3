-- `property::gate_init::is_gated` meets its contract.
use mathlib.Core.Path.{refl}
use Rattle.property.specs.GateInit.{is_gated}
use Rattle.property.proofs.gate_init.is_gated.Goals as goal

pub returns : goal.returns
unfolding is_gated
returns c = refl
