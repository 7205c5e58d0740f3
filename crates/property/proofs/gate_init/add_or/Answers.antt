-- `property::gate_init::add_or` meets its contract.
use Rattle.property.proofs.Gating.{or_built}
use Rattle.property.proofs.gate_init.add_or.Goals as goal

pub returns : goal.returns
returns c = or_built _ _ _ _ _ c.not.ensures c.not-2.ensures c.add_and-neither.ensures c.not-3.ensures
