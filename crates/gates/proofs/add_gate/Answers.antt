-- `gates::add_gate` meets its contract.
use Rattle.gates.proofs.Building.{gate_added_lem}
use Rattle.gates.proofs.add_gate.Goals as goal

pub returns : goal.returns
returns c = gate_added_lem _ _ _ _ _ c.ordered-first.ensures c.add_row.ensures
