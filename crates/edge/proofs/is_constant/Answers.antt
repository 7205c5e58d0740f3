-- `edge::is_constant` meets its contract.
use Rattle.edge.proofs.is_constant.Goals as goal

pub returns : goal.returns
returns c = rw c.constant.ensures
