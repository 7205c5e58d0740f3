-- `edge::is_const` meets its contract.
use Rattle.edge.proofs.is_const.Goals as goal

pub returns : goal.returns
returns c = rw c.node_id.ensures
