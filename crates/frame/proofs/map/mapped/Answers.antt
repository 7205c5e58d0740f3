-- `frame::map::mapped` meets its contract.
use Rattle.frame.specs.Map.{mapped}
use Rattle.frame.proofs.map.mapped.Goals as goal

pub returns : goal.returns
unfolding mapped
returns c = rw c.compl.ensures at c.not_if.ensures
