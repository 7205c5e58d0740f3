-- `edge::answer::is_done` meets its contract.
use Rattle.edge.proofs.answer.is_done.Goals as goal

pub returns : goal.returns
returns c = rw c.told.ensures
