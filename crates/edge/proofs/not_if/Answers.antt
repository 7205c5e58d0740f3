-- `edge::not_if` meets its contract.
use Rattle.edge.proofs.not_if.Goals as goal

pub returns-then-flip : goal.returns-then-flip
returns-then-flip c = rw c.if-flip.true c.not.ensures

pub returns-else-flip : goal.returns-else-flip
returns-else-flip c = rw c.if-flip.false
