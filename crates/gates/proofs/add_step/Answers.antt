-- `gates::add_step` meets its contract.
use Rattle.gates.specs.Gates.{add_step}
use Rattle.gates.proofs.add_step.Goals as goal

pub returns-then-trivial : goal.returns-then-trivial
unfolding add_step
returns-then-trivial c = rw c.if-trivial.true c.add_gate.ensures

pub returns-else-trivial : goal.returns-else-trivial
unfolding add_step
returns-else-trivial c = rw c.if-trivial.false c.add_and.ensures
