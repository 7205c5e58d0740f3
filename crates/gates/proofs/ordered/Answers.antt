-- `gates::ordered` meets its contract.
use borrow.Author.Tests.{lt-ltb, le-ltb}
use Rattle.gates.specs.Gates.{first, second}
use Rattle.gates.proofs.ordered.Goals as goal

pub returns-then-b-a : goal.returns-then-b-a
unfolding first second
returns-then-b-a c = rw (lt-ltb _ _ c.if-b-a.true)

pub returns-else-b-a : goal.returns-else-b-a
unfolding first second
returns-else-b-a c = rw (le-ltb _ _ c.if-b-a.false)
