-- `rows::kinds::larger` meets its contract.
use borrow.Author.Tests.{le-leb, lt-leb}
use Rattle.rows.specs.Rows.{larger}
use Rattle.rows.proofs.kinds.larger.Goals as goal

pub returns-then-a-b : goal.returns-then-a-b
unfolding larger
returns-then-a-b c = simp (le-leb _ _ c.if-a-b.true)

pub returns-else-a-b : goal.returns-else-a-b
unfolding larger
returns-else-a-b c = simp (lt-leb _ _ c.if-a-b.false)
