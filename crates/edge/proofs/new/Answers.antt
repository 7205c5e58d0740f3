-- `edge::new` meets its contract.
use borrow.Author.Tests.{lt-leb, le-leb}
use Rattle.edge.specs.Edges.{new_call}
use Rattle.edge.proofs.Meaning.{even_signed}
use Rattle.edge.proofs.new.Goals as goal

pub returns-then-id-gt-MAX_ID : goal.returns-then-id-gt-MAX_ID
unfolding new_call
returns-then-id-gt-MAX_ID c = simp (lt-leb _ _ c.if-id-gt-MAX_ID.true)

pub returns : goal.returns
unfolding new_call
returns c = simp (le-leb _ _ c.if-id-gt-MAX_ID.false, c.not_if.ensures, even_signed)
