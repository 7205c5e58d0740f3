-- `merge::shifted` meets its contract.
use borrow.Author.Tests.{eq-eqb, ne_eqb}
use Rattle.merge.specs.Merge.{shifted}
use Rattle.merge.proofs.shifted.Goals as goal

pub returns-then-i-eq0 : goal.returns-then-i-eq0
unfolding shifted
returns-then-i-eq0 c = simp (eq-eqb _ _ c.if-i-eq0.true)

pub returns : goal.returns
unfolding shifted
returns c = simp (ne_eqb _ _ c.if-i-eq0.false)
