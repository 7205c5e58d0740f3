-- `renumber::renamed` meets its contract.
use borrow.Author.Tests.{eq-eqb}
use Rattle.renumber.specs.Renumber.{renamed}
use borrow.Author.Rules.{rules}
use Rattle.renumber.proofs.renamed.Goals as goal

pub returns-then-e-eq-NONE : goal.returns-then-e-eq-NONE
unfolding renamed
returns-then-e-eq-NONE c = rw (eq-eqb _ _ c.if-e-eq-NONE.true) c.if-e-eq-NONE.true

pub renamed_edge-requires : goal.renamed_edge-requires
renamed_edge-requires c = record { edge = search rules; known = c.requires c.if-e-eq-NONE.false }

pub returns : goal.returns
returns c = c.renamed_edge.ensures
