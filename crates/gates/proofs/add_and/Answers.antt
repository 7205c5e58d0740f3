-- `gates::add_and` meets its contract.
use mathlib.Core.Path.{◌∙◌}
use Rattle.gates.proofs.Ordering.{ordered}
use Rattle.gates.proofs.Building.{and_to, and_gate}
use Rattle.gates.proofs.add_and.Goals as goal

pub folded-requires : goal.folded-requires
folded-requires c = rw (c.ordered-first.ensures) (ordered _ _).sorted

pub returns-in-Some : goal.returns-in-Some
returns-in-Some c = and_to _ _ _ _ c.ordered-first.ensures c.folded.ensures c.in-Some.is

pub returns-in-None : goal.returns-in-None
returns-in-None c = c.add_gate.ensures ∙ and_gate _ _ _ _ c.ordered-first.ensures c.folded.ensures c.in-None.is
