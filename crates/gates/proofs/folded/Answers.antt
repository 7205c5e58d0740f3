-- `gates::folded` meets its contract.
use Rattle.gates.proofs.Building.{fold_true, fold_false, fold_same, fold_opposite, fold_gate}
use Rattle.gates.proofs.folded.Goals as goal

pub returns-then-a-eq1 : goal.returns-then-a-eq1
returns-then-a-eq1 c = fold_true _ _ c.if-a-eq1.true

pub returns-else-a-eq1 : goal.returns-else-a-eq1
returns-else-a-eq1 c = fold_false _ _ c.if-a-lt2.true c.if-a-eq1.false

pub returns-then-a-b-2 : goal.returns-then-a-b-2
returns-then-a-b-2 c = fold_same _ _ c.requires c.if-a-lt2.false c.if-a-b-2.true

pub returns-else-a-b-2 : goal.returns-else-a-b-2
returns-else-a-b-2 c = fold_opposite _ _ c.requires c.if-a-lt2.false c.if-a-b.true c.if-a-b-2.false

pub returns : goal.returns
returns c = fold_gate _ _ c.requires c.if-a-lt2.false c.if-a-b.false
