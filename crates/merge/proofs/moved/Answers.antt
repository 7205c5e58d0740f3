-- `merge::moved` meets its contract.
use Rattle.merge.proofs.Ready.{moved_kept, moved_on}
use Rattle.merge.proofs.moved.Goals as goal

pub returns-then-e : goal.returns-then-e
returns-then-e c = moved_kept c.args.by c.args.e c.if-e.true

pub returns : goal.returns
returns c = moved_on c.args.by c.args.e c.if-e.false
