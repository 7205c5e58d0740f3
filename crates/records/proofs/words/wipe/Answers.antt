-- `records::words::wipe` meets its contract.
use borrow.Author.Tests.{le-leb, lt-leb}
use Rattle.records.specs.Table.{wiped}
use Rattle.records.proofs.words.wipe.Goals as goal

pub returns-then-n-words : goal.returns-then-n-words
unfolding wiped
returns-then-n-words c = rw (le-leb c.args.n _ c.if-n-words.true) c.clear.ensures

pub returns-else-n-words : goal.returns-else-n-words
unfolding wiped
returns-else-n-words c = rw (lt-leb c.args.n _ c.if-n-words.false)
