-- `records::checking::check_words` meets its contract.
use Rattle.graph.specs.Graph.{lent_of}
use Rattle.graph.specs.Check.{check_seen}
use Rattle.records.specs.Checking.{check_with, check_refused}
use Rattle.records.proofs.Working.{too_few, done_on}
use Rattle.records.proofs.checking.check_words.Goals as goal

pub returns-then-words-n : goal.returns-then-words-n
returns-then-words-n c =
    too_few (check_with (lent_of c.args.graph.now) c.args.marks.now) (check_refused c.args.marks.now) c.args.n c.args.words.now c.if-words-n.true

pub returns : goal.returns
returns c =
    done_on (check_with (lent_of c.args.graph.now) c.args.marks.now) (check_refused c.args.marks.now) c.args.n c.args.words.now c.clear.new.marks
    (check_seen c.check-answer.result c.check-answer.new.marks) c.if-words-n.false c.check-answer.ensures c.clear.ensures
