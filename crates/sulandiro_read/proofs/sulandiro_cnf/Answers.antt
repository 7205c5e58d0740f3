-- `sulandiro_read::sulandiro_cnf` meets its contract.
use borrow.Author.Rules.{rules}
use Rattle.sulandiro_words.specs.Told.{shown_of}
use Rattle.sulandiro_read.proofs.sulandiro_cnf.Goals as goal

pub returns : goal.returns
unfolding shown_of
returns c = search rules
