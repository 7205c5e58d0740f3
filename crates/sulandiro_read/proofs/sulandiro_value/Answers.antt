-- `sulandiro_read::sulandiro_value` meets its contract.
use borrow.Author.Rules.{rules}
use Rattle.sulandiro_words.specs.Told.{shown_of}
use Rattle.sulandiro_read.proofs.sulandiro_value.Goals as goal

pub returns : goal.returns
unfolding shown_of
returns c = search rules
