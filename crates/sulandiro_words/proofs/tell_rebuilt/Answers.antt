-- `sulandiro_words::tell_rebuilt` meets its contract.
use borrow.Author.Rules.{rules}
use Rattle.sulandiro_words.specs.Told.{told_rebuilt}
use Rattle.sulandiro_words.proofs.tell_rebuilt.Goals as goal

pub returns : goal.returns
unfolding told_rebuilt
returns c = search rules
