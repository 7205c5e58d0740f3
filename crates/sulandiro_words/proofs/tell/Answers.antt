-- `sulandiro_words::tell` meets its contract.
use Rattle.sulandiro_words.specs.Words.{given_words}
use Rattle.sulandiro_words.proofs.tell.Goals as goal

pub returns : goal.returns
unfolding given_words
returns c = rw (c.put-4.ensures, c.put-3.ensures, c.put-2.ensures, c.put.ensures, c.told-given.ensures)
