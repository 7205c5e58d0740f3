-- `sulandiro_build::tell_made` meets its contract.
use Rattle.sulandiro_build.specs.Made.{made_words}
use Rattle.sulandiro_words.specs.Words.{count_words}
use Rattle.sulandiro_build.proofs.tell_made.Goals as goal

pub returns : goal.returns
unfolding made_words count_words
returns c = rw (c.put.ensures, c.tell_counts.ensures, c.tell.ensures)
