-- `sulandiro_unroll::tell_frames` meets its contract.
use Rattle.sulandiro_words.specs.Told.{told_rebuilt}
use Rattle.sulandiro_unroll.specs.Frames.{told_ran}
use Rattle.sulandiro_unroll.proofs.tell_frames.Goals as goal

pub returns : goal.returns
unfolding told_ran told_rebuilt
returns c = rw (c.put.ensures, c.tell_counts.ensures, c.tell.ensures)
