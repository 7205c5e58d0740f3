-- `sulandiro_read::sulandiro_check` meets its contract.
use Rattle.sulandiro_read.specs.Read.{check_read}
use Rattle.sulandiro_words.proofs.Telling.{tells_handed}
use Rattle.sulandiro_read.proofs.sulandiro_check.Goals as goal

pub returns : goal.returns
returns c = tells_handed check_read _ c.args.told.now c.tell.ensures _ (rw (← c.counts_in.ensures) c.check-checked.ensures)
