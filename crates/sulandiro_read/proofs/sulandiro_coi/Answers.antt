-- `sulandiro_read::sulandiro_coi` meets its contract.
use Rattle.sulandiro_read.specs.Read.{coi_read}
use Rattle.sulandiro_words.proofs.Telling.{tells_handed}
use Rattle.sulandiro_read.proofs.sulandiro_coi.Goals as goal

pub returns : goal.returns
returns c = tells_handed coi_read _ c.args.told.now c.tell.ensures _ (rw (← c.counts_in.ensures) c.coi-r.ensures)
