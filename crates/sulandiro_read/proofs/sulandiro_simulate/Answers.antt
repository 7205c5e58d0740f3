-- `sulandiro_read::sulandiro_simulate` meets its contract.
use Rattle.sulandiro_read.specs.Read.{step_read}
use Rattle.sulandiro_words.proofs.Telling.{tells_handed}
use Rattle.sulandiro_read.proofs.sulandiro_simulate.Goals as goal

pub returns : goal.returns
returns c = tells_handed step_read _ c.args.told.now c.tell.ensures _ (rw (← c.counts_in.ensures) c.simulate-r.ensures)
