-- `sulandiro_read::sulandiro_ternary_simulate` meets its contract.
use Rattle.sulandiro_read.specs.Read.{run_read}
use Rattle.sulandiro_words.proofs.Telling.{tells_handed}
use Rattle.sulandiro_read.proofs.sulandiro_ternary_simulate.Goals as goal

pub returns : goal.returns
returns c = tells_handed run_read _ c.args.told.now c.tell.ensures _ (rw (← c.counts_in.ensures) c.ternary_simulate-r.ensures)
