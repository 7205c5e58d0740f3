-- `sulandiro_read::sulandiro_fanin_logic_cone` meets its contract.
use Rattle.sulandiro_read.specs.Read.{cone_read}
use Rattle.sulandiro_words.proofs.Telling.{tells_handed}
use Rattle.sulandiro_read.proofs.sulandiro_fanin_logic_cone.Goals as goal

pub returns : goal.returns
returns c = tells_handed cone_read _ c.args.told.now c.tell.ensures _ (rw (← c.counts_in.ensures) c.fanin_logic_cone-r.ensures)
