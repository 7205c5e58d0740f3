-- `sulandiro_build::sulandiro_add_input` meets its contract.
use Rattle.sulandiro_build.specs.Made.{made}
use Rattle.sulandiro_words.proofs.Telling.{tells_handed}
use Rattle.sulandiro_build.proofs.sulandiro_add_input.Goals as goal

pub returns : goal.returns
returns c = tells_handed made _ c.args.told.now c.tell_added.ensures _ (rw (← c.counts_in-n.ensures) c.add_input-r.ensures)
