-- `sulandiro_build::sulandiro_new` meets its contract.
use Rattle.sulandiro_build.specs.Made.{made}
use Rattle.sulandiro_words.proofs.Telling.{tells_handed}
use Rattle.sulandiro_build.proofs.sulandiro_new.Goals as goal

pub returns : goal.returns
returns c = tells_handed made _ c.args.told.now c.tell_built.ensures _ (rw c.no_counts.ensures c.new-r.ensures)
