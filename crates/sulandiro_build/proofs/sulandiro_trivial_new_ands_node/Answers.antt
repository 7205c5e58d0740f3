-- `sulandiro_build::sulandiro_trivial_new_ands_node` meets its contract.
use Rattle.sulandiro_build.specs.Made.{made}
use Rattle.sulandiro_words.proofs.Telling.{tells_handed}
use Rattle.sulandiro_build.proofs.sulandiro_trivial_new_ands_node.Goals as goal

pub returns : goal.returns
returns c =
    tells_handed made _ c.args.told.now c.tell_built.ensures _
    (rw (← c.counts_in-n.ensures) c.trivial_new_ands_node-r.ensures)
