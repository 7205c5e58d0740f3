-- `cone::write` meets its contract.
use Rattle.cone.proofs.Marking.{still_used, cone_written}
use Rattle.cone.proofs.write.Goals as goal

pub mark_edges-requires : goal.mark_edges-requires
mark_edges-requires c = still_used c.args.rows.now c.args.roots.now c.args.flags.now c.clear.ensures c.requires.roots_value

pub returns : goal.returns
returns c =
    cone_written c.args.rows.now c.args.roots.now c.args.flags.now c.clear.ensures c.mark_edges.ensures
    c.mark_below.ensures
