-- `frame::write_frame` meets its contract.
use Rattle.graph.specs.Graph.{lent_of}
use Rattle.output.specs.Tables.{lent_in}
use Rattle.frame.proofs.Ready.{part_within, built, lists_ready, map_long, whole}
use Rattle.frame.proofs.write_frame.Goals as goal

pub start_map-requires-clause-latches_within : goal.start_map-requires-clause-latches_within
start_map-requires-clause-latches_within c = part_within (lent_in c.args.tables.now c.args.counts) (lent_of c.args.graph.now) c.args.marks.now c.graph.ensures c.requires.ready

pub grow_lists-requires : goal.grow_lists-requires
grow_lists-requires c =
    let one = lent_in c.args.tables.now c.args.counts in
    let other = lent_of c.args.graph.now in
    let e = built one other c.args.marks.now c.graph.ensures c.requires.ready.from.marked c.start_map.ensures one.rows one.inputs c.frame_rows-reached.ensures in
    lists_ready one other _ c.requires.ready c.requires.room _ (map_long one other e)

pub returns-clause-frame_written : goal.returns-clause-frame_written
returns-clause-frame_written c =
    let one = lent_in c.args.tables.now c.args.counts in
    let other = lent_of c.args.graph.now in
    let e = built one other c.args.marks.now c.graph.ensures c.requires.ready.from.marked c.start_map.ensures one.rows one.inputs c.frame_rows-reached.ensures in
    rw (c.grow_lists.ensures.leaves_kept.0, c.grow_lists.ensures.leaves_kept.1) (whole one other e c.grow_lists.ensures.lists_grown c.raised.ensures)
