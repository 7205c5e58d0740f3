-- `frame::add_frame` meets its contract.
use mathlib.Core.Path.{sym}
use Rattle.graph.specs.Graph.{lent_of}
use Rattle.output.specs.Tables.{lent_in}
use Rattle.frame.proofs.Ready.{frame_full, frame_room, frame_done, still_ready}
use Rattle.frame.proofs.add_frame.Goals as goal

pub returns-then-not-fits-clause-frame_added : goal.returns-then-not-fits-clause-frame_added
returns-then-not-fits-clause-frame_added c =
    frame_full (lent_in c.args.tables.now c.args.counts) (lent_of c.args.graph.now) c.args.marks.now c.room.ensures c.graph.ensures c.fits.ensures.value c.fits.ensures.marks_after
    c.if-not-fits.true-raw

pub write_frame-requires : goal.write_frame-requires
write_frame-requires c =
    let one = lent_in c.args.tables.now c.args.counts in
    let other = lent_of c.args.graph.now in
    record {
      ready = still_ready one other c.requires (sym c.fits.auto.marks);
      room = frame_room one other c.args.marks.now c.room.ensures c.graph.ensures c.fits.ensures.value c.fits.ensures.marks_after c.if-not-fits.false-raw;
    }

pub returns-clause-frame_added : goal.returns-clause-frame_added
returns-clause-frame_added c =
    frame_done (lent_in c.args.tables.now c.args.counts) (lent_of c.args.graph.now) c.args.marks.now c.room.ensures c.graph.ensures c.fits.ensures.value c.fits.ensures.marks_after
    c.if-not-fits.false-raw c.write_frame.result c.write_frame.ensures.frame_written c.write_frame.ensures.marks_after
