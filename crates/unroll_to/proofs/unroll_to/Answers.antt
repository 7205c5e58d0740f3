-- `unroll_to::unroll_to` meets its contract.
use mathlib.Core.Path.{sym, ◌∙◌}
use Rattle.graph.specs.Graph.{lent_of}
use Rattle.output.specs.Tables.{lent_in}
use Rattle.unroll_to.specs.Steps.{UnrollReady}
use Rattle.unroll_to.proofs.Starting.{copy_fits, frames_ready, all_unrolled}
use Rattle.unroll_to.proofs.Call.{unroll_refused, unroll_full, ready_to_write, unroll_done}
use Rattle.unroll_to.proofs.unroll_to.Goals as goal
use Rattle.unroll_to.proofs.unroll_to.Goals.{Else-not-fits}

pub returns-in-Err-clause-unrolled : goal.returns-in-Err-clause-unrolled
returns-in-Err-clause-unrolled c =
    let from = lent_of c.args.graph.now in
    rw c.refused.ensures (unroll_refused from (lent_in c.args.tables.now from.counts) c.args.frames c.args.marks.now c.room-room.ensures _ c.asked.ensures c.in-Err.is)

pub returns-then-not-fits-clause-unrolled : goal.returns-then-not-fits-clause-unrolled
returns-then-not-fits-clause-unrolled c =
    let from = lent_of c.args.graph.now in
    rw (c.refused-then-not-fits.ensures, c.no_counts.ensures)
    (unroll_full from (lent_in c.args.tables.now from.counts) c.args.frames c.args.marks.now c.room-room.ensures _ c.asked.ensures c.in_default.is (sym c.fits.ensures ∙ c.if-not-fits.true))

right : (c : Else-not-fits) → UnrollReady (lent_of c.args.graph.now) (lent_in c.args.tables.now c.args.graph.now.counts) c.asked.new.marks
right c =
    let from = lent_of c.args.graph.now in
    ready_to_write from (lent_in c.args.tables.now from.counts) c.args.frames c.args.marks.now c.room-room.ensures _ c.asked.ensures c.in_default.is (sym c.fits.ensures ∙ c.if-not-fits.false)

pub copy-requires : goal.copy-requires
copy-requires c = copy_fits _ _ _ (right (goal.at.copy-requires c).Else-not-fits)

pub add_frames-made-requires : goal.add_frames-made-requires
add_frames-made-requires c = frames_ready _ _ _ (right (goal.at.add_frames-made-requires c).Else-not-fits) c.copy.ensures.copied

pub returns-clause-unrolled : goal.returns-clause-unrolled
returns-clause-unrolled c =
    let from = lent_of c.args.graph.now in
    unroll_done from (lent_in c.args.tables.now from.counts) c.args.frames c.args.marks.now c.room-room.ensures _ c.asked.ensures c.in_default.is (sym c.fits.ensures ∙ c.if-not-fits.false)
    (all_unrolled _ _ _ (right (goal.at.returns-clause-unrolled c).Else-not-fits) c.copy.ensures.copied c.args.frames c.add_frames-made.ensures.frames_added)
    c.add_frames-made.ensures.marks_unchanged c.answer_of.ensures
