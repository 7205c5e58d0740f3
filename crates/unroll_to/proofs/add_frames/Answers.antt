-- `unroll_to::add_frames` meets its contract.
use borrow.Author.Rules.{rules}
use Rattle.graph.specs.Graph.{lent_of}
use Rattle.output.specs.Tables.{lent_in}
use Rattle.unroll_to.proofs.Going.{starts, may_add, ends, marks_same, stops, goes}
use Rattle.unroll_to.proofs.add_frames.Goals as goal

pub loop-j-init : goal.loop-j-init
loop-j-init c = (search rules, starts (lent_in c.args.tables.now c.args.counts) (lent_of c.args.graph.now) c.args.frames c.args.marks.now c.requires)

pub add_frame-requires : goal.add_frame-requires
add_frame-requires c =
    may_add (lent_in c.args.tables.now c.args.counts) (lent_of c.args.graph.now) c.args.frames c.args.marks.now c.requires (lent_in c.loop-j.tables c.loop-j.at) c.loop-j.j c.loop-j.invariant.1

pub returns-in-None-clause-frames_added : goal.returns-in-None-clause-frames_added
returns-in-None-clause-frames_added c =
    stops (lent_in c.args.tables.now c.args.counts) (lent_of c.args.graph.now) c.args.frames c.args.marks.now c.requires (lent_in c.loop-j.tables c.loop-j.at) c.loop-j.j c.loop-j.invariant.1
    c.loop-j-test.true (lent_in c.add_frame.new.tables) c.add_frame.result c.add_frame.ensures.frame_added c.in-None.is

pub returns-in-None-clause-marks_unchanged : goal.returns-in-None-clause-marks_unchanged
returns-in-None-clause-marks_unchanged c =
    marks_same (lent_in c.args.tables.now c.args.counts) (lent_of c.args.graph.now) c.args.frames c.args.marks.now c.requires (lent_in c.loop-j.tables c.loop-j.at) c.loop-j.j c.loop-j.invariant.1
    c.loop-j-test.true (lent_in c.add_frame.new.tables) c.add_frame.result c.add_frame.ensures.frame_added

pub loop-j-preserved : goal.loop-j-preserved
loop-j-preserved c = (
  search rules,
  goes (lent_in c.args.tables.now c.args.counts) (lent_of c.args.graph.now) c.args.frames c.args.marks.now c.requires (lent_in c.loop-j.tables c.loop-j.at) c.loop-j.j c.loop-j.invariant.1
      c.loop-j-test.true (lent_in c.add_frame.new.tables) c.add_frame.result c.add_frame.ensures.frame_added c.in-Some.is,
)

pub returns-clause-frames_added : goal.returns-clause-frames_added
returns-clause-frames_added c =
    ends (lent_in c.args.tables.now c.args.counts) (lent_of c.args.graph.now) c.args.frames c.args.marks.now c.requires (lent_in c.loop-j.tables c.loop-j.at) c.loop-j.j c.loop-j.invariant.1
    c.loop-j-test.false
