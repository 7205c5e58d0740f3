-- `reencode::write_rows` meets its contract.
use mathlib.Core.Path.{◌≡◌}
use lib.ListN.{drop}
use Rattle.graph.specs.Graph.{lent_of}
use Rattle.renumber.specs.Steps.{MarksHold}
use Rattle.reencode.specs.Numbers.{new_id}
use Rattle.reencode.specs.Rebuilding.{rows_of}
use Rattle.reencode.proofs.Readying.{latches_marked, gates_ready, rows_written}
use Rattle.reencode.proofs.write_rows.Goals as goal
use Rattle.reencode.proofs.write_rows.Goals.{After-rebuild_gates}

-- what is written, and what the marks hold
whole : (c : After-rebuild_gates) → (c.rebuild_gates.new.out ≡ rows_of (lent_of c.args.graph.now) c.args.out.now) ×
    (MarksHold c.args.graph.now.counts.rows (new_id (lent_of c.args.graph.now)) c.rebuild_gates.new.marks ×
    (drop c.args.graph.now.counts.rows c.rebuild_gates.new.marks ≡ drop c.args.graph.now.counts.rows c.args.marks.now))
whole c =
    rows_written (lent_of c.args.graph.now) c.args.marks.now c.requires c.number_inputs.ensures c.number_latches.ensures c.args.out.now _ c.write_leaves.ensures
    c.rebuild_gates.ensures.out_after c.rebuild_gates.ensures.marks_hold c.rebuild_gates.ensures.marks_unchanged

pub number_latches-requires-clause-ids_marked : goal.number_latches-requires-clause-ids_marked
number_latches-requires-clause-ids_marked c = latches_marked (lent_of c.args.graph.now) c.args.marks.now c.requires c.number_inputs.ensures

pub rebuild_gates-requires : goal.rebuild_gates-requires
rebuild_gates-requires c = gates_ready (lent_of c.args.graph.now) c.args.marks.now c.requires c.number_inputs.ensures c.number_latches.ensures

pub returns-clause-rows_written : goal.returns-clause-rows_written
returns-clause-rows_written c = (whole (goal.at.returns-clause-rows_written c).After-rebuild_gates).0

pub returns-clause-marks_hold : goal.returns-clause-marks_hold
returns-clause-marks_hold c = (whole (goal.at.returns-clause-marks_hold c).After-rebuild_gates).1.0

pub returns-clause-marks_unchanged : goal.returns-clause-marks_unchanged
returns-clause-marks_unchanged c = (whole (goal.at.returns-clause-marks_unchanged c).After-rebuild_gates).1.1
