-- `coi::coi` meets its contract.
use mathlib.Core.Path.{◌≡◌, ap, ◌∙◌}
use mathlib.Core.Bool.{true, ◌&&◌}
use lib.ListN.{length}
use Rattle.edge.proofs.Answers.{handed_on}
use Rattle.graph.specs.Graph.{lent_of, sizes_right}
use Rattle.root_marks.specs.Arguments.{every}
use Rattle.root_marks.proofs.Arguments.{every_all}
use Rattle.coi.specs.Coi.{used_row}
use Rattle.coi.specs.Call.{coi_room, coi_seen}
use Rattle.coi.proofs.Call.{Part, part, coi_sizes, coi_refused, coi_argument, coi_done}
use Rattle.coi.proofs.coi.Goals as goal
use Rattle.coi.proofs.coi.Goals.{Else-not-room-sizes_right, Else-not-ids_used}

-- the sizes are right
right : (c : Else-not-room-sizes_right) → let graph = lent_of c.args.graph.now in
    coi_room graph c.args.ids.now (length c.args.flags.now) (length c.args.stack.now) && sizes_right graph (length c.args.marks.now) ≡ true
right c = rw (← c.sizes_right.ensures) c.if-not-room-sizes_right.false

-- the ids are used
good : (c : Else-not-ids_used) → every (used_row c.args.graph.now.counts.rows) c.args.ids.now ≡ true
good c = rw (← every_all (used_row c.args.graph.now.counts.rows) c.args.ids.now, ← c.ids_used.ensures) c.if-not-ids_used.false

-- the call is accepted
known : (c : Else-not-ids_used) → Part (lent_of c.args.graph.now) c.args.ids.now c.args.flags.now
known c =
    part (lent_of c.args.graph.now) c.args.ids.now c.args.flags.now c.args.marks.now c.args.stack.now (right (goal.at.Else-not-ids_used c).Else-not-room-sizes_right)
    c.check_contents.result c.check_contents.ensures.result_value c.check_contents.ensures.marks_after c.clear.ensures c.in_ok-check_contents.was (good c)

pub returns-then-not-room-sizes_right : goal.returns-then-not-room-sizes_right
returns-then-not-room-sizes_right c =
    coi_sizes (lent_of c.args.graph.now) c.args.ids.now c.args.flags.now c.args.marks.now c.args.stack.now (rw (← c.sizes_right.ensures) c.if-not-room-sizes_right.true)

pub returns-in_err-check_contents : goal.returns-in_err-check_contents
returns-in_err-check_contents c =
    ap (λ r. coi_seen r c.args.flags.now c.check_contents.new.marks c.clear.new.marks) (handed_on _ _ c.from_residual.ensures.1) ∙
    coi_refused (lent_of c.args.graph.now) c.args.ids.now c.args.flags.now c.args.marks.now c.args.stack.now (right (goal.at.returns-in_err-check_contents c).Else-not-room-sizes_right)
    c.check_contents.result c.check_contents.ensures.result_value c.check_contents.ensures.marks_after c.clear.ensures c.in_err-check_contents.field-0.0 c.in_err-check_contents.was

pub returns-then-not-ids_used : goal.returns-then-not-ids_used
returns-then-not-ids_used c =
    coi_argument (lent_of c.args.graph.now) c.args.ids.now c.args.flags.now c.args.marks.now c.args.stack.now (right (goal.at.returns-then-not-ids_used c).Else-not-room-sizes_right)
    c.check_contents.result c.check_contents.ensures.result_value c.check_contents.ensures.marks_after c.clear.ensures c.in_ok-check_contents.was
    (rw (← every_all (used_row c.args.graph.now.counts.rows) c.args.ids.now, ← c.ids_used.ensures) c.if-not-ids_used.true)

pub write-requires-clause-coi_ready : goal.write-requires-clause-coi_ready
write-requires-clause-coi_ready c = (known (goal.at.write-requires-clause-coi_ready c).Else-not-ids_used).known

pub write-requires-clause-ids_value : goal.write-requires-clause-ids_value
write-requires-clause-ids_value c = (known (goal.at.write-requires-clause-ids_value c).Else-not-ids_used).ids_used

pub returns : goal.returns
returns c =
    coi_done (lent_of c.args.graph.now) c.args.ids.now c.args.flags.now c.args.marks.now c.args.stack.now (right (goal.at.returns c).Else-not-room-sizes_right)
    c.check_contents.result c.check_contents.ensures.result_value c.check_contents.ensures.marks_after c.clear.ensures c.in_ok-check_contents.was
    (good (goal.at.returns c).Else-not-ids_used) c.write.ensures.flags_after c.write.ensures.marks_after c.write.ensures.stack_after
