-- `reencode::reencode` meets its contract.
use mathlib.Core.Path.{◌≡◌, ap, ◌∙◌}
use Rattle.edge.specs.Answers.{value_or}
use Rattle.edge.proofs.Answers.{handed_on}
use Rattle.graph.specs.Graph.{lent_of}
use Rattle.graph.specs.Check.{check_seen}
use Rattle.output.specs.Tables.{lent_in}
use Rattle.output.specs.Room.{room_in}
use Rattle.renumber.specs.Seen.{rebuilt_seen}
use Rattle.reencode.specs.Call.{reencode_checked}
use Rattle.reencode.proofs.Call.{call_refused, call_ready, call_done}
use Rattle.reencode.proofs.reencode.Goals as goal
use Rattle.reencode.proofs.reencode.Goals.{After-checked}

-- what the check answers
asked : (c : After-checked) → check_seen c.checked.result c.checked.new.marks
    ≡ reencode_checked (lent_of c.args.graph.now) (room_in (lent_in c.args.tables.now c.args.graph.now.counts)) c.args.marks.now
asked c = rw c.room.ensures at c.checked.ensures

pub returns-in_err-checked-clause-reencoded : goal.returns-in_err-checked-clause-reencoded
returns-in_err-checked-clause-reencoded c =
    ap (λ r. rebuilt_seen r (lent_in c.args.tables.now (value_or c.args.graph.now.counts r)) c.checked.new.marks) (handed_on _ _ c.from_residual.ensures.1) ∙
    call_refused (lent_of c.args.graph.now) (lent_in c.args.tables.now c.args.graph.now.counts) c.args.marks.now c.checked.result
    (asked (goal.at.returns-in_err-checked-clause-reencoded c).After-checked) c.in_err-checked.was

pub rebuild-requires : goal.rebuild-requires
rebuild-requires c =
    call_ready (lent_of c.args.graph.now) (lent_in c.args.tables.now c.args.graph.now.counts) c.args.marks.now c.checked.result
    (asked (goal.at.rebuild-requires c).After-checked) c.in_ok-checked.was c.checked.auto.marks

pub returns-clause-reencoded : goal.returns-clause-reencoded
returns-clause-reencoded c =
    call_done (lent_of c.args.graph.now) (lent_in c.args.tables.now c.args.graph.now.counts) c.args.marks.now c.checked.result
    (asked (goal.at.returns-clause-reencoded c).After-checked) c.in_ok-checked.was c.args.graph.now.counts c.rebuild.ensures.all_written c.rebuild.ensures.marks_after
