-- `refine::coi_refine` meets its contract.
use mathlib.Core.Path.{◌≡◌, ap, ◌∙◌}
use Rattle.edge.specs.Answers.{value_or}
use Rattle.edge.proofs.Answers.{handed_on}
use Rattle.graph.specs.Graph.{lent_of}
use Rattle.output.specs.Tables.{lent_in}
use Rattle.output.specs.Room.{room_in}
use lib.ListN.{length}
use Rattle.renumber.specs.Seen.{listed_seen}
use Rattle.renumber.specs.Steps.{found_seen}
use Rattle.refine.specs.Steps.{refine_checked}
use Rattle.refine.proofs.Call.{refine_refused, counts_found, ready_to_write, marks_cover, refine_done}
use Rattle.refine.proofs.coi_refine.Goals as goal
use Rattle.refine.proofs.coi_refine.Goals.{After-checked}

-- what the check found
found : (c : After-checked) → found_seen c.args.graph.now.counts c.checked.result c.checked.new.marks
    ≡ refine_checked (lent_of c.args.graph.now) (room_in (lent_in c.args.tables.now c.args.graph.now.counts)) (length c.args.old.now) c.args.marks.now
found c = rw c.room.ensures at c.checked.ensures

pub returns-in_err-counts-clause-refined : goal.returns-in_err-counts-clause-refined
returns-in_err-counts-clause-refined c =
    ap (λ r. listed_seen r (lent_in c.args.tables.now (value_or c.args.graph.now.counts r)) c.args.old.now c.checked.new.marks) (handed_on _ _ c.from_residual.ensures.1) ∙
    refine_refused (lent_of c.args.graph.now) (lent_in c.args.tables.now c.args.graph.now.counts) c.args.old.now c.args.marks.now c.checked.result
    (found (goal.at.returns-in_err-counts-clause-refined c).After-checked) c.in_err-counts.was

pub write-requires : goal.write-requires
write-requires c =
    ready_to_write (lent_of c.args.graph.now) (lent_in c.args.tables.now c.args.graph.now.counts) c.args.old.now c.args.marks.now c.checked.result
    (found (goal.at.write-requires c).After-checked) c.in_ok-counts.was

pub clear-requires : goal.clear-requires
clear-requires c =
    marks_cover (lent_of c.args.graph.now) (lent_in c.args.tables.now c.args.graph.now.counts) c.args.old.now c.args.marks.now c.checked.result
    (found (goal.at.clear-requires c).After-checked) c.in_ok-counts.was

pub returns-clause-refined : goal.returns-clause-refined
returns-clause-refined c =
    let g = lent_of c.args.graph.now in
    let out = lent_in c.args.tables.now c.args.graph.now.counts in
    let seen = found (goal.at.returns-clause-refined c).After-checked in
    rw (counts_found g out c.args.old.now c.args.marks.now c.checked.result seen c.in_ok-counts.was)
    (refine_done g out c.args.old.now c.args.marks.now c.checked.result seen c.in_ok-counts.was c.in_ok-counts.counts c.write.ensures.all_written c.write.ensures.old_written c.clear.ensures)
