-- `aig_move::aig_move` meets its contract.
use mathlib.Core.Path.{◌≡◌, ap, ◌∙◌}
use Rattle.std.specs.Prelude.{Ok}
use Rattle.edge.specs.Answers.{value_or}
use Rattle.edge.proofs.Answers.{handed_on}
use Rattle.graph.specs.Graph.{lent_of}
use Rattle.output.specs.Tables.{lent_in}
use Rattle.output.specs.Room.{room_in}
use Rattle.renumber.specs.Steps.{found_seen}
use Rattle.aig_move.specs.Steps.{move_checked}
use Rattle.renumber.specs.Seen.{rebuilt_seen}
use Rattle.aig_move.proofs.Call.{move_refused, counts_found, ready_to_write, move_done}
use Rattle.aig_move.proofs.aig_move.Goals as goal

pub returns-in_err-counts-clause-answer : goal.returns-in_err-counts-clause-answer
returns-in_err-counts-clause-answer c =
    let g = lent_of c.args.graph.now in
    ap (λ r. rebuilt_seen r (lent_in c.args.tables.now (value_or g.counts r)) c.checked.new.marks) (handed_on _ _ c.from_residual.ensures.1) ∙
    move_refused g (lent_in c.args.tables.now g.counts) c.args.marks.now _ _ (rw c.room.ensures at c.in_err-counts.ensures)

pub write-requires : goal.write-requires
write-requires c =
    ready_to_write (lent_of c.args.graph.now) (lent_in c.args.tables.now c.args.graph.now.counts) c.args.marks.now _ _ (rw c.room.ensures at c.in_ok-counts.ensures)

pub returns-clause-answer : goal.returns-clause-answer
returns-clause-answer c =
    let g = lent_of c.args.graph.now in
    let out = lent_in c.args.tables.now g.counts in
    let found : found_seen g.counts (Ok c.in_ok-counts.counts) c.checked.new.marks ≡ move_checked g (room_in out) c.args.marks.now = rw c.room.ensures at c.in_ok-counts.ensures in
    move_done g out c.args.marks.now _ _ found (ap (lent_in c.write.new.tables) (counts_found g out c.args.marks.now _ _ found) ∙ c.write.ensures.moved)
