-- `property::gate_init::checked` meets its contract.
use mathlib.Core.Path.{refl, ap, ◌∙◌}
use mathlib.Core.Bool.{true}
use Rattle.edge.proofs.Answers.{handed_on}
use Rattle.graph.specs.Graph.{lent_of}
use Rattle.graph.specs.Check.{check_seen}
use Rattle.property.specs.GateInit.{part_of, gate_room, gate_init_checked}
use Rattle.property.proofs.Answering.{check_stops, check_right, check_room, check_full}
use Rattle.property.proofs.Constraining.{gate_room_lem, steps_ready}
use Rattle.property.proofs.gate_init.checked.Goals as goal

pub returns-in_err-check : goal.returns-in_err-check
unfolding gate_init_checked
returns-in_err-check c =
    let g = lent_of c.args.graph.now in
    ap (λ r. check_seen r c.check.new.marks) (handed_on _ _ c.from_residual.ensures.1) ∙
    check_stops true (gate_room (part_of g)) g c.args.marks.now refl _ _ c.in_err-check.ensures

pub need-need-requires : goal.need-need-requires
need-need-requires c =
    let g = lent_of c.args.graph.now in
    let r = check_right true (gate_room (part_of g)) g c.args.marks.now refl _ c.in_ok-check.ensures in
    steps_ready g _ r.0 r.1

pub returns-then-need-counts : goal.returns-then-need-counts
unfolding gate_init_checked
returns-then-need-counts c =
    let g = lent_of c.args.graph.now in
    check_room true (gate_room (part_of g)) g c.args.marks.now refl _ c.in_ok-check.ensures (gate_room_lem (part_of g) c.need-need.ensures c.if-need-counts.true)

pub returns-else-need-counts : goal.returns-else-need-counts
unfolding gate_init_checked
returns-else-need-counts c =
    let g = lent_of c.args.graph.now in
    check_full true (gate_room (part_of g)) g c.args.marks.now refl _ c.in_ok-check.ensures (gate_room_lem (part_of g) c.need-need.ensures c.if-need-counts.false)
