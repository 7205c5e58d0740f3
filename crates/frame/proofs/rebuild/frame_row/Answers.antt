-- `frame::rebuild::frame_row` meets its contract.
use native.Mathlib.Omega.{arith}
use Rattle.rows.proofs.Laws.{gate_below}
use Rattle.frame.specs.Frame.{frame}
use Rattle.frame.proofs.Framing.{first_gate_lem, else_no_gate, row_gate, row_leaf, row_stays}
use Rattle.frame.proofs.rebuild.frame_row.Goals as goal

pub mapped-requires : goal.mapped-requires
mapped-requires c =
    let l = gate_below c.args.i _ _ (first_gate_lem c.args.from.now c.args.i c.requires.i_value.0 (omega (arith, c.if-a-lt-EDGES_END.true))) in
    omega (arith, l.0, c.requires.i_in_bounds.1)

pub mapped-requires-then-a-lt-EDGES_END : goal.mapped-requires-then-a-lt-EDGES_END
mapped-requires-then-a-lt-EDGES_END c =
    let l = gate_below c.args.i _ _ (first_gate_lem c.args.from.now c.args.i c.requires.i_value.0 (omega (arith, c.if-a-lt-EDGES_END.true))) in
    omega (arith, l.1, c.requires.i_in_bounds.1)

pub returns-then-a-lt-EDGES_END : goal.returns-then-a-lt-EDGES_END
returns-then-a-lt-EDGES_END c =
    let a = c.args in
    row_gate a.from.now a.i (frame a.rows.now a.at.used a.inputs.now a.at.inputs a.map.now)
    (first_gate_lem a.from.now a.i c.requires.i_value.0 (omega (arith, c.if-a-lt-EDGES_END.true))) c.mapped.ensures c.mapped-then-a-lt-EDGES_END.ensures _
    c.add_and-g.ensures

pub returns-then-map-i : goal.returns-then-map-i
returns-then-map-i c =
    let a = c.args in
    row_leaf a.from.now a.i (frame a.rows.now a.at.used a.inputs.now a.at.inputs a.map.now)
    (else_no_gate a.from.now a.i c.requires.i_value.1 (omega (arith, c.if-a-lt-EDGES_END.false))) c.if-map-i.true c.add_leaf.ensures.rows_after c.add_leaf.ensures.inputs_after

pub returns : goal.returns
returns c =
    let a = c.args in
    row_stays a.from.now a.i (frame a.rows.now a.at.used a.inputs.now a.at.inputs a.map.now)
    (else_no_gate a.from.now a.i c.requires.i_value.1 (omega (arith, c.if-a-lt-EDGES_END.false))) c.if-map-i.false
