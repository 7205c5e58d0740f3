-- `reencode::gate_rows::rebuild_gate` meets its contract.
use mathlib.Core.Path.{sym, ◌∙◌}
use Rattle.renumber.specs.Renumber.{by}
use Rattle.reencode.proofs.Turning.{gate_mapped, gate_passed, gate_rebuilt}
use Rattle.reencode.proofs.gate_rows.rebuild_gate.Goals as goal

pub returns-then-not-is_gate-clause-out_after : goal.returns-then-not-is_gate-clause-out_after
returns-then-not-is_gate-clause-out_after c =
    gate_passed c.args.rows.now c.args.i (by c.args.marks.now) c.args.k c.args.out.now (sym c.is_gate.ensures ∙ c.if-not-is_gate.true)

pub renamed_edge-x-requires : goal.renamed_edge-x-requires
renamed_edge-x-requires c = (gate_mapped c.args.rows.now c.args.i (sym c.is_gate.ensures ∙ c.if-not-is_gate.false) c.args.marks.now c.requires.small c.requires.known).0

pub renamed_edge-y-requires : goal.renamed_edge-y-requires
renamed_edge-y-requires c = (gate_mapped c.args.rows.now c.args.i (sym c.is_gate.ensures ∙ c.if-not-is_gate.false) c.args.marks.now c.requires.small c.requires.known).1

pub returns-clause-value : goal.returns-clause-value
returns-clause-value c =
    (gate_rebuilt c.args.rows.now c.args.i (by c.args.marks.now) c.args.k c.args.out.now (sym c.is_gate.ensures ∙ c.if-not-is_gate.false) c.renamed_edge-x.ensures
    c.renamed_edge-y.ensures c.add_gate-grown.ensures).0

pub returns-clause-out_after : goal.returns-clause-out_after
returns-clause-out_after c =
    (gate_rebuilt c.args.rows.now c.args.i (by c.args.marks.now) c.args.k c.args.out.now (sym c.is_gate.ensures ∙ c.if-not-is_gate.false) c.renamed_edge-x.ensures
    c.renamed_edge-y.ensures c.add_gate-grown.ensures).1
