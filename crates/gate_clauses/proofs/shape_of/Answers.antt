-- `gate_clauses::shape_of` meets its contract.
use Rattle.gate_clauses.proofs.Recognising.{shape_off, shape_plain, shape_inner}
use Rattle.gate_clauses.proofs.shape_of.Goals as goal

pub returns-then-not-shortcuts : goal.returns-then-not-shortcuts
returns-then-not-shortcuts c = let a = c.args in shape_off a.shortcuts a.rows.now a.f a.g c.if-not-shortcuts.true-raw

pub returns-then-not-compl-is_gate : goal.returns-then-not-compl-is_gate
returns-then-not-compl-is_gate c =
    let a = c.args in
    shape_plain a.shortcuts a.rows.now a.f a.g c.compl.ensures c.is_gate.ensures c.compl-2.ensures
    c.is_gate-2.ensures c.if-not-compl-is_gate.true-raw

pub returns : goal.returns
returns c =
    let a = c.args in
    shape_inner a.shortcuts a.rows.now a.f a.g c.compl.ensures c.is_gate.ensures c.compl-2.ensures
    c.is_gate-2.ensures c.if-not-shortcuts.false-raw c.if-not-compl-is_gate.false-raw c.recognised.ensures
