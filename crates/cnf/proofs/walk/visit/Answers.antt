-- `cnf::walk::visit` meets its contract.
use native.Mathlib.Omega.{arith}
use mathlib.Core.Path.{refl, ◌∙◌}
use Rattle.rows.specs.Rows.{word0, word1}
use Rattle.rows.proofs.Laws.{gate_below}
use Rattle.gate_clauses.specs.declared.Shape.TheVariants.{Unwritten}
use Rattle.cnf.proofs.Walking.{no_operands, mark_none, row_passed, row_gate, row_written, row_low}
use Rattle.cnf.proofs.walk.visit.Goals as goal

pub returns-then-not-marks-i : goal.returns-then-not-marks-i
returns-then-not-marks-i c =
    let a = c.args in
    record { shape = row_passed a.shortcuts a.rows.now a.i a.marks.now c.is_gate.ensures c.if-not-marks-i.true-raw; marked = mark_none a.marks.now _ (no_operands Unwritten refl) }

pub shape_of-s-requires : goal.shape_of-s-requires
shape_of-s-requires c =
    let a = c.args in
    let h = gate_below a.i (word0 a.rows.now a.i) (word1 a.rows.now a.i) (row_gate a.shortcuts a.rows.now a.i a.marks.now c.is_gate.ensures c.if-not-marks-i.false-raw) in
    record { f_in_bounds = omega (arith, c.requires.i_in_bounds); g_in_bounds = omega (arith, c.requires.i_in_bounds) }

pub returns : goal.returns
returns c =
    let a = c.args in
    record { shape = c.shape_of-s.ensures ∙ row_written a.shortcuts a.rows.now a.i a.marks.now c.is_gate.ensures c.if-not-marks-i.false-raw; marked = c.mark_operands.ensures }

pub mark_operands-requires : goal.mark_operands-requires
mark_operands-requires c =
    let a = c.args in
    rw c.shape_of-s.ensures
    (row_low a.shortcuts a.rows.now a.i a.marks.now c.is_gate.ensures c.if-not-marks-i.false-raw c.requires.i_in_bounds_2)
