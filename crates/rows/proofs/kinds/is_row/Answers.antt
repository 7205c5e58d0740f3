-- `rows::kinds::is_row` meets its contract.
use mathlib.Core.Path.{sym, ◌∙◌}
use borrow.Author.Tests.{lt-ltb, le-ltb}
use Rattle.rows.specs.Rows.{is_row, is_false_row, is_leaf}
use Rattle.rows.proofs.Laws.{gate_by_larger, gate_first, gate_else}
use Rattle.rows.proofs.kinds.is_row.Goals as goal

pub returns-then-larger-i : goal.returns-then-larger-i
unfolding is_row
returns-then-larger-i c =
    let a = c.args in
    rw (gate_by_larger a.i a.a a.b c.larger.ensures ∙ lt-ltb _ _ c.if-larger-i.true) (sym (gate_first (is_false_row a.i a.a a.b) (is_leaf a.i a.a a.b)))

pub returns : goal.returns
unfolding is_row
returns c =
    let a = c.args in
    rw (c.is_false_row.ensures, c.is_leaf.ensures, gate_by_larger a.i a.a a.b c.larger.ensures ∙ le-ltb _ _ c.if-larger-i.false)
    (sym (gate_else (is_false_row a.i a.a a.b) (is_leaf a.i a.a a.b)))
