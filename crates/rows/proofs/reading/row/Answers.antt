-- `rows::reading::row` meets its contract.
use native.Mathlib.Omega.{arith}
use mathlib.Core.Path.{sym, ◌∙◌}
use borrow.Author.Tests.{lt-ltb, le-ltb, not-true, not-false}
use Rattle.rows.specs.Reading.{row_read}
use Rattle.rows.proofs.Laws.{rows_fit_lem}
use Rattle.rows.proofs.reading.row.Goals as goal

pub returns-then-not-rows_fit-clause-answer : goal.returns-then-not-rows_fit-clause-answer
unfolding row_read
returns-then-not-rows_fit-clause-answer c = rw (sym c.rows_fit.ensures ∙ not-true _ c.if-not-rows_fit.true-raw)

pub returns-then-used-i-clause-answer : goal.returns-then-used-i-clause-answer
unfolding row_read
returns-then-used-i-clause-answer c = rw (sym c.rows_fit.ensures ∙ not-false _ c.if-not-rows_fit.false-raw, le-ltb _ _ c.if-used-i.true)

pub bounds-rows-i : goal.bounds-rows-i
bounds-rows-i c =
    let fit = rows_fit_lem c.args.used c.args.rows.now (sym c.rows_fit.ensures ∙ not-false _ c.if-not-rows_fit.false-raw) in
    omega (arith, fit.fit.within, c.if-used-i.false)

pub bounds-rows-i-2 : goal.bounds-rows-i-2
bounds-rows-i-2 c =
    let fit = rows_fit_lem c.args.used c.args.rows.now (sym c.rows_fit.ensures ∙ not-false _ c.if-not-rows_fit.false-raw) in
    omega (arith, fit.fit.within, c.if-used-i.false)

pub returns-clause-answer : goal.returns-clause-answer
unfolding row_read
returns-clause-answer c = rw (sym c.rows_fit.ensures ∙ not-false _ c.if-not-rows_fit.false-raw, lt-ltb _ _ c.if-used-i.false)
