-- `graph::contents::first_bad_row` meets its contract.
use native.Mathlib.Nat.{sub-zero}
use mathlib.Core.Path.{sym, ◌∙◌}
use borrow.Author.Tests.{not-true, not-false}
use Rattle.graph.proofs.Searching.{stops, goes_on, ended}
use borrow.Author.Rules.{rules}
use Rattle.graph.proofs.contents.first_bad_row.Goals as goal

pub loop-i-init : goal.loop-i-init
loop-i-init c = (search rules, rw sub-zero)

pub returns-then-not-is_row : goal.returns-then-not-is_row
returns-then-not-is_row c = sym (c.loop-i.invariant.1 ∙ stops _ _ _ c.loop-i-test.true (sym c.is_row.ensures ∙ not-true _ c.if-not-is_row.true-raw))

pub loop-i-preserved : goal.loop-i-preserved
loop-i-preserved c = (search rules, c.loop-i.invariant.1 ∙ goes_on _ _ _ c.loop-i-test.true (sym c.is_row.ensures ∙ not-false _ c.if-not-is_row.false-raw))

pub returns : goal.returns
returns c = sym (c.loop-i.invariant.1 ∙ ended _ _ _ c.loop-i-test.false)
