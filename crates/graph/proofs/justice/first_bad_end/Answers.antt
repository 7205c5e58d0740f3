-- `graph::justice::first_bad_end` meets its contract.
use native.Mathlib.Omega.{arith}
use native.Mathlib.Nat.{sub-zero}
use mathlib.Core.Path.{◌≡◌, refl, sym, ◌∙◌}
use borrow.Author.Tests.{not-true, not-false}
use Rattle.graph.specs.Justice.{good_end}
use Rattle.graph.proofs.Searching.{stops, goes_on, ended}
use Rattle.graph.proofs.Sets.{start_next}
use borrow.Author.Rules.{rules}
use Rattle.graph.proofs.justice.first_bad_end.Goals as goal
use Rattle.graph.proofs.justice.first_bad_end.Goals.{After-is_end}

-- the test is of the end before
judged : (c : After-is_end) →
    c.is_end.result ≡ good_end c.args.ends.now c.args.sets c.args.edges c.loop-s.s
judged c = rw (← c.loop-s.invariant.1) c.is_end.ensures

pub loop-s-init : goal.loop-s-init
loop-s-init c = (search rules, refl, rw sub-zero)

pub overflow_cast-end : goal.overflow_cast-end
overflow_cast-end c = omega (arith, c.type_inv.ends c.loop-s.s)

pub returns-then-not-is_end : goal.returns-then-not-is_end
returns-then-not-is_end c = sym (c.loop-s.invariant.2 ∙ stops _ _ _ c.loop-s-test.true (sym (judged (goal.at.returns-then-not-is_end c).After-is_end) ∙ not-true _ c.if-not-is_end.true-raw))

pub loop-s-preserved : goal.loop-s-preserved
loop-s-preserved c = (
  search rules,
  sym (start_next c.args.ends.now c.loop-s.s),
  c.loop-s.invariant.2 ∙ goes_on _ _ _ c.loop-s-test.true (sym (judged (goal.at.loop-s-preserved c).After-is_end) ∙ not-false _ c.if-not-is_end.false-raw),
)

pub returns : goal.returns
returns c = sym (c.loop-s.invariant.2 ∙ ended _ _ _ c.loop-s-test.false)
