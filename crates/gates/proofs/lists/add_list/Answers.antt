-- `gates::lists::add_list` meets its contract.
use native.Mathlib.Omega.{arith}
use Rattle.gates.specs.Gates.{state_of}
use Rattle.gates.proofs.Listing.{none_built, first_built, next_built, last_built, next_sized}
use borrow.Author.Rules.{rules}
use Rattle.gates.proofs.lists.add_list.Goals as goal

pub returns-in_default : goal.returns-in_default
returns-in_default c = none_built _ _ _ _ c.args.edges.now c.in_default.ensures.cases c.not_if.ensures

pub loop-e-init : goal.loop-e-init
loop-e-init c = (search rules, first_built _ _ _ _ _ c.in-Some.ensures.cases.0 c.not_if-2.ensures)

pub loop-e-preserved : goal.loop-e-preserved
loop-e-preserved c =
    let l = c.loop-e in
    let a = c.args in
    let s = state_of l.rows l.grown in
    let m = next_sized a.trivial s _ _ c.add_step-grown.ensures in (
      omega (arith, m.most, l.invariant.0),
      next_built a.trivial a.or _ _ a.edges.now _ l.e-index s l.invariant.1 c.loop-e-test.true c.not_if-in-loop-e.ensures _ c.add_step-grown.ensures,
    )

pub returns : goal.returns
returns c =
    let l = c.loop-e in
    last_built c.args.trivial c.args.or _ _ c.args.edges.now _ l.e-index (state_of l.rows l.grown) l.invariant.1 c.loop-e-test.false c.not_if-3.ensures
