-- `property::gate_init::any_gated` meets its contract.
use native.Mathlib.Omega.{arith}
use native.Mathlib.Nat.{le_antisymm}
use mathlib.Core.Path.{sym}
use Rattle.property.proofs.Gating.{any_start, any_turn, any_found}
use borrow.Author.Rules.{rules}
use Rattle.property.proofs.gate_init.any_gated.Goals as goal

pub loop-j-init : goal.loop-j-init
loop-j-init c = (search rules, any_start c.args.latches.now)

pub latch_at-requires : goal.latch_at-requires
latch_at-requires c = omega (arith, c.requires)

pub returns-then-is_gated : goal.returns-then-is_gated
returns-then-is_gated c =
    let a = c.args in
    sym
    (any_found a.latches.now a.n c.loop-j.j c.loop-j-test.true c.latch_at.ensures c.is_gated.ensures
    c.if-is_gated.true)

pub loop-j-preserved : goal.loop-j-preserved
loop-j-preserved c =
    let l = c.loop-j in (
      search rules,
      any_turn c.args.latches.now l.j l.invariant.1 c.latch_at.ensures c.is_gated.ensures c.if-is_gated.false,
    )

pub returns : goal.returns
returns c = sym (rw (le_antisymm c.loop-j.invariant.0 c.loop-j-test.false) at c.loop-j.invariant.1)
