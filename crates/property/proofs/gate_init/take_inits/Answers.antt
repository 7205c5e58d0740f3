-- `property::gate_init::take_inits` meets its contract.
use native.Mathlib.Omega.{arith}
use native.Mathlib.Nat.{le_antisymm}
use mathlib.Core.Path.{refl}
use Rattle.property.specs.GateInit.{inits_taken}
use Rattle.property.proofs.Initless.{inits_turn}
use borrow.Author.Rules.{rules}
use Rattle.property.proofs.gate_init.take_inits.Goals as goal

pub loop-j-init : goal.loop-j-init
unfolding inits_taken
loop-j-init c = (search rules, refl, refl)

pub latch_at-requires : goal.latch_at-requires
latch_at-requires c = omega (arith, c.requires, c.loop-j.invariant.1)

pub write_latch-requires : goal.write_latch-requires
write_latch-requires c = omega (arith, c.requires, c.loop-j.invariant.1)

pub loop-j-preserved : goal.loop-j-preserved
loop-j-preserved c = (
  search rules,
  search rules,
  inits_turn c.args.latches.now
      c.loop-j.j c.loop-j.invariant.2
      c.latch_at.ensures c.initless-l.ensures c.write_latch.ensures,
)

pub returns : goal.returns
returns c = rw (le_antisymm c.loop-j.invariant.0 c.loop-j-test.false) at c.loop-j.invariant.2
