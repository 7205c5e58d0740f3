-- `renumber::write_latches` meets its contract.
use native.Mathlib.Omega.{arith}
use native.Mathlib.Nat.{le_antisymm}
use mathlib.Core.Path.{refl}
use Rattle.renumber.specs.Renumber.{latches_written, by}
use Rattle.renumber.proofs.Writing.{latches_turn}
use borrow.Author.Rules.{rules}
use Rattle.renumber.proofs.write_latches.Goals as goal

pub loop-j-init : goal.loop-j-init
unfolding latches_written
loop-j-init c = (search rules, refl, refl)

pub latch_at-requires : goal.latch_at-requires
latch_at-requires c = omega (arith, c.requires.has)

pub renamed_latch-l-requires : goal.renamed_latch-l-requires
renamed_latch-l-requires c = rw c.latch_at.ensures (c.requires.mapped c.loop-j.j c.loop-j-test.true)

pub write_latch-requires : goal.write_latch-requires
write_latch-requires c = omega (arith, c.requires.room, c.loop-j.invariant.1)

pub loop-j-preserved : goal.loop-j-preserved
loop-j-preserved c = (
  search rules,
  search rules,
  latches_turn (by c.args.map.now)
      c.args.out.now
      c.args.at
      c.args.latches.now c.loop-j.j
      c.loop-j.invariant.2 c.latch_at.ensures
      c.renamed_latch-l.ensures c.write_latch.ensures,
)

pub returns : goal.returns
returns c = rw (le_antisymm c.loop-j.invariant.0 c.loop-j-test.false) at c.loop-j.invariant.2
