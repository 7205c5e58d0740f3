-- `reencode::leaves::write_leaves` meets its contract.
use native.Mathlib.Nat.{le_antisymm}
use Rattle.reencode.specs.Rebuilding.{leaves_added}
use Rattle.reencode.proofs.Turning.{leaves_turn}
use borrow.Author.Rules.{rules}
use Rattle.reencode.proofs.leaves.write_leaves.Goals as goal

pub loop-i-preserved : goal.loop-i-preserved
loop-i-preserved c = (search rules, λ start e. leaves_turn start c.loop-i.i (c.loop-i.invariant.1 start e) c.add_row-in-loop-i.ensures)

pub returns : goal.returns
unfolding leaves_added
returns c = rw (le_antisymm c.loop-i.invariant.0 c.loop-i-test.false) at (c.loop-i.invariant.1 c.args.out.now c.add_row.ensures)
