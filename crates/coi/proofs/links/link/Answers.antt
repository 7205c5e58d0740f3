-- `coi::links::link` meets its contract.
use native.Mathlib.Omega.{arith}
use native.Mathlib.Nat.{le_antisymm}
use mathlib.Core.Path.{refl, ap}
use lib.ListN.{length}
use Rattle.graph.specs.declared.latch.Latch.{Latch}
use Rattle.coi.proofs.Linking.{links_none, links_more}
use borrow.Author.Rules.{rules}
use Rattle.coi.proofs.links.link.Goals as goal

pub loop-k-init : goal.loop-k-init
loop-k-init c = (refl, links_none _ c.args.marks.now (length c.args.marks.now) c.requires.marks_value)

pub latch_at-x-requires : goal.latch_at-x-requires
latch_at-x-requires c = omega (arith, c.requires.latches_known.long)

pub overflow_add-marks : goal.overflow_add-marks
overflow_add-marks c = omega (arith, c.requires.latches_known.few)

pub overflow_cast-marks : goal.overflow_cast-marks
overflow_cast-marks c = omega (arith, c.requires.latches_known.few)

pub bounds-marks-x : goal.bounds-marks-x
bounds-marks-x c = omega (arith, c.requires.latches_known.inputs_used c.loop-k.k c.loop-k-test.true, ap (λ (l : Latch). l.input) c.latch_at-x.ensures)

pub loop-k-preserved : goal.loop-k-preserved
loop-k-preserved c = (
  search rules,
  links_more _ _ _ _ (ap (λ (l : Latch). l.input) c.latch_at-x.ensures)
      (omega (arith, c.requires.latches_known.inputs_used c.loop-k.k c.loop-k-test.true, ap (λ (l : Latch). l.input) c.latch_at-x.ensures))
      c.loop-k.invariant.1,
)

pub returns : goal.returns
returns c = rw (le_antisymm c.loop-k.auto.k-end c.loop-k-test.false) at c.loop-k.invariant.1
