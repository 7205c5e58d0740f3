-- `root_marks::mark_latch` meets its contract.
use borrow.Author.Tests.{eq-eqb, ne_eqb, ltb-true}
use lib.ListN.{length, length-set}
use Rattle.graph.specs.Leaves.{used_edge}
use Rattle.root_marks.proofs.Roots.{next_good, init_good, latch_without, latch_with}
use Rattle.root_marks.proofs.mark_latch.Goals as goal

pub bounds-marks-x : goal.bounds-marks-x
bounds-marks-x c = ltb-true _ _ (next_good c.args.l (used_edge (length c.args.marks.now)) c.requires)

pub returns-then-l-eq-NONE : goal.returns-then-l-eq-NONE
returns-then-l-eq-NONE c = latch_without c.args.l _ (eq-eqb _ _ c.if-l-eq-NONE.true)

pub bounds-marks-y : goal.bounds-marks-y
bounds-marks-y c = rw length-set (ltb-true _ _ (init_good c.args.l (used_edge (length c.args.marks.now)) c.requires (ne_eqb _ _ c.if-l-eq-NONE.false)))

pub returns : goal.returns
returns c = latch_with c.args.l _ (ne_eqb _ _ c.if-l-eq-NONE.false)
