-- `root_marks::mark_edges` meets its contract.
use native.Mathlib.Omega.{arith}
use mathlib.Core.Path.{sym, ◌∙◌}
use lib.ListN.{length}
use borrow.Author.Tests.{ltb-true}
use Rattle.graph.specs.Leaves.{used_edge}
use Rattle.root_marks.proofs.Arguments.{every_at}
use Rattle.root_marks.proofs.Marking.{edges_turn, edges_end}
use Rattle.root_marks.proofs.mark_edges.Goals as goal

pub bounds-marks-row : goal.bounds-marks-row
bounds-marks-row c =
    omega (arith, c.loop-e.auto.marks, ltb-true _ _ (every_at (used_edge (length c.args.marks.now)) c.args.edges.now c.requires c.loop-e.e-index c.loop-e-test.true))

pub loop-e-preserved : goal.loop-e-preserved
loop-e-preserved c = sym (edges_turn _ _ _ c.loop-e-test.true) ∙ c.loop-e.invariant

pub returns : goal.returns
returns c = sym (edges_end c.args.edges.now c.loop-e.e-index _ (omega (arith, c.loop-e-test.false))) ∙ c.loop-e.invariant
