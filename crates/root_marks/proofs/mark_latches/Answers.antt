-- `root_marks::mark_latches` meets its contract.
use Rattle.root_marks.proofs.Roots.{latches_end, latch_good, latches_turn}
use mathlib.Core.Path.{refl, sym, ◌∙◌}
use lib.ListN.{length}
use Rattle.graph.specs.Leaves.{used_edge}
use Rattle.root_marks.specs.Marking.{mark_edges}
use Rattle.root_marks.specs.Roots.{latch_roots}
use borrow.Author.Rules.{rules}
use Rattle.root_marks.proofs.mark_latches.Goals as goal

pub loop-i-init : goal.loop-i-init
unfolding latch_roots mark_edges
loop-i-init c = (search rules, refl, refl)

pub mark_latch-requires : goal.mark_latch-requires
mark_latch-requires c =
    rw (c.latch_at.ensures, c.loop-i.invariant.1)
    (latch_good (used_edge (length c.args.marks.now)) c.args.latches.now c.args.n c.loop-i.i c.requires.n_value
    c.loop-i-test.true)

pub loop-i-preserved : goal.loop-i-preserved
loop-i-preserved c = (
  search rules,
  search rules,
  c.mark_latch.ensures ∙
      (rw (c.latch_at.ensures, c.loop-i.invariant.2) (sym (latches_turn _ _ _))),
)

pub returns : goal.returns
returns c = latches_end _ _ _ _ c.loop-i.invariant.0 c.loop-i-test.false c.loop-i.invariant.2
