-- `cone::below::mark_row` meets its contract.
use native.Mathlib.Omega.{arith}
use lib.ListN.{get_or}
use mathlib.Core.Bool.{true, ◌&&◌}
use mathlib.Core.Path.{◌≡◌, sym, ◌∙◌}
use lib.Dec.{eqb}
use borrow.Author.Tests.{not-true, not-false}
use Rattle.rows.specs.Rows.{gate_at, word0, word1}
use Rattle.cone.proofs.Marking.{row_stays, row_marks, test_below, two_used}
use Rattle.cone.proofs.below.mark_row.Goals as goal
use Rattle.cone.proofs.below.mark_row.Goals.{Else-not-flags-i}

-- row i is flagged and is a gate
tested : (c : Else-not-flags-i) →
    eqb (get_or c.args.flags.now c.args.i 0) 1 && gate_at c.args.rows.now c.args.i ≡ true
tested c = rw (← c.is_gate.ensures) (not-false _ c.if-not-flags-i.false-raw)

pub returns-then-not-flags-i : goal.returns-then-not-flags-i
returns-then-not-flags-i c = sym (row_stays c.args.rows.now c.args.i c.args.flags.now (rw (← c.is_gate.ensures) (not-true _ c.if-not-flags-i.true-raw)))

pub mark_edges-requires : goal.mark_edges-requires
mark_edges-requires c =
    let low = test_below (get_or c.args.flags.now c.args.i 0) c.args.i (word0 c.args.rows.now c.args.i) (word1 c.args.rows.now c.args.i)
    (tested (goal.at.mark_edges-requires c).Else-not-flags-i) in
    two_used _ _ _ (omega (arith, low, c.requires.i_in_bounds_2)) (omega (arith, low, c.requires.i_in_bounds_2))

pub returns : goal.returns
returns c = c.mark_edges.ensures ∙ sym (row_marks c.args.rows.now c.args.i c.args.flags.now (tested (goal.at.returns c).Else-not-flags-i))
