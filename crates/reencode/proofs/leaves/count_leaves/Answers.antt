-- `reencode::leaves::count_leaves` meets its contract.
use native.Mathlib.Omega.{arith}
use mathlib.Core.Path.{refl}
use Rattle.rows.specs.Rows.{leaf_at}
use Rattle.graph.specs.Count.{count_below}
use Rattle.reencode.proofs.Leaving.{none_leaf, else_no_leaf}
use Rattle.graph.proofs.Counting.{count_within, count_taken, count_left}
use borrow.Author.Rules.{rules}
use Rattle.reencode.proofs.leaves.count_leaves.Goals as goal
use Rattle.reencode.proofs.leaves.count_leaves.Goals.{else-rows-i, then-rows-i}

pub loop-i-init : goal.loop-i-init
unfolding count_below
loop-i-init c = (search rules, refl)

pub overflow_add-n : goal.overflow_add-n
overflow_add-n c = omega (arith, c.loop-i.invariant.1, count_within (leaf_at c.args.rows.now) c.loop-i.i)

pub loop-i-preserved : goal.loop-i-preserved
loop-i-preserved c =
    let a = c.args in
    let l = c.loop-i in
    let leaf = leaf_at a.rows.now in (
      search rules,
      elim c.if-rows-i.branch [
        | then-rows-i w ↦ count_taken leaf l.i l.invariant.1 (none_leaf a.rows.now a.used l.i c.requires.used_le_max_rows c.requires.all_rows c.loop-i-test.true w.if-rows-i.true) w.n-is
        | else-rows-i w ↦ count_left leaf l.i l.invariant.1 (else_no_leaf a.rows.now l.i w.if-rows-i.false) w.n-is
      ],
    )
