-- `kept_rows::numbers::number` meets its contract.
use Rattle.graph.proofs.Counting.{count_small}
use Rattle.kept_rows.proofs.Numbering.{number_start, number_taken, number_left}
use native.Mathlib.Omega.{arith}
use mathlib.Core.Path.{◌∙◌}
use lib.Seq.{set-get_or}
use borrow.Author.Rules.{rules}
use Rattle.kept_rows.proofs.numbers.number.Goals as goal
use Rattle.kept_rows.proofs.numbers.number.Goals.{else-mark-eq1, then-mark-eq1}

pub loop-mark-init : goal.loop-mark-init
loop-mark-init c = (search rules, number_start c.args.marks.now)

pub overflow_cast-mark : goal.overflow_cast-mark
overflow_cast-mark c = omega (arith, count_small _ _ c.loop-mark.invariant.1.count, c.requires.marks_len_bound)

pub overflow_add-k : goal.overflow_add-k
overflow_add-k c = omega (arith, count_small _ _ c.loop-mark.invariant.1.count, c.requires.marks_len_bound)

pub loop-mark-preserved : goal.loop-mark-preserved
loop-mark-preserved c = (
  search rules,
  elim c.if-mark-eq1.branch [
    | then-mark-eq1 w ↦ number_taken c.args.marks.now c.loop-mark.mark-index c.loop-mark.invariant.1 w.if-mark-eq1.true w.marks-is w.k-is
    | else-mark-eq1 w ↦ number_left c.args.marks.now c.loop-mark.mark-index c.loop-mark.invariant.1 c.requires.flags w.if-mark-eq1.false (w.marks-is ∙ set-get_or _ _ _) w.k-is
  ],
)
