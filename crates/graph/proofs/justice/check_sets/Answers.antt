-- `graph::justice::check_sets` meets its contract.
use native.Mathlib.Omega.{arith}
use native.Mathlib.Nat.{sub-zero, le_antisymm}
use mathlib.Core.Path.{refl, sym, ap, ◌∙◌}
use lib.ListN.{get_or}
use borrow.Author.Tests.{not-true, not-false}
use Rattle.edge.specs.Answers.{told}
use Rattle.graph.specs.Justice.{start}
use Rattle.graph.specs.Check.{set_stage}
use Rattle.graph.proofs.Searching.{stops, goes_on, ended}
use Rattle.graph.proofs.Stages.{stage_stops, stage_goes, none_left}
use Rattle.graph.proofs.Sets.{End, start_next, end_at, set_of_lem, covered}
use borrow.Author.Rules.{rules}
use Rattle.graph.proofs.justice.check_sets.Goals as goal
use Rattle.graph.proofs.justice.check_sets.Goals.{In-sets}

-- the end of the set is good
good_end : (c : In-sets) →
    End c.args.graph.now.counts.sets c.args.graph.now.counts.edges c.sets.s (start c.args.graph.now.ends.now c.sets.s) (get_or c.args.graph.now.ends.now c.sets.s 0)
good_end c = end_at c.args.graph.now.ends.now c.args.graph.now.counts.sets c.args.graph.now.counts.edges c.requires.ends c.sets.s c.sets-test.true

pub sets-init : goal.sets-init
sets-init c = (search rules, refl, refl, rw sub-zero)

pub overflow_cast-end : goal.overflow_cast-end
overflow_cast-end c = omega (arith, c.type_inv.ends c.sets.s)

pub loop-k-init : goal.loop-k-init
loop-k-init c = (search rules, omega (arith, (good_end (goal.at.loop-k-init c).In-sets).rises, c.sets.invariant.2), c.sets.invariant.1, c.sets.invariant.3)

pub bounds-edges-k : goal.bounds-edges-k
bounds-edges-k c = omega (arith, (good_end (goal.at.bounds-edges-k c).In-sets).within)

pub loop-k-preserved : goal.loop-k-preserved
loop-k-preserved c = (
  search rules,
  search rules,
  c.loop-k.invariant.2,
  c.loop-k.invariant.3 ∙ goes_on _ _ _ (omega (arith, (good_end (goal.at.loop-k-preserved c).In-sets).within)) (sym c.is_used.ensures ∙ not-false _ c.if-not-is_used.false-raw),
)

pub sets-preserved : goal.sets-preserved
sets-preserved c =
    let k = c.loop-k.invariant.3 in
    (search rules, c.loop-k.invariant.2, sym (start_next c.args.graph.now.ends.now c.sets.s), rw (← (le_antisymm c.loop-k.invariant.1 c.loop-k-test.false)) k)

pub returns-after-sets : goal.returns-after-sets
returns-after-sets c =
    let done = le_antisymm c.sets.invariant.0 c.sets-test.false in
    let all = c.sets.invariant.2 ∙ covered c.args.graph.now.ends.now c.args.graph.now.counts.sets c.args.graph.now.counts.edges c.requires.ends c.sets.s c.requires.sets done in
    ap told c.sets.invariant.1 ∙ sym (stage_goes _ _ (c.sets.invariant.3 ∙ ended _ _ _ (omega (arith, all))) ∙ none_left)

pub returns-then-not-is_used : goal.returns-then-not-is_used
returns-then-not-is_used c =
    let here = set_of_lem c.args.graph.now.ends.now c.args.graph.now.counts.sets c.args.graph.now.counts.edges c.requires.ends c.sets.s c.loop-k.k c.sets-test.true
    (omega (arith, c.sets.invariant.2)) c.loop-k-test.true in
    let first = c.loop-k.invariant.3 ∙ stops _ _ _ (omega (arith, (good_end (goal.at.returns-then-not-is_used c).In-sets).within))
    (sym c.is_used.ensures ∙ not-true _ c.if-not-is_used.true-raw) in
    sym
    (stage_stops (set_stage c.args.graph.now.counts.rows c.args.graph.now.ends.now c.args.graph.now.counts.sets c.args.graph.now.edges.now c.args.graph.now.counts.edges) _ first ∙ rw
    (here, ← c.sets.invariant.2, c.from.ensures) refl)
