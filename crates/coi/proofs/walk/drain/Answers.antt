-- `coi::walk::drain` meets its contract.
use Prim.Native.Nat.{◌-◌}
use native.Mathlib.Omega.{arith}
use mathlib.Core.Path.{refl, sym, ◌∙◌}
use lib.ListN.{length}
use Rattle.coi.specs.Steps.{steps_by}
use Rattle.coi.proofs.Visiting.{stacked_long}
use Rattle.coi.proofs.Walking.{known_used, top_used, rest_going, turn_going, turn_falls, turn_same, drained_none}
use borrow.Author.Rules.{rules}
use Rattle.coi.proofs.walk.drain.Goals as goal

pub loop-count-init : goal.loop-count-init
loop-count-init c = (refl, refl, c.requires.going, refl)

pub offset_bounds-stack-count : goal.offset_bounds-stack-count
offset_bounds-stack-count c = omega (arith, c.loop-count.invariant.2.room, stacked_long c.loop-count.stack c.loop-count.count, c.loop-count.invariant.1)

pub bounds-stack-count : goal.bounds-stack-count
bounds-stack-count c = omega (arith, c.loop-count.invariant.2.room, stacked_long c.loop-count.stack c.loop-count.count, c.loop-count.invariant.1)

pub overflow_cast-i : goal.overflow_cast-i
overflow_cast-i c = omega (arith, c.type_inv.stack (c.loop-count.count - 1))

pub step-count-requires : goal.step-count-requires
step-count-requires c =
    rw (c.loop-count.invariant.0, c.loop-count.invariant.1) record {
      i_in_bounds = top_used _ _ _ _ _ c.loop-count-test.true c.loop-count.invariant.2;
      known = c.requires.known;
      going = rest_going _ _ _ _ _ c.loop-count-test.true c.loop-count.invariant.2;
    }

pub loop-count-smaller : goal.loop-count-smaller
loop-count-smaller c =
    omega (
      arith,
      turn_falls _ _ _ _ _ c.loop-count-test.true c.loop-count.invariant.2 (steps_by c.args.graph.now.rows.now c.args.graph.now.latches.now c.args.marks.now)
          (known_used c.args.graph.now.rows.now c.args.graph.now.latches.now c.args.marks.now (length c.args.flags.now) c.requires.known) _ _ _ c.step-count.ensures,
    )

pub loop-count-preserved : goal.loop-count-preserved
loop-count-preserved c = (
  search rules,
  search rules,
  turn_going _ _ _ _ _ c.loop-count-test.true c.loop-count.invariant.2 (steps_by c.args.graph.now.rows.now c.args.graph.now.latches.now c.args.marks.now)
      (known_used c.args.graph.now.rows.now c.args.graph.now.latches.now c.args.marks.now (length c.args.flags.now) c.requires.known) _ _ _ c.step-count.ensures,
  turn_same _ _ _ _ _ c.loop-count-test.true c.loop-count.invariant.2 (steps_by c.args.graph.now.rows.now c.args.graph.now.latches.now c.args.marks.now)
      (known_used c.args.graph.now.rows.now c.args.graph.now.latches.now c.args.marks.now (length c.args.flags.now) c.requires.known) _ _ _ c.step-count.ensures ∙ c.loop-count.invariant.3,
)

pub returns : goal.returns
returns c = sym (drained_none _ _ _ _ _ c.loop-count-test.false) ∙ c.loop-count.invariant.3
