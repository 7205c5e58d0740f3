-- `property::gate_init::gate_steps` meets its contract.
use native.Mathlib.Omega.{arith}
use native.Mathlib.Nat.{le_antisymm}
use mathlib.Core.Path.{refl, ◌∙◌}
use Rattle.property.specs.GateInit.{gating, gate_steps}
use Rattle.property.proofs.Gating.{steps_turn, turn_bounded}
use borrow.Author.Rules.{rules}
use Rattle.property.proofs.gate_init.gate_steps.Goals as goal

pub loop-j-init : goal.loop-j-init
unfolding gate_steps
loop-j-init c = (search rules, search rules, search rules, refl, refl, refl)

pub latch_at-requires : goal.latch_at-requires
latch_at-requires c = omega (arith, c.requires.has)

pub gate_step-next-requires : goal.gate_step-next-requires
gate_step-next-requires c =
    let p = c.requires in
    record {
      constraint = record
          { few = omega (arith, p.few, p.limited); row = p.row; input = rw c.latch_at.ensures (p.inputs c.loop-j.j c.loop-j-test.true) };
      more = omega (arith, p.more, p.limited);
    }

pub loop-j-preserved : goal.loop-j-preserved
loop-j-preserved c =
    let a = c.args in
    let l = c.loop-j in
    let s = gating l.rows l.at l.constraints l.k in
    let b = turn_bounded a.new s _ _ c.gate_step-next.ensures in (
      search rules,
      omega (arith, b.most, l.invariant.1),
      omega (arith, b.few, l.invariant.2),
      b.long ∙ l.invariant.3,
      b.listed ∙ l.invariant.4,
      steps_turn a.new a.latches.now (gating a.rows.now a.used a.constraints.now a.count) l.j l.invariant.5
          c.latch_at.ensures c.gate_step-next.ensures,
    )

pub returns : goal.returns
returns c = rw (le_antisymm c.loop-j.invariant.0 c.loop-j-test.false) at c.loop-j.invariant.5
