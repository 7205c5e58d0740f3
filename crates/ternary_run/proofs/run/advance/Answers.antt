-- `ternary_run::run::advance` meets its contract.
use Prim.Native.Nat.{ℕ}
use native.Mathlib.Omega.{arith}
use native.Mathlib.Nat.{le_antisymm}
use mathlib.Core.Path.{refl, ap, ◌∙◌}
use mathlib.Core.List.{List}
use lib.ListN.{set}
use Rattle.graph.specs.declared.latch.Latch.{Latch}
use Rattle.ternary_run.specs.Codes.{edge3}
use Rattle.ternary_run.specs.Run.{nexts}
use Rattle.ternary_run.proofs.Running.{nexts_turn}
use borrow.Author.Rules.{rules}
use Rattle.ternary_run.proofs.run.advance.Goals as goal

pub loop-i-init : goal.loop-i-init
unfolding nexts
loop-i-init c = (search rules, refl, refl)

pub edge_code-requires : goal.edge_code-requires
edge_code-requires c = rw (ap (λ (l : Latch). l.next) c.latch_at-l.ensures) (c.requires.2 c.loop-i.i c.loop-i-test.true)

pub loop-i-preserved : goal.loop-i-preserved
loop-i-preserved c = (
  search rules,
  search rules,
  ap (λ (l : List ℕ). set l c.loop-i.i c.edge_code.result) c.loop-i.invariant.2 ∙ nexts_turn c.args.latches.now
      c.args.values.now c.loop-i.i c.args.state.now (omega arith) c.edge_code.result
      (c.edge_code.ensures ∙ ap (λ (l : Latch). edge3 c.args.values.now l.next) c.latch_at-l.ensures),
)

pub returns : goal.returns
returns c = rw (le_antisymm c.loop-i.invariant.0 c.loop-i-test.false) at c.loop-i.invariant.2
