-- `ternary_run::run::place_latches` meets its contract.
use Prim.Native.Nat.{ℕ}
use native.Mathlib.Omega.{arith}
use native.Mathlib.Nat.{le_antisymm}
use mathlib.Core.Path.{refl, ap, ◌∙◌}
use mathlib.Core.List.{List}
use lib.ListN.{get_or, set}
use Rattle.graph.specs.declared.latch.Latch.{Latch}
use Rattle.ternary_run.specs.Run.{placed, latch_row}
use Rattle.ternary_run.proofs.Running.{placed_more}
use borrow.Author.Rules.{rules}
use Rattle.ternary_run.proofs.run.place_latches.Goals as goal

pub loop-i-init : goal.loop-i-init
unfolding placed
loop-i-init c = (refl, refl)

pub bounds-values-x : goal.bounds-values-x
bounds-values-x c = omega (arith, c.requires.1 c.loop-i.i c.loop-i-test.true, ap (λ (l : Latch). l.input) c.latch_at-x.ensures)

pub loop-i-preserved : goal.loop-i-preserved
loop-i-preserved c =
    let values = c.args.values.now in (
      search rules,
      ap (λ (l : Latch). set c.loop-i.values l.input (get_or c.args.state.now c.loop-i.i 0)) c.latch_at-x.ensures ∙
          (ap (λ (l : List ℕ). set l (latch_row c.args.latches.now c.loop-i.i) (get_or c.args.state.now c.loop-i.i 0)) c.loop-i.invariant.1 ∙ placed_more
          (latch_row c.args.latches.now) c.args.state.now c.loop-i.i values),
    )

pub returns : goal.returns
returns c = rw (le_antisymm c.loop-i.auto.i-end c.loop-i-test.false) at c.loop-i.invariant.1
