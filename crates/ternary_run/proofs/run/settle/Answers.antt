-- `ternary_run::run::settle` meets its contract.
use native.Mathlib.Omega.{arith}
use native.Mathlib.Nat.{le_antisymm}
use mathlib.Core.Path.{refl}
use Rattle.ternary_run.specs.Run.{rows3}
use Rattle.ternary_run.proofs.Running.{turn_codes, turn}
use borrow.Author.Rules.{rules}
use Rattle.ternary_run.proofs.run.settle.Goals as goal

pub loop-i-init : goal.loop-i-init
unfolding rows3
loop-i-init c = (search rules, refl, refl)

pub row_code-v-requires : goal.row_code-v-requires
row_code-v-requires c = record { i_in_bounds = (search rules, search rules); codes = turn_codes _ _ _ c.args.values.now (omega arith) _ c.loop-i.invariant.2 (λ j h. c.requires.codes j (omega arith)) }

pub loop-i-preserved : goal.loop-i-preserved
loop-i-preserved c = (search rules, search rules, turn _ _ _ c.args.values.now (omega arith) _ c.loop-i.invariant.2 refl _ c.row_code-v.ensures)

pub returns : goal.returns
returns c = rw (le_antisymm c.loop-i.invariant.0 c.loop-i-test.false) at c.loop-i.invariant.2
