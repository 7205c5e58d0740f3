-- `ternary_run::codes::not3` meets its contract.
use native.Mathlib.Omega.{arith}
use mathlib.Core.Path.{◌≡◌, refl}
use borrow.Author.Tests.{ne_eqb}
use Rattle.ternary_run.specs.Codes.{not3}
use Rattle.ternary_run.proofs.codes.not3.Goals as goal

pub returns-in-0 : goal.returns-in-0
unfolding not3
returns-in-0 c = rw c.in-0.is refl

pub returns-in-1 : goal.returns-in-1
unfolding not3
returns-in-1 c = rw c.in-1.is refl

pub returns-in_default : goal.returns-in_default
unfolding not3
returns-in_default c =
    let not_1 : c.args.a ≡ 1 → ⊥ = omega arith in
    let not_0 : c.args.a ≡ 0 → ⊥ = omega arith in
    rw (ne_eqb _ _ not_1, ne_eqb _ _ not_0) refl
