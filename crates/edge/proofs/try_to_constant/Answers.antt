-- `edge::try_to_constant` meets its contract.
use native.Mathlib.Omega.{arith}
use mathlib.Core.Path.{◌≡◌, refl}
use borrow.Author.Tests.{ne_eqb}
use Rattle.edge.specs.Edges.{which_constant}
use Rattle.edge.proofs.try_to_constant.Goals as goal

pub returns-in-0 : goal.returns-in-0
unfolding which_constant
returns-in-0 c = rw c.in-0.is refl

pub returns-in-1 : goal.returns-in-1
unfolding which_constant
returns-in-1 c = rw c.in-1.is refl

pub returns-in_default : goal.returns-in_default
unfolding which_constant
returns-in_default c =
    let not_1 : c.args.e ≡ 1 → ⊥ = omega arith in
    let not_0 : c.args.e ≡ 0 → ⊥ = omega arith in
    rw (ne_eqb _ _ not_1, ne_eqb _ _ not_0) refl
