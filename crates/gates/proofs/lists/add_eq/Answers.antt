-- `gates::lists::add_eq` meets its contract.
use native.Mathlib.Omega.{arith}
use mathlib.Core.Path.{◌∙◌}
use Rattle.gates.proofs.Listing.{and_most, eq_most, eq_built}
use Rattle.gates.proofs.lists.add_eq.Goals as goal

pub add_and-y-requires : goal.add_and-y-requires
add_and-y-requires c =
    let m = and_most _ _ _ _ _ c.add_and-x.ensures in
    omega (arith, m, c.requires)

pub add_list-requires-clause-used_bound : goal.add_list-requires-clause-used_bound
add_list-requires-clause-used_bound c =
    let m = eq_most _ _ _ _ _ c.add_and-x.ensures c.not.ensures c.not-2.ensures _ c.add_and-y.ensures in
    omega (arith, m, c.requires)

pub returns : goal.returns
returns c = c.add_list.ensures ∙ eq_built _ _ _ _ _ c.add_and-x.ensures c.not.ensures c.not-2.ensures _ c.add_and-y.ensures
