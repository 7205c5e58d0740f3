-- `property::gate_init::add_constraint` meets its contract.
use native.Mathlib.Omega.{arith}
use mathlib.Core.Path.{◌∙◌}
use Rattle.gates.proofs.Listing.{and_most, eq_most, eq_built}
use Rattle.property.proofs.Gating.{or_most, constraint_built}
use Rattle.property.proofs.gate_init.add_constraint.Goals as goal

pub add_and-neither-requires : goal.add_and-neither-requires
add_and-neither-requires c =
    let m = and_most _ _ _ _ _ c.add_and-both.ensures in
    omega (arith, m, c.requires.few)

pub add_or-same-requires : goal.add_or-same-requires
add_or-same-requires c =
    let m = eq_most _ _ _ _ _ c.add_and-both.ensures c.not.ensures c.not-2.ensures _ c.add_and-neither.ensures in
    omega (arith, m, c.requires.few)

pub add_or-requires : goal.add_or-requires
add_or-requires c =
    let m = eq_most _ _ _ _ _ c.add_and-both.ensures c.not.ensures c.not-2.ensures _ c.add_and-neither.ensures in
    let n = or_most _ _ _ _ _ c.add_or-same.ensures in
    omega (arith, m, n, c.requires.few)

pub returns : goal.returns
returns c =
    c.add_or.ensures ∙ constraint_built _ _ _ c.args.l _
    (c.add_or-same.ensures ∙ eq_built _ _ _ _ _ c.add_and-both.ensures c.not.ensures c.not-2.ensures _ c.add_and-neither.ensures)
    c.not-3.ensures
