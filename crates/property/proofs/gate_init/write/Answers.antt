-- `property::gate_init::write` meets its contract.
use native.Mathlib.Omega.{arith}
use mathlib.Core.Path.{ap, ◌∙◌}
use Rattle.graph.specs.Latches.{latch_set}
use Rattle.property.specs.GateInit.{part}
use Rattle.property.proofs.Constraining.{write_none, write_room, write_done}
use Rattle.property.proofs.gate_init.write.Goals as goal

pub any_gated-requires : goal.any_gated-requires
any_gated-requires c = omega (arith, c.requires.steps.has)

pub returns-then-not-any_gated : goal.returns-then-not-any_gated
returns-then-not-any_gated c =
    let given = part c.args.rows.now c.args.latches.now c.args.constraints.now c.args.counts in
    write_none given c.any_gated.ensures c.if-not-any_gated.true-raw

pub overflow_cast-new : goal.overflow_cast-new
overflow_cast-new c = omega (arith, c.requires.rows)

pub add_row-requires : goal.add_row-requires
add_row-requires c = omega (arith, c.requires.rows)

pub overflow_add-used : goal.overflow_add-used
overflow_add-used c = omega (arith, c.requires.rows)

pub gate_steps-gated-requires : goal.gate_steps-gated-requires
gate_steps-gated-requires c = c.requires.steps

pub take_inits-requires : goal.take_inits-requires
take_inits-requires c = omega (arith, c.requires.steps.has)

pub write_latch-requires : goal.write_latch-requires
write_latch-requires c =
    let given = part c.args.rows.now c.args.latches.now c.args.constraints.now c.args.counts in
    let r = write_room given c.any_gated.ensures c.if-not-any_gated.false-raw c.requires in
    omega (arith, r)

pub counted-requires : goal.counted-requires
counted-requires c = omega (arith, c.requires.steps.limited)

pub returns : goal.returns
returns c =
    let given = part c.args.rows.now c.args.latches.now c.args.constraints.now c.args.counts in
    write_done given c.any_gated.ensures c.if-not-any_gated.false-raw _ c.add_row.ensures c.gate_steps-gated.ensures
    c.take_inits.ensures (c.write_latch.ensures ∙ ap (latch_set _ _) c.latch_of.ensures) c.counted.ensures
