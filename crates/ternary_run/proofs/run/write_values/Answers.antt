-- `ternary_run::run::write_values` meets its contract.
use native.Mathlib.Omega.{arith}
use mathlib.Core.Path.{◌≡◌, sym, ap, ◌∙◌}
use lib.Seq.{length-take-le}
use Rattle.graph.specs.Graph.{lent_of}
use Rattle.ternary_run.specs.Run.{placed, input_row, latch_row}
use Rattle.ternary_run.proofs.Running.{inputs_within, inputs_placed, placed_codes, run_whole}
use Rattle.ternary_run.proofs.run.write_values.Goals as goal
use Rattle.ternary_run.proofs.run.write_values.Goals.{After-place_latches}

pub place_inputs-requires : goal.place_inputs-requires
place_inputs-requires c =
    let r = c.requires in
    let n = c.args.graph.now.counts.inputs in (
      length-take-le n _ r.inputs_lent ∙ sym r.input_long,
      inputs_within _ n r.inputs_lent (λ i l. omega (arith, r.input_rows i l, r.values_lent)),
    )

pub place_latches-requires : goal.place_latches-requires
place_latches-requires c =
    let r = c.requires in
    (omega (arith, r.latches_lent_lem, r.state_long), λ i l. omega (arith, r.latch_rows i (omega (arith, r.state_long)), r.values_lent))

-- the inputs and the latches are placed
inputs_are : (c : After-place_latches) →
    let g = lent_of c.args.graph.now in
    c.place_inputs.new.values ≡ placed (input_row g.inputs) c.args.input.now g.counts.inputs c.blank.new.values
inputs_are c = c.place_inputs.ensures ∙ inputs_placed _ _ c.requires.inputs_lent c.args.input.now c.blank.new.values

latches_are : (c : After-place_latches) →
    let g = lent_of c.args.graph.now in
    c.place_latches.new.values ≡ placed (latch_row g.latches) c.args.state.now g.counts.latches c.place_inputs.new.values
latches_are c =
    c.place_latches.ensures ∙ ap (λ n. placed (latch_row c.args.graph.now.latches.now) c.args.state.now n c.place_inputs.new.values) c.requires.state_long

pub settle-requires : goal.settle-requires
settle-requires c =
    let r = c.requires in
    let p = (goal.at.settle-requires c).After-place_latches in
    record { used_in_bounds = (r.rows_lent_lem, omega (arith, r.values_lent)); codes = placed_codes _ _ _ _ r _ _ _ c.blank.ensures (inputs_are p) (latches_are p) }

pub returns : goal.returns
returns c =
    let p = (goal.at.returns c).After-place_latches in
    c.settle.ensures ∙ run_whole _ _ _ _ c.requires _ _ _ c.blank.ensures (inputs_are p) (latches_are p)
