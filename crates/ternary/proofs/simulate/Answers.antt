-- `ternary::simulate` meets its contract.
use native.Mathlib.Omega.{arith}
use mathlib.Core.Path.{refl, ap, ◌∙◌}
use Rattle.std.specs.Prelude.{Ok, Err}
use Rattle.edge.proofs.Answers.{handed_on, not_done}
use Rattle.graph.specs.Graph.{lent_of}
use Rattle.ternary.specs.Calls.{step_seen}
use Rattle.ternary.proofs.Answering.{step_refused, step_accepted, step_within, step_done, ready}
use Rattle.ternary.proofs.simulate.Goals as goal

pub returns-in_err-ternary_simulate : goal.returns-in_err-ternary_simulate
returns-in_err-ternary_simulate c =
    let f = c.in_err-ternary_simulate.field-0.0 in
    let a = c.args in
    ap (λ r. step_seen r a.state.now c.ternary_simulate.new.values c.ternary_simulate.new.marks) (handed_on _ _ c.from_residual.ensures.1) ∙
    step_refused (lent_of a.graph.now) a.input.now a.state.now a.values.now a.marks.now (Err f) _ _ c.in_err-ternary_simulate.ensures (not_done f)

pub advance-requires : goal.advance-requires
advance-requires c =
    let graph = lent_of c.args.graph.now in
    let a = c.args in
    let seen = c.in_ok-ternary_simulate.ensures in
    let r = ready graph a.input.now a.state.now a.values.now a.marks.now (step_accepted graph a.input.now a.state.now a.values.now a.marks.now (Ok tt) _ _ seen refl) in (
      r.latches_lent_lem,
      omega (arith, r.state_long),
      step_within graph a.input.now a.state.now a.values.now a.marks.now (Ok tt) _ _ seen refl,
    )

pub returns : goal.returns
returns c =
    let a = c.args in
    step_done (lent_of a.graph.now) a.input.now a.state.now a.values.now a.marks.now (Ok tt) _ _ c.in_ok-ternary_simulate.ensures refl _ c.advance.ensures
