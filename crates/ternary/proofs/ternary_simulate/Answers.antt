-- `ternary::ternary_simulate` meets its contract.
use mathlib.Core.Path.{refl, sym, ap, ◌∙◌}
use borrow.Author.Tests.{not-true, not-false}
use Rattle.std.specs.Prelude.{Ok, Err}
use Rattle.edge.proofs.Answers.{handed_on, not_done}
use Rattle.graph.specs.Graph.{lent_of}
use Rattle.ternary.specs.Calls.{run_seen}
use Rattle.ternary.proofs.Answering.{run_short, run_refused, run_argument, run_done, run_accepted, ready}
use Rattle.ternary.proofs.ternary_simulate.Goals as goal

pub returns-then-values-graph : goal.returns-then-values-graph
returns-then-values-graph c = run_short (lent_of c.args.graph.now) c.args.input.now c.args.state.now c.args.values.now c.args.marks.now c.if-values-graph.true

pub returns-in_err-check : goal.returns-in_err-check
returns-in_err-check c =
    let f = c.in_err-check.field-0.0 in
    ap (λ r. run_seen r c.args.values.now c.check.new.marks) (handed_on _ _ c.from_residual.ensures.1) ∙
    run_refused (lent_of c.args.graph.now) c.args.input.now c.args.state.now c.args.values.now c.args.marks.now c.if-values-graph.false (Err f) _ c.in_err-check.ensures (not_done f)

pub returns-then-not-arguments : goal.returns-then-not-arguments
returns-then-not-arguments c =
    run_argument (lent_of c.args.graph.now) c.args.input.now c.args.state.now c.args.values.now c.args.marks.now c.if-values-graph.false (Ok tt) _ c.in_ok-check.ensures refl
    (sym c.arguments.ensures ∙ not-true _ c.if-not-arguments.true-raw)

pub write_values-requires : goal.write_values-requires
write_values-requires c =
    let graph = lent_of c.args.graph.now in
    let a = c.args in
    ready graph a.input.now a.state.now a.values.now a.marks.now
    (run_accepted graph a.input.now a.state.now a.values.now a.marks.now c.if-values-graph.false (Ok tt) _ c.in_ok-check.ensures refl
    (sym c.arguments.ensures ∙ not-false _ c.if-not-arguments.false-raw))

pub returns : goal.returns
returns c =
    run_done (lent_of c.args.graph.now) c.args.input.now c.args.state.now c.args.values.now c.args.marks.now c.if-values-graph.false (Ok tt) _ c.in_ok-check.ensures refl
    (sym c.arguments.ensures ∙ not-false _ c.if-not-arguments.false-raw) _ c.write_values.ensures
