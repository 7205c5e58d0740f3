-- `graph::Graph::check` meets its contract.
use mathlib.Core.Path.{sym, ◌∙◌}
use borrow.Author.Tests.{not-true, not-false}
use Rattle.graph.specs.Graph.{lent_of}
use Rattle.graph.proofs.Checked.{check_refused_lem, check_goes}
use Rattle.graph.proofs.Graph.check.Goals as goal

pub returns-then-not-sizes_right : goal.returns-then-not-sizes_right
returns-then-not-sizes_right c = check_refused_lem (lent_of c.args.self.now) c.args.marks.now (sym c.sizes_right.ensures ∙ not-true _ c.if-not-sizes_right.true-raw)

pub returns : goal.returns
returns c =
    check_goes (lent_of c.args.self.now) c.args.marks.now c.check_contents.result _ (sym c.sizes_right.ensures ∙ not-false _ c.if-not-sizes_right.false-raw) c.check_contents.ensures.result_value
    c.check_contents.ensures.marks_after
