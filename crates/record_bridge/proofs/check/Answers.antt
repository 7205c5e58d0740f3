-- `record_bridge::check` meets its contract.
use mathlib.Core.Path.{◌∙◌}
use Rattle.graph.specs.Graph.{lent_of}
use Rattle.records.specs.Checking.{check_with, check_refused}
use Rattle.record_bridge.proofs.Meaning.{not_full, one_full}
use Rattle.record_bridge.proofs.check.Goals as goal

pub returns-then-graph : goal.returns-then-graph
returns-then-graph c =
    let a = c.args in
    not_full (check_with (lent_of a.graph.now) a.marks.now) (check_refused a.marks.now) a.graph.now.latches.now a.words.now c.if-graph.true

pub returns : goal.returns
returns c =
    let a = c.args in
    c.check_through.ensures ∙ one_full (check_with (lent_of a.graph.now) a.marks.now) (check_refused a.marks.now) a.graph.now.latches.now a.words.now c.if-graph.false
