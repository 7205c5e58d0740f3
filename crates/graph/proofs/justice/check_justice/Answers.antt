-- `graph::justice::check_justice` meets its contract.
use mathlib.Core.Path.{sym, ap, ◌∙◌}
use Rattle.edge.specs.Answers.{told}
use Rattle.edge.proofs.Answers.{handed_on}
use Rattle.graph.specs.Stages.{entry_found}
use Rattle.graph.proofs.Stages.{entries_stop, entries_go, none_found}
use Rattle.graph.proofs.Sets.{no_sets, some_sets}
use Rattle.graph.proofs.justice.check_justice.Goals as goal

pub returns-then-counts-eq0 : goal.returns-then-counts-eq0
returns-then-counts-eq0 c =
    let a = c.args in
    c.no_bad_entry.ensures ∙ ap (entry_found 6) c.then_some.ensures ∙ no_sets a.graph.now.counts.rows a.graph.now.ends.now a.graph.now.counts.sets a.graph.now.edges.now
    a.graph.now.counts.edges c.if-counts-eq0.true

pub check_sets-requires-clause-ends : goal.check_sets-requires-clause-ends
check_sets-requires-clause-ends c = sym c.first_bad_end-first_bad.ensures ∙ none_found 6 _ c.in_ok-no_bad_entry.ensures

pub returns-in_err-no_bad_entry : goal.returns-in_err-no_bad_entry
returns-in_err-no_bad_entry c =
    let a = c.args in
    ap told (handed_on _ _ c.from_residual.ensures.1) ∙ entries_stop 6 _ _ _ c.first_bad_end-first_bad.ensures _ c.in_err-no_bad_entry.ensures ∙
    sym (some_sets a.graph.now.counts.rows a.graph.now.ends.now a.graph.now.counts.sets a.graph.now.edges.now a.graph.now.counts.edges c.if-counts-eq0.false)

pub returns : goal.returns
returns c =
    let a = c.args in
    c.check_sets.ensures ∙ sym
    (some_sets a.graph.now.counts.rows a.graph.now.ends.now a.graph.now.counts.sets a.graph.now.edges.now a.graph.now.counts.edges c.if-counts-eq0.false ∙ entries_go 6 _ _ _
    c.first_bad_end-first_bad.ensures c.in_ok-no_bad_entry.ensures)
