-- `graph::lists::check_edges` meets its contract.
use mathlib.Core.Path.{ap, ◌∙◌}
use lib.ListN.{length}
use Rattle.edge.specs.Answers.{number_of}
use Rattle.graph.specs.Leaves.{used_edge, good_edge}
use Rattle.graph.specs.Stages.{entry_found}
use Rattle.graph.proofs.Searching.{position_search}
use Rattle.graph.proofs.Stages.{entry_fault}
use Rattle.graph.proofs.lists.check_edges.Goals as goal

pub returns : goal.returns
returns c =
    let a = c.args in
    c.no_bad_entry.ensures ∙ ap (entry_found (number_of a.list)) (c.first_bad_edge.ensures ∙ position_search (used_edge a.used) a.edges.now) ∙
    entry_fault (number_of a.list) (length a.edges.now) (good_edge a.used a.edges.now)
