-- `build_nodes::build_list` meets its contract.
use borrow.Author.Rules.{rules}
use Rattle.build_nodes.specs.Nodes.{list_call}
use Rattle.build_nodes.proofs.Calling.{list_total}
use Rattle.build_nodes.proofs.build_list.Goals as goal

pub returns : goal.returns
unfolding list_call
returns c =
    let a = c.args in
    c.build.ensures _ (list_total a.trivial a.or a.counts.rows a.edges.now) (λ p q r k. search rules)
