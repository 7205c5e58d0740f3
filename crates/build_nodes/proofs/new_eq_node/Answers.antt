-- `build_nodes::new_eq_node` meets its contract.
use borrow.Author.Rules.{rules}
use Rattle.build_nodes.specs.Nodes.{eq_call}
use Rattle.build_nodes.proofs.Calling.{eq_total}
use Rattle.build_nodes.proofs.new_eq_node.Goals as goal

pub returns : goal.returns
unfolding eq_call
returns c =
    let a = c.args in
    c.build.ensures _ (eq_total a.counts.rows a.a a.b) (λ p q r k. search rules)
