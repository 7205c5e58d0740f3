-- `graph::leaves::latch_edges` meets its contract.
use Rattle.graph.specs.Leaves.{latch_edges}
use Rattle.graph.proofs.leaves.latch_edges.Goals as goal

pub returns : goal.returns
unfolding latch_edges
returns c = rw (c.is_used.ensures, c.is_used-2.ensures)
