-- A well-formed graph stays one where an edge is made.
-- Assumes nothing.
use Rattle.std.specs.Prelude.{ℕ, Bool, List}
use Rattle.graph.specs.Graph.{Lent}
use Rattle.build_leaves.specs.Graphs.{with_rows, Stays}
use Rattle.build_nodes.specs.Nodes.{list_call, eq_call}

-- the calls on a well-formed graph; two edges are a list, and so is an implication
pub record NodesStay (g : Lent) : Type 0 where
  pub list : (trivial or : Bool) (es : List ℕ) → Stays (list_call trivial or g.rows g.counts es) (with_rows g)
  pub eq : (a b : ℕ) → Stays (eq_call g.rows g.counts a b) (with_rows g)
