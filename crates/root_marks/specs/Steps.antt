-- What only the proofs need: what a step asks of its caller, and what its functions count on the way.
-- Assumes nothing.
use Rattle.std.specs.Prelude.{◌*◌, ◌≤◌, ◌≡◌, true, length}
use Rattle.graph.specs.Latches.{latch_words}
use Rattle.graph.specs.Leaves.{used_edge}
use Rattle.graph.specs.Graph.{Lent}
use Rattle.root_marks.specs.Arguments.{every}
use Rattle.root_marks.specs.Roots.{roots_of}

-- no count is above its list
pub record RootsFit (g : Lent) : Type 0 where
  pub latches_fit : latch_words * g.counts.latches ≤ length g.latches
  pub constraints_fit : g.counts.constraints ≤ length g.constraints
  pub bads_fit : g.counts.bads ≤ length g.bads
  pub outputs_fit : g.counts.outputs ≤ length g.outputs
  pub edges_fit : g.counts.edges ≤ length g.edges
  pub fairness_fit : g.counts.fairness ≤ length g.fairness

-- what a well-formed graph's roots are known for
pub record RootsKnown (g : Lent) : Type 0 where
  pub fit : RootsFit g
  pub used : every (used_edge g.counts.rows) (roots_of g) ≡ true
