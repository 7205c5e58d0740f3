-- A well-formed graph stays one where a latch is added.
-- Assumes nothing.
use Rattle.std.specs.Prelude.{ℕ, ◌≡◌, true, false}
use Rattle.rows.specs.Rows.{leaf_at}
use Rattle.graph.specs.Leaves.{member}
use Rattle.graph.specs.Graph.{Lent, lent}
use Rattle.graph.specs.WellFormed.{listed}
use Rattle.build_leaves.specs.Calls.{Left}
use Rattle.build_leaves.specs.Graphs.{Stays}
use Rattle.build_latches.specs.Latches.{new_latch_call, add_latch_call}

-- the graph after a call that is lent its rows and latches
abbrev pub with_latches : Lent → Left → Lent
with_latches g a = lent a.rows g.inputs a.list g.constraints g.bads g.outputs g.ends g.edges g.fairness a.counts

-- the calls on a well-formed graph
pub record LatchesStay (g : Lent) : Type 0 where
  pub new_latch_lem : (next init : ℕ) → Stays (new_latch_call g.rows g.latches g.counts next init) (with_latches g)
  -- "a wrong one shows as 3 later": a leaf in neither list is right
  pub add_latch : (x next init : ℕ) → leaf_at g.rows x ≡ true → member x (listed g) ≡ false → Stays (add_latch_call g.rows g.latches g.counts x next init) (with_latches g)
