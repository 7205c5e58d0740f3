-- Laws of the calls that add a latch.
-- Assumes nothing.
use Prim.Native.Nat.{ℕ}
use mathlib.Core.Path.{◌≡◌, refl}
use Rattle.graph.specs.Latches.{latch}
use Rattle.graph.specs.Leaves.{latch_edges}

-- the input of a latch is no edge
pub edges_of_lem : (used x y next init : ℕ) → latch_edges used (latch x next init) ≡ latch_edges used (latch y next init)
unfolding latch_edges
edges_of_lem used x y next init = refl
