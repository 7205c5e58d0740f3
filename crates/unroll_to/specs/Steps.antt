-- What only the proofs need: what a step asks of its caller, and what its functions count on the way.
-- Assumes nothing.
use Rattle.std.specs.Prelude.{ℕ, ◌≡◌, List, length}
use Rattle.graph.specs.Graph.{Lent, Sized}
use Rattle.graph.specs.Check.{cleared}
use Rattle.graph.specs.WellFormed.{WellFormed}
use Rattle.output.specs.Room.{Limited, Room}
use Rattle.frame.specs.Call.{FrameReady}

-- frames of b can be added to a, and the marks over the rows of b are 0
pub record FramesReady (a b : Lent) (marks : List ℕ) : Type 0 where
  pub ready : FrameReady a b (length marks)
  pub zeros : cleared b.counts.rows marks ≡ marks

-- no answer is left before the frames
pub record UnrollReady (g out : Lent) (marks : List ℕ) : Type 0 where
  pub limited : Limited out
  pub sized : Sized g (length marks)
  pub well_formed : WellFormed g
  pub room : Room out g.counts
  pub zeros : cleared g.counts.rows marks ≡ marks
