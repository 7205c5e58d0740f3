-- What the step that adds a frame asks for, answers and writes.
-- Assumes nothing.
use Rattle.std.specs.Prelude.{ℕ, ◌*◌, ◌≤◌, ◌≡◌, List, Bool, cond, Option}
use Rattle.std.specs.Option.{is_some}
use Rattle.graph.specs.declared.Counts.{Counts}
use Rattle.graph.specs.Latches.{latch_inputs}
use Rattle.graph.specs.Graph.{Lent, Sized}
use Rattle.graph.specs.Check.{cleared}
use Rattle.graph.specs.WellFormed.{WellFormed}
use Rattle.renumber.specs.Kept.{SameBefore}
use Rattle.frame.specs.Frame.{framed, frame_fits}

-- "the target's first rows equal `from`'s used rows, and .. both have the same latch inputs in order"
pub record SameStart (a b : Lent) : Type 0 where
  pub more : b.counts.rows ≤ a.counts.rows
  pub rows : SameBefore (2 * b.counts.rows) b.rows a.rows
  pub latches : latch_inputs a.latches a.counts.latches ≡ latch_inputs b.latches b.counts.latches

-- a frame of b can be added to a: both are graphs of right sizes, and the marks cover the rows of b alone
pub record FrameReady (a b : Lent) (marks : ℕ) : Type 0 where
  pub target : Sized a a.counts.rows
  pub from : Sized b marks
  pub target_formed : WellFormed a
  pub from_formed : WellFormed b
  pub start : SameStart a b

pub record FrameSeen : Type 0 where
  pub fits : Bool
  pub graph : Lent
  pub marks : List ℕ

-- the step answers the counts with the frame, where it fits
abbrev pub frame_seen : Option Counts → Lent → List ℕ → FrameSeen
frame_seen r graph marks = record { fits = is_some r; graph = graph; marks = marks }

-- where the frame does not fit nothing changes; the marks are cleared over the rows of b either way
unfoldable pub frame_call : Lent → Lent → List ℕ → FrameSeen
frame_call a b marks = record { fits = frame_fits a b; graph = cond (frame_fits a b) (framed a b) a; marks = cleared b.counts.rows marks }
