-- What `unroll` means.
-- Assumes nothing.
use Rattle.std.specs.Prelude.{ℕ, ◌≡◌, List, length}
use Rattle.edge.specs.Answers.{bad_argument, no_room}
use Rattle.graph.specs.Graph.{Lent}
use Rattle.graph.specs.WellFormed.{WellFormed}
use Rattle.two_graphs.specs.Pair.{SizedTwo}
use Rattle.two_graphs.specs.Exactly.{AnswersTwo}
use Rattle.output.specs.Room.{Room}
use Rattle.frame.specs.Frame.{framed, frame_fits}
use Rattle.frame.specs.Call.{SameStart, FrameReady}
use Rattle.frame.specs.Meaning.{FrameAdded}
use Rattle.unroll.specs.Unroll.{same_start, unroll_call}

-- both are well-formed graphs of right sizes
pub record TwoGraphs (a b : Lent) (marks : ℕ) : Type 0 where
  pub sized : SizedTwo a b marks
  pub target : WellFormed a
  pub from : WellFormed b

-- what is lent is right: the target's first rows are `from`'s used rows, both have the same latch inputs in order, and there is room for a frame
pub record UnrollLent (a b : Lent) (marks : ℕ) : Type 0 where
  pub graphs : TwoGraphs a b marks
  pub start : SameStart a b
  pub room : Room a (framed a b).counts

pub record UnrollRight (a b : Lent) (marks : List ℕ) : Type 0 where
  -- `unroll` is done exactly where what is lent is right
  pub accepts : UnrollLent a b (length marks) → (unroll_call a b marks).given.number ≡ 0
  pub accepted : (unroll_call a b marks).given.number ≡ 0 → UnrollLent a b (length marks)
  -- and then the target has a frame more, with the values that `FrameMeans` says; a frame more can be added to it, and with marks for its rows it can be unrolled again
  pub added : (unroll_call a b marks).given.number ≡ 0 → FrameAdded a b (unroll_call a b marks).graph
  pub again : (unroll_call a b marks).given.number ≡ 0 → FrameReady (unroll_call a b marks).graph b (length marks)
  -- else the target is as it was
  pub refused : ((unroll_call a b marks).given.number ≡ 0 → ⊥) → (unroll_call a b marks).graph ≡ a
  -- each answer exactly in its case, and the marks
  pub answers : AnswersTwo (same_start a b) (frame_fits a b) a b marks (unroll_call a b marks).given (unroll_call a b marks).marks
  -- 4: the first rows or the latch inputs differ
  pub refuses_start : TwoGraphs a b (length marks) → (SameStart a b → ⊥) → (unroll_call a b marks).given ≡ bad_argument
  pub refused_start : (unroll_call a b marks).given.number ≡ 4 → TwoGraphs a b (length marks) × (SameStart a b → ⊥)
  -- 5: there is no room
  pub refuses_room : TwoGraphs a b (length marks) → SameStart a b → (Room a (framed a b).counts → ⊥) → (unroll_call a b marks).given ≡ no_room
  pub refused_room : (unroll_call a b marks).given.number ≡ 5 → TwoGraphs a b (length marks) × SameStart a b × (Room a (framed a b).counts → ⊥)
