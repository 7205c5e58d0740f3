-- What the unrolled copy is.
-- Assumes nothing.
use Rattle.std.specs.Prelude.{ℕ, zero, suc, ◌≤◌, ◌<◌, ◌≡◌, Bool, true, false, ◌&&◌, List, length, leb}
use Rattle.edge.specs.Answers.{done, no_room}
use Rattle.graph.specs.Graph.{Lent, Sized}
use Rattle.graph.specs.WellFormed.{WellFormed}
use Rattle.graph.specs.Exactly.{Answers}
use Rattle.output.specs.Room.{limits, has_room, Limited, Room}
use Rattle.output.specs.Copying.{copy_of}
use Rattle.output.specs.Meaning.{IsCopy}
use Rattle.frame.specs.Frame.{framed, frame_fits}
use Rattle.frame.specs.Call.{FrameReady}
use Rattle.frame.specs.Meaning.{FrameAdded}
use Rattle.unroll.specs.Unroll.{unroll_call}
use Rattle.unroll_to.specs.Frames.{unrolled}
use Rattle.unroll_to.specs.Call.{max_frames, Ran, emptied, unroll_to_call}

-- k single frames of b, one after the other, as `unroll` adds each
unfoldable pub after_frames : Lent → ℕ → Lent → Lent
after_frames b zero a = a
after_frames b (suc k) a = framed (after_frames b k a) b

-- of n frames so many are finished, and stand: they fit, each where it was added, and where some are missing the next does not
pub record Standing (b a : Lent) (n finished : ℕ) (graph : Lent) : Type 0 where
  pub within : finished ≤ n
  pub frames : graph ≡ after_frames b finished a
  pub fit : (k : ℕ) → k < finished → frame_fits (after_frames b k a) b ≡ true
  pub full : finished < n → frame_fits (after_frames b finished a) b ≡ false

-- each finished frame is what a single `unroll` adds, and where one is missing `unroll` has no room for it either, whatever marks cover the target's rows
pub record SingleFrames (b a : Lent) (n finished : ℕ) : Type 0 where
  pub adds : (k : ℕ) → k < finished → (marks : List ℕ) → (after_frames b k a).counts.rows ≤ length marks → (unroll_call (after_frames b k a) b marks).graph ≡ after_frames b (suc k) a
  pub no_more : finished < n → (marks : List ℕ) → (after_frames b finished a).counts.rows ≤ length marks → (unroll_call (after_frames b finished a) b marks).given ≡ no_room

-- what is lent to the call is right
pub record UnrollLent (g out : Lent) (n : ℕ) (marks : List ℕ) : Type 0 where
  pub limited : Limited out
  pub sized : Sized g (length marks)
  pub well_formed : WellFormed g
  pub few : n ≤ max_frames

-- what a call with room for the copy leaves
pub record Unrolls (g out : Lent) (n : ℕ) (marks : List ℕ) (r : Ran) : Type 0 where
  -- the copy is unrolled frame by frame
  pub standing : Standing g (copy_of g.counts g out) n r.finished r.graph
  pub single : SingleFrames g (copy_of g.counts g out) n r.finished
  -- which holds what the given graph does, and in every frame each edge has its value and every list its entries
  pub copy : IsCopy g.counts g out (copy_of g.counts g out)
  pub each : (k : ℕ) → k < r.finished → FrameAdded (after_frames g k (copy_of g.counts g out)) g (after_frames g (suc k) (copy_of g.counts g out))
  -- done exactly where all frames are finished
  pub all : r.finished ≡ n → r.given ≡ done
  pub some : r.finished < n → r.given ≡ no_room
  -- the result is sized and well-formed, and can be unrolled on
  pub ready : FrameReady r.graph g (length marks)

-- the copy fits, and so does every frame
abbrev pub all_fit : Lent → Lent → ℕ → Bool
all_fit g out n = has_room out g.counts && leb n (unrolled g out n).finished

pub record UnrollToRight (g out : Lent) (n : ℕ) (marks : List ℕ) : Type 0 where
  pub unrolls : UnrollLent g out n marks → Room out g.counts → Unrolls g out n marks (unroll_to_call g out n marks).ran
  -- "if the copy itself doesn't fit, nothing is written and the number is 0"
  pub no_copy : UnrollLent g out n marks → (Room out g.counts → ⊥)
      → ((unroll_to_call g out n marks).ran.given ≡ no_room) × ((unroll_to_call g out n marks).ran.finished ≡ 0) × ((unroll_to_call g out n marks).ran.graph ≡ emptied out)
  -- done only where what is lent is right, the copy fits and all frames are finished
  pub accepted : (unroll_to_call g out n marks).ran.given.number ≡ 0 → UnrollLent g out n marks × Room out g.counts × ((unroll_to_call g out n marks).ran.finished ≡ n)
  -- where something lent is wrong nothing is written
  pub refused : (UnrollLent g out n marks → ⊥) → ((unroll_to_call g out n marks).ran.finished ≡ 0) × ((unroll_to_call g out n marks).ran.graph ≡ out)
  -- each answer exactly in its case, and the marks: 4 "above 4,096 frames", 5 where the copy or one of the frames does not fit
  pub answers : Answers (limits out) (leb n max_frames) (all_fit g out n) g marks (unroll_to_call g out n marks).ran.given (unroll_to_call g out n marks).marks
