-- What is told of `unroll_to` is what it leaves.
-- Assumes nothing.
use Prim.Native.Nat.{ℕ}
use mathlib.Core.Path.{◌≡◌, ap, ◌∙◌}
use mathlib.Core.List.{List}
use Rattle.edge.specs.Answers.{told}
use Rattle.graph.specs.Graph.{Lent}
use Rattle.unroll_to.specs.declared.Unrolled.{Unrolled}
use Rattle.unroll_to.specs.Call.{FramesSeen, frames_seen}
use Rattle.sulandiro_words.specs.Told.{told_graph}
use Rattle.sulandiro_unroll.specs.Frames.{told_ran, told_frames}

pub tells_frames : (before : List ℕ) (r : Unrolled) (g : Lent) (m : List ℕ) {after : List ℕ} → after ≡ told_ran before (told r.answer) g.counts r.finished
    → (promised : FramesSeen) → frames_seen r g m ≡ promised → told_graph g m after ≡ told_frames promised before
unfolding told_frames
tells_frames before r g m w promised e =
    ap (told_graph g m) w ∙ ap (λ (s : FramesSeen). told_graph s.ran.graph s.marks (told_ran before s.ran.given s.ran.graph.counts s.ran.finished)) e
