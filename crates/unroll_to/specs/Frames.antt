-- Frames, one after the other.
-- Assumes nothing.
use Rattle.std.specs.Prelude.{ℕ, zero, suc, ◌+◌, cond}
use Rattle.graph.specs.Graph.{Lent}
use Rattle.frame.specs.Frame.{framed, frame_fits}
use Rattle.output.specs.Copying.{copy_of}

-- how many frames are finished, and the target with them
pub record Frames : Type 0 where
  pub finished : ℕ
  pub graph : Lent

abbrev pub frames : ℕ → Lent → Frames
frames finished graph = record { finished = finished; graph = graph }

-- up to n frames of b more: it stops at the first that does not fit
unfoldable pub frames_on : Lent → ℕ → Frames → Frames
frames_on b zero s = s
frames_on b (suc n) s = cond (frame_fits s.graph b) (frames_on b n (frames (s.finished + 1) (framed s.graph b))) s

-- "`unroll_to` repeats it on a copy": n frames of g, on its copy in the room of `out`
abbrev pub unrolled : Lent → Lent → ℕ → Frames
unrolled g out n = frames_on g n (frames 0 (copy_of g.counts g out))
