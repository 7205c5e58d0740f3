-- What `unroll_to` answers and writes.
-- Assumes nothing.
use Rattle.std.specs.Prelude.{ℕ, ◌≡◌, List, cond, ltb, leb}
use Rattle.std.proofs.Common.{ap}
use Rattle.edge.specs.declared.answer.Given.{Given}
use Rattle.edge.specs.Answers.{done, no_room, told, told_injective, determined}
use Rattle.rows.specs.Reading.{if_done}
use Rattle.graph.specs.declared.Counts.{Counts}
use Rattle.graph.specs.Graph.{Lent, lent, no_counts}
use Rattle.graph.specs.Check.{CheckSeen}
use Rattle.output.specs.Room.{room_in, has_room}
use Rattle.output.specs.Asking.{asked_in}
use Rattle.unroll_to.specs.declared.Unrolled.{Unrolled}
use Rattle.unroll_to.specs.Frames.{Frames, unrolled}

-- "`unroll_to` at most 4,096 frames"
abbrev pub max_frames : ℕ
max_frames = 4096

-- answers 1 to 3, where there is so much room for the output, then "above 4,096 frames: 4"; and the marks
abbrev pub unroll_asked : Lent → Counts → ℕ → List ℕ → CheckSeen
unroll_asked g room n marks = asked_in (leb n max_frames) g room marks

-- the answer, how many frames are finished, and the output with the counts that come back
pub record Ran : Type 0 where
  pub given : Given
  pub finished : ℕ
  pub graph : Lent

abbrev pub ran : Given → ℕ → Lent → Ran
ran given finished graph = record { given = given; finished = finished; graph = graph }

-- "at answer 5 the copy and the frames already finished stand and their number is answered"
unfoldable pub frames_answer : ℕ → ℕ → Given
frames_answer finished n = cond (ltb finished n) no_room done

abbrev pub frames_ran : ℕ → Frames → Ran
frames_ran n s = ran (frames_answer s.finished n) s.finished s.graph

-- the words of `out`, with no counts
abbrev pub emptied : Lent → Lent
emptied out =
    lent out.rows out.inputs out.latches out.constraints out.bads out.outputs out.ends out.edges out.fairness no_counts

-- "if the copy itself doesn't fit, nothing is written and the number is 0": then the counts are 0, which tells it from a copy that stands with no frame
unfoldable pub unroll_ran : Lent → Lent → ℕ → Ran
unroll_ran g out n = cond (has_room out g.counts) (frames_ran n (unrolled g out n)) (ran no_room 0 (emptied out))

-- ---- the call
pub record FramesSeen : Type 0 where
  pub ran : Ran
  pub marks : List ℕ

abbrev pub frames_seen : Unrolled → Lent → List ℕ → FramesSeen
frames_seen r graph marks = record { ran = ran (told r.answer) r.finished graph; marks = marks }

-- "A refusal changes no row, list, output or state, the copy and finished frames of `unroll_to` at 5 apart": `out` has the output's words and the counts that were given,
-- which come back after 1 to 4
unfoldable pub unroll_to_call : Lent → Lent → ℕ → List ℕ → FramesSeen
unroll_to_call g out n marks =
    let t = unroll_asked g (room_in out) n marks in
    record { ran = if_done t.given (unroll_ran g out n) (ran t.given 0 out); marks = t.marks }

-- any two results that the promise allows are equal: the answer, the number of frames, every lent word with the counts, and the marks
pub unroll_to_determined : (g out : Lent) (n : ℕ) (marks : List ℕ) (r s : Unrolled) (a b : Lent) (l m : List ℕ)
    → frames_seen r a l ≡ unroll_to_call g out n marks → frames_seen s b m ≡ unroll_to_call g out n marks
    → (r.answer ≡ s.answer) × (r.finished ≡ s.finished) × (a ≡ b) × (l ≡ m)
unroll_to_determined g out n marks r s a b l m p q =
    let t = determined (unroll_to_call g out n) marks (frames_seen r a l) (frames_seen s b m) p q in
    (told_injective r.answer s.answer (ap (λ (x : FramesSeen). x.ran.given) t), ap (λ (x : FramesSeen). x.ran.finished) t, ap (λ (x : FramesSeen). x.ran.graph) t, ap (λ (x : FramesSeen). x.marks) t)
