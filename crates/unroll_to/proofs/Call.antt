-- Laws of the call: what it answers and writes.
-- Assumes nothing.
use Prim.Native.Nat.{ℕ}
use native.Mathlib.Omega.{arith}
use mathlib.Core.Path.{◌≡◌, refl, sym, ap, ◌∙◌}
use mathlib.Core.Bool.{true, false}
use mathlib.Core.List.{List}
use lib.ListN.{length, length-replicate, length-append, length-drop}
use lib.Dec.{leb}
use borrow.Author.Tests.{eq-eqb}
use Rattle.std.specs.Prelude.{Result, Ok, Err}
use Rattle.edge.specs.declared.answer.Refusal.{Refusal}
use Rattle.edge.specs.declared.answer.Given.{Given}
use Rattle.edge.specs.Answers.{no_room, refused, told}
use Rattle.edge.proofs.Answers.{not_done, was_done, was_refused}
use Rattle.graph.specs.declared.Counts.{Counts}
use Rattle.graph.specs.Graph.{Lent}
use Rattle.graph.specs.Check.{cleared, CheckSeen, check_seen}
use Rattle.graph.proofs.Marked.{cleared_again}
use Rattle.output.specs.Room.{room_in, fits_in, has_room}
use Rattle.output.proofs.Fitting.{limited, roomy}
use Rattle.output.proofs.Asking.{asked_accepted, asked_cleared}
use Rattle.unroll_to.specs.Frames.{Frames, frames, unrolled}
use Rattle.unroll_to.specs.Steps.{UnrollReady}
use Rattle.unroll_to.specs.Call.{max_frames, unroll_asked, ran, frames_answer, emptied, unroll_ran, unroll_to_call}

-- ---- the call: r is the answer up to 4, `after` are the marks, and `room` is that of the output
module _ (g out : Lent) (n : ℕ) (marks : List ℕ) {room : Counts} (o : room ≡ room_in out) (r : Result Unit Refusal) {after : List ℕ} (seen : check_seen r after ≡ unroll_asked g room n marks) where
  abbrev asked : Given
  asked = (unroll_asked g (room_in out) n marks).given

  seen_so : check_seen r after ≡ unroll_asked g (room_in out) n marks
  seen_so = seen ∙ ap (λ (x : Counts). unroll_asked g x n marks) o

  answer_is : told r ≡ asked
  answer_is = ap (λ (s : CheckSeen). s.given) seen_so

  marks_are : after ≡ (unroll_asked g (room_in out) n marks).marks
  marks_are = ap (λ (s : CheckSeen). s.marks) seen_so

  pub unroll_refused : {f : Refusal} → r ≡ Err f → record { ran = ran (refused f) 0 out; marks = after } ≡ unroll_to_call g out n marks
  unfolding unroll_to_call
  unroll_refused {f} e = rw (was_refused answer_is e, not_done f, marks_are) refl

  module _ (e : r ≡ Ok tt) where
    number : asked.number ≡ 0
    number = ap (λ (t : Given). t.number) (was_done answer_is e)

    -- the copy does not fit
    pub unroll_full : fits_in room g.counts ≡ false → record { ran = ran no_room 0 (emptied out); marks = after } ≡ unroll_to_call g out n marks
    unfolding unroll_to_call unroll_ran
    unroll_full h = rw (eq-eqb asked.number 0 number, sym (ap (λ (x : Counts). fits_in x g.counts) o) ∙ h, marks_are) refl

    marks_cleared : after ≡ cleared g.counts.rows marks
    marks_cleared = marks_are ∙ asked_cleared (leb n max_frames) g (room_in out) marks (λ (z : asked.number ≡ 1). absurd (omega (arith, number)))

    module _ (h : fits_in room g.counts ≡ true) where
      fits : has_room out g.counts ≡ true
      fits = sym (ap (λ (x : Counts). fits_in x g.counts) o) ∙ h

      pub ready_to_write : UnrollReady g out after
      ready_to_write =
          let a = asked_accepted (leb n max_frames) g (room_in out) marks number in
          let l : length (cleared g.counts.rows marks) ≡ length marks = simp (length-append, length-replicate {A = ℕ} g.counts.rows 0, length-drop) (omega (arith, a.sized.marked)) in
          let s = a.sized in
          record {
            limited = limited out a.roomy;
            sized = record {
              rows = s.rows;
              marked = rw marks_cleared (rw l s.marked);
              inputs = s.inputs;
              latches = s.latches;
              constraints = s.constraints;
              bads = s.bads;
              outputs = s.outputs;
              ends = s.ends;
              edges = s.edges;
              fairness = s.fairness;
            };
            well_formed = a.well_formed;
            room = roomy out g.counts fits;
            zeros = rw marks_cleared (cleared_again g.counts.rows marks (cleared g.counts.rows marks) refl);
          }

      pub unroll_done : {t : Given} {finished : ℕ} {new : Lent} {last : List ℕ} → frames finished new ≡ unrolled g out n → last ≡ after → t ≡ frames_answer finished n
          → record { ran = ran t finished new; marks = last } ≡ unroll_to_call g out n marks
      unfolding unroll_to_call unroll_ran
      unroll_done {t} {finished} {new} {last} p m q =
          let f : finished ≡ (unrolled g out n).finished = ap (λ (s : Frames). s.finished) p in
          let e : new ≡ (unrolled g out n).graph = ap (λ (s : Frames). s.graph) p in
          rw (eq-eqb asked.number 0 number, fits, q, f, e, m, marks_are)
