-- Frames, one after the other: the loop.
-- Assumes nothing.
use Prim.Native.Nat.{ℕ, suc, ◌+◌, ◌-◌, ◌≤◌, ◌<◌}
use native.Mathlib.Omega.{arith}
use native.Mathlib.Nat.{sub-zero}
use mathlib.Core.Path.{◌≡◌, refl, sym, ap, ◌∙◌}
use mathlib.Core.Bool.{true, false, cond}
use mathlib.Core.List.{List}
use lib.ListN.{length}
use Rattle.std.specs.Prelude.{Option, Some, None}
use Rattle.std.specs.Option.{is_some, unwrap_or}
use Rattle.graph.specs.declared.Counts.{Counts}
use Rattle.graph.specs.Graph.{Lent}
use Rattle.graph.specs.Check.{cleared}
use Rattle.output.proofs.Fitting.{roomy}
use Rattle.frame.specs.Frame.{framed, frame_fits}
use Rattle.frame.specs.Call.{FrameReady, FrameSeen, frame_seen, frame_call}
use Rattle.frame.proofs.Forming.{frame_ready_again}
use Rattle.unroll_to.specs.Frames.{frames, frames_on}
use Rattle.unroll_to.specs.Steps.{FramesReady}

-- where a frame fits, another can be added behind it
pub ready_again : (a b : Lent) (marks : ℕ) → FrameReady a b marks → frame_fits a b ≡ true → FrameReady (framed a b) b marks
unfolding frame_fits
ready_again a b marks r f = frame_ready_again a b marks (record { ready = r; room = roomy a (framed a b).counts f })

-- j of n frames of b are finished, and a is the target then
pub record Going (start b : Lent) (n : ℕ) (marks : List ℕ) (a : Lent) (j : ℕ) (now : List ℕ) : Type 0 where
  pub within : j ≤ n
  pub ready : FrameReady a b (length marks)
  pub left : frames_on b (n - j) (frames j a) ≡ frames_on b n (frames 0 start)
  pub same : now ≡ marks

module _ (start b : Lent) (n : ℕ) (marks : List ℕ) (pre : FramesReady start b marks) where
  pub starts : Going start b n marks start 0 marks
  starts = record { within = omega arith; ready = pre.ready; left = ap (λ (k : ℕ). frames_on b k (frames 0 start)) (sub-zero n); same = refl }

  module _ (a : Lent) (j : ℕ) {now : List ℕ} (k : Going start b n marks a j now) where
    pub may_add : FrameReady a b (length now)
    may_add = rw k.same k.ready

    pub ends : n ≤ j → frames n a ≡ frames_on b n (frames 0 start)
    unfolding frames_on
    ends l =
        let e : n ≡ j = omega (arith, k.within) in
        let z : n - j ≡ 0 = omega arith in
        ap (λ (x : ℕ). frames x a) e ∙ (ap (λ (x : ℕ). frames_on b x (frames j a)) (sym z) ∙ k.left)

    -- `add_frame` was called: o is what it answers, and `lend` the target's words with the counts
    module _ (l : j < n) (lend : Counts → Lent) (o : Option Counts) {last : List ℕ} (seen : frame_seen o (lend (unwrap_or o a.counts)) last ≡ frame_call a b now) where
      fits_is : is_some o ≡ frame_fits a b
      unfolding frame_call
      fits_is = ap (λ (s : FrameSeen). s.fits) seen

      graph_is : lend (unwrap_or o a.counts) ≡ cond (is_some o) (framed a b) a
      unfolding frame_call
      graph_is = ap (λ (s : FrameSeen). s.graph) seen ∙ rw fits_is

      pub marks_same : last ≡ marks
      unfolding frame_call
      marks_same = ap (λ (s : FrameSeen). s.marks) seen ∙ (ap (cleared b.counts.rows) k.same ∙ pre.zeros)

      one_left : n - j ≡ suc (n - (j + 1))
      one_left = omega arith

      left_is : frames_on b (suc (n - (j + 1))) (frames j a) ≡ frames_on b n (frames 0 start)
      left_is = ap (λ (x : ℕ). frames_on b x (frames j a)) (sym one_left) ∙ k.left

      pub stops : o ≡ None → frames j (lend a.counts) ≡ frames_on b n (frames 0 start)
      unfolding frames_on
      stops h =
          let g : lend a.counts ≡ a = rw h at graph_is in
          let e : false ≡ frame_fits a b = rw h at fits_is in
          ap (λ (x : Lent). frames j x) g ∙ (rw (sym e) at left_is)

      pub goes : {x : Counts} → o ≡ Some x → Going start b n marks (lend x) (j + 1) last
      unfolding frames_on
      goes {x} h =
          let g : lend x ≡ framed a b = rw h at graph_is in
          let e : true ≡ frame_fits a b = rw h at fits_is in
          record {
            within = omega arith;
            ready = rw g (ready_again a b (length marks) k.ready (sym e));
            left = rw g (rw (sym e) at left_is);
            same = marks_same;
          }
