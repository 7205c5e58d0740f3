-- The copy can be unrolled.
-- Assumes nothing.
use Prim.Native.Nat.{ℕ}
use native.Mathlib.Omega.{arith}
use mathlib.Core.Path.{◌≡◌, ap, ◌∙◌}
use mathlib.Core.List.{List}
use lib.ListN.{length}
use Rattle.graph.specs.Graph.{Lent, Sized}
use Rattle.graph.specs.WellFormed.{WellFormed}
use Rattle.output.specs.Room.{Limited, Room}
use Rattle.output.specs.Copying.{copy_of}
use Rattle.output.specs.Steps.{CopyFits}
use Rattle.output.specs.Meaning.{IsCopy}
use Rattle.output.proofs.Copying.{is_copy}
use Rattle.output.proofs.Forming.{latch_inputs_same, copy_formed, copy_sized}
use Rattle.frame.specs.Call.{SameStart, FrameReady}
use Rattle.unroll_to.specs.Frames.{Frames, frames, frames_on, unrolled}
use Rattle.unroll_to.specs.Steps.{FramesReady, UnrollReady}

module _ (g out : Lent) (marks : ℕ) (s : Sized g marks) (w : WellFormed g) (room : Room out g.counts) (o : Limited out) where
  is_a_copy : IsCopy g.counts g out (copy_of g.counts g out)
  is_a_copy = is_copy g.counts g out room

  -- "the target's first rows equal `from`'s used rows, and .. both have the same latch inputs in order"
  same_start_lem : SameStart (copy_of g.counts g out) g
  unfolding copy_of
  same_start_lem =
      record {
        more = omega arith;
        rows = is_a_copy.rows.same;
        latches = latch_inputs_same g.counts.latches g.latches out.latches (copy_of g.counts g out).latches is_a_copy.latches g.counts.latches (omega arith);
      }

  pub frame_ready : FrameReady (copy_of g.counts g out) g marks
  frame_ready =
      record {
        target = unfold copy_of in copy_sized g out marks s w g.counts.constraints (omega arith) room o g.counts.rows (omega arith);
        from = s;
        target_formed = copy_formed g out marks s w g.counts.constraints (omega arith) room;
        from_formed = w;
        start = same_start_lem;
      }

module _ (g out : Lent) (marks : List ℕ) (r : UnrollReady g out marks) where
  pub copy_fits : CopyFits g out g.counts
  copy_fits =
      let s = r.sized in
      record {
        has = record {
          rows = s.rows.fit.within;
          inputs = s.inputs.within;
          latches = s.latches.within;
          constraints = s.constraints.within;
          bads = s.bads.within;
          outputs = s.outputs.within;
          ends = s.ends.within;
          edges = s.edges.within;
          fairness = s.fairness.within;
        };
        room = r.room;
      }

  -- c is the copy
  module _ {c : Lent} (e : c ≡ copy_of g.counts g out) where
    pub frames_ready : FramesReady c g marks
    frames_ready = record { ready = rw e (frame_ready g out (length marks) r.sized r.well_formed r.room r.limited); zeros = r.zeros }

    pub all_unrolled : (n : ℕ) {s : Frames} → s ≡ frames_on g n (frames 0 c) → s ≡ unrolled g out n
    all_unrolled n p = p ∙ ap (λ (x : Lent). frames_on g n (frames 0 x)) e
