-- The target with a frame more, entry by entry.
-- Assumes nothing.
use Prim.Native.Nat.{ℕ, ◌+◌, ◌≤◌}
use native.Mathlib.Omega.{arith}
use mathlib.Core.Path.{refl}
use mathlib.Core.List.{List}
use lib.ListN.{length}
use Rattle.graph.specs.Graph.{Lent}
use Rattle.output.specs.Writing.{written}
use Rattle.renumber.specs.Renumber.{ends_of}
use Rattle.output.proofs.Writing.{written_before, written_at_lem}
use Rattle.frame.specs.Map.{mapped_of, lists_grown}
use Rattle.frame.specs.Frame.{raised, frame_between, framed}
use Rattle.frame.specs.Steps.{FrameRoom}
use Rattle.frame.specs.Meaning.{Grew, FrameAdded}
use Rattle.frame.proofs.Mapping.{nexts_at}
use Rattle.frame.proofs.Ready.{as_many}
use Rattle.frame.proofs.Forming.{sized, well_formed}
use Rattle.frame.proofs.Valuing.{frame_means}

grew : (map : List ℕ) (at : ℕ) (before from : List ℕ) (n : ℕ) → at + n ≤ length before → Grew map at before from n (written before at (mapped_of map from) n)
grew map at before from n room =
    record { kept = λ j l. written_before before at (mapped_of map from) n j l; entries = λ j l. written_at_lem before at (mapped_of map from) n j room l }

pub frame_added : (a b : Lent) (marks : ℕ) → FrameRoom a b marks → FrameAdded a b (framed a b)
unfolding framed raised lists_grown
frame_added a b marks r =
    let map = (frame_between a b).map in
    let m = r.room in
    record {
      rows = refl;
      inputs = refl;
      counts = refl;
      means = frame_means a b marks r;
      latches = λ j l. nexts_at map a.latches b.latches b.counts.latches j (omega (arith, as_many a b r.ready.start, r.ready.target.latches.within)) l;
      constraints = grew map a.counts.constraints a.constraints b.constraints b.counts.constraints m.constraints;
      bads = grew map a.counts.bads a.bads b.bads b.counts.bads m.bads;
      outputs = grew map a.counts.outputs a.outputs b.outputs b.counts.outputs m.outputs;
      ends_kept = λ j l. written_before a.ends a.counts.sets (ends_of a.counts.edges b.ends) b.counts.sets j l;
      ends = λ j l. written_at_lem a.ends a.counts.sets (ends_of a.counts.edges b.ends) b.counts.sets j m.ends l;
      edges = grew map a.counts.edges a.edges b.edges b.counts.edges m.edges;
      fairness = grew map a.counts.fairness a.fairness b.fairness b.counts.fairness m.fairness;
      sized = sized a b marks r;
      well_formed = well_formed a b marks r;
    }
