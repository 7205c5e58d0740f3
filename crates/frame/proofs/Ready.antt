-- What a frame that can be added has at hand, and what the step makes of it.
-- Assumes nothing.
use Prim.Native.Nat.{ℕ, ◌+◌, ◌*◌, ◌≤◌, ◌<◌}
use native.Mathlib.Omega.{arith}
use mathlib.Core.Path.{◌≡◌, refl, sym, ap, ◌∙◌}
use mathlib.Core.Bool.{Bool, true, false, not}
use mathlib.Core.List.{List, []}
use Rattle.std.specs.Prelude.{Some, None}
use lib.ListN.{length, get_or, take}
use lib.Seq.{length-take-le}
use borrow.Author.Tests.{not-true, not-false}
use Rattle.rows.specs.Sizes.{max_rows}
use Rattle.graph.specs.declared.Counts.{Counts}
use Rattle.graph.specs.Latches.{latch_at, latch_inputs}
use Rattle.graph.specs.Graph.{Lent, Sized}
use Rattle.graph.specs.Check.{cleared}
use Rattle.graph.proofs.Listed.{inputs_long, latch_at_lem}
use Rattle.two_graphs.proofs.Pair.{cleared_fewer}
use Rattle.renumber.specs.Renumber.{Lists, lists_of, graph_of}
use Rattle.output.specs.Room.{room_in, fits_in, has_room, Room}
use Rattle.renumber.proofs.Mapping.{lists_used}
use Rattle.output.proofs.Fitting.{roomy}
use Rattle.frame.specs.Map.{start_map, lists_grown}
use Rattle.frame.specs.Steps.{LatchesWithin, ListsReady}
use Rattle.frame.specs.Frame.{Frame, frame, frame_of, frame_rows, raised, frame_between, framed, frame_fits}
use Rattle.frame.specs.Steps.{need_of}
use Rattle.frame.specs.Steps.{Addable}
use Rattle.frame.specs.Call.{SameStart, FrameReady, frame_seen, frame_call}
use Rattle.frame.proofs.Mapping.{start_length}
use Rattle.frame.proofs.Framing.{Same, rows_same, rows_map_long, framed_from}

-- ---- counts of right sizes can be added
pub addable : (g : Lent) (marks : ℕ) → Sized g marks → Addable g.counts
addable g marks s =
    record {
      rows = omega (arith, s.rows.fit.within, s.rows.fit.limited);
      inputs = omega (arith, s.inputs.within, s.inputs.limited);
      constraints = omega (arith, s.constraints.within, s.constraints.limited);
      bads = omega (arith, s.bads.within, s.bads.limited);
      outputs = omega (arith, s.outputs.within, s.outputs.limited);
      sets = omega (arith, s.ends.within, s.ends.limited);
      edges = omega (arith, s.edges.within, s.edges.limited);
      fairness = omega (arith, s.fairness.within, s.fairness.limited);
    }

-- ---- latches by their place among the latch inputs
pub latch_input : (latches : List ℕ) (n j : ℕ) → j < n → get_or (latch_inputs latches n) j 0 ≡ (latch_at latches j).input
latch_input latches n j l = let e : 0 + j ≡ j = omega arith in ap (λ (k : ℕ). get_or (latch_inputs latches n) k 0) (sym e) ∙ latch_at_lem [] 0 latches n (omega arith) j l

module _ (a b : Lent) (s : SameStart a b) where
  pub as_many : a.counts.latches ≡ b.counts.latches
  as_many = sym (inputs_long a.latches a.counts.latches) ∙ (ap length s.latches ∙ inputs_long b.latches b.counts.latches)

  pub same_input : (j : ℕ) → j < b.counts.latches → (latch_at a.latches j).input ≡ (latch_at b.latches j).input
  same_input j l =
      sym (latch_input a.latches a.counts.latches j (rw as_many l))
      ∙ (ap (λ (x : List ℕ). get_or x j 0) s.latches ∙ latch_input b.latches b.counts.latches j l)

-- ---- the frame's map has one word a row
pub frame_map_long : (rows inputs : List ℕ) (at : Counts) (latches from : List ℕ) (n : ℕ) → length (frame_of rows inputs at latches from n).map ≡ n
unfolding frame_of
frame_map_long rows inputs at latches from n =
    rows_map_long from n 0 (frame rows at.rows inputs at.inputs (start_map latches at.latches n)) ∙ start_length latches at.latches n

module _ (a b : Lent) (marks : ℕ) (r : FrameReady a b marks) where
  pub latches_within : LatchesWithin a.latches a.counts.latches b.counts.rows
  latches_within =
      record {
        has = omega (arith, r.target.latches.within);
        within = λ j l. let k : j < b.counts.latches = rw (sym (as_many a b r.start)) l in rw (same_input a b r.start j k) (r.from_formed.latches j k).0;
      }

  pub from_words : 2 * b.counts.rows ≤ length b.rows
  from_words = omega (arith, r.from.rows.fit.within)

  pub few : b.counts.rows ≤ max_rows
  few = omega (arith, r.from.rows.fit.within, r.from.rows.fit.limited)

  module _ (room : Room a (framed a b).counts) (map : List ℕ) (long : length map ≡ b.counts.rows) where
    pub lists_ready : ListsReady map (lists_of a) a.counts (lists_of b) b.counts
    unfolding framed raised
    lists_ready =
        record {
          used = rw long (lists_used b marks r.from r.from_formed);
          latches = omega (arith, as_many a b r.start, r.target.latches.within);
          constraints = room.constraints;
          bads = room.bads;
          outputs = room.outputs;
          ends = room.ends;
          edges = room.edges;
          fairness = room.fairness;
          few = omega (arith, r.target.edges.within, r.target.edges.limited);
        }

-- ---- the need does not hang on the rows
pub need_same : (a b : Lent) → need_of a.counts a.latches b.rows b.counts ≡ (framed a b).counts
unfolding framed frame_of
need_same a b = rw (same.used, same.listed)
  where
    same : Same (frame_rows b.rows 0 b.counts.rows (frame [] a.counts.rows [] a.counts.inputs (start_map a.latches a.counts.latches b.counts.rows)))
        (frame_rows b.rows 0 b.counts.rows (frame a.rows a.counts.rows a.inputs a.counts.inputs (start_map a.latches a.counts.latches b.counts.rows)))
    same = rows_same b.rows b.counts.rows 0 _ _ (record { used = refl; listed = refl; map = refl })

-- ---- the first words of the marks hold the map
part_long : (n : ℕ) (marks : List ℕ) → n ≤ length marks → length (take n marks) ≡ n
part_long n marks h = length-take-le n marks h

module _ (a b : Lent) (marks : List ℕ) {g : Lent} (l : g ≡ a) where
  pub part_within : FrameReady a b (length marks) → LatchesWithin g.latches g.counts.latches (length (take b.counts.rows marks))
  part_within r = rw (part_long b.counts.rows marks r.from.marked, l) (latches_within a b (length marks) r)

  -- the map at the start: the target is read from `g`
  module _ (h : b.counts.rows ≤ length marks) {map : List ℕ} (e : map ≡ start_map g.latches g.counts.latches (length (take b.counts.rows marks))) where
    pub started_map : map ≡ start_map a.latches a.counts.latches b.counts.rows
    started_map = e ∙ rw (part_long b.counts.rows marks h, l)

    pub started_long : length map ≡ b.counts.rows
    started_long = ap (λ (m : List ℕ). length m) started_map ∙ start_length a.latches a.counts.latches b.counts.rows

    -- the rows that are built over it
    pub built : (rows inputs : List ℕ) {f : Frame} → f ≡ frame_rows b.rows 0 (length map) (frame rows a.counts.rows inputs a.counts.inputs map)
        → f ≡ frame_of rows inputs a.counts a.latches b.rows b.counts.rows
    built rows inputs w = framed_from rows inputs a.counts a.latches b.rows b.counts.rows started_map started_long w

-- ---- the dry run
pub need_told : (at : Counts) (latches from : List ℕ) (n : Counts) {f : Frame} {r : Counts} → f ≡ frame_of [] [] at latches from n.rows → r ≡ raised at n f.used f.listed
    → r ≡ need_of at latches from n
need_told at latches from n e w = w ∙ ap (λ (x : Frame). raised at n x.used x.listed) e

-- ---- the frame, written
module _ (a b : Lent) {f : Frame} (e : f ≡ frame_between a b) where
  pub map_long : length f.map ≡ b.counts.rows
  map_long = ap (λ (x : Frame). length x.map) e ∙ frame_map_long a.rows a.inputs a.counts a.latches b.rows b.counts.rows

  pub whole : {ls : Lists} {n : Counts} → ls ≡ lists_grown f.map (lists_of a) a.counts (lists_of b) b.counts → n ≡ raised a.counts b.counts f.used f.listed
      → graph_of f.rows f.inputs ls n ≡ framed a b
  unfolding framed
  whole p r =
      rw (p, r) (ap (λ (x : Frame). graph_of x.rows x.inputs (lists_grown x.map (lists_of a) a.counts (lists_of b) b.counts) (raised a.counts b.counts x.used x.listed)) e)

-- ---- the step: `room` is the room of a, the target is read from `g`, and `fits` says whether there is room for what it needs
module _ (a b : Lent) (marks : List ℕ) {room : Counts} (o : room ≡ room_in a) {g : Lent} (l : g ≡ a)
    {fits : Bool} (t : fits ≡ fits_in room (need_of g.counts g.latches b.rows b.counts)) {after : List ℕ} (w : after ≡ cleared b.counts.rows marks) where
  told : fits ≡ frame_fits a b
  unfolding frame_fits
  told = t ∙ rw (o, l) (ap (has_room a) (need_same a b))

  pub frame_full : not fits ≡ true → frame_seen None a after ≡ frame_call a b marks
  unfolding frame_call
  frame_full h = rw (sym told ∙ not-true fits h, w)

  pub frame_room : not fits ≡ false → Room a (framed a b).counts
  unfolding frame_fits
  frame_room h = roomy a (framed a b).counts (sym told ∙ not-false fits h)

  pub frame_done : not fits ≡ false → (n : Counts) {x : Lent} {last : List ℕ} → x ≡ framed a b → last ≡ cleared b.counts.rows after → frame_seen (Some n) x last ≡ frame_call a b marks
  unfolding frame_call
  frame_done h n e v =
      rw (sym told ∙ not-false fits h, e, v ∙ (ap (cleared b.counts.rows) w ∙ cleared_fewer b.counts.rows b.counts.rows marks (omega arith)))

pub still_ready : (a b : Lent) {m n : ℕ} → FrameReady a b m → m ≡ n → FrameReady a b n
still_ready a b r e = rw e at r
