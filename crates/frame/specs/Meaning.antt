-- What a frame keeps and means.
-- Assumes nothing.
use Rattle.std.specs.Prelude.{ℕ, ◌+◌, ◌*◌, ◌≤◌, ◌<◌, ◌≡◌, Bool, true, ◌⊎◌, List, length, get_or}
use Rattle.edge.specs.Edges.{id_of}
use Rattle.edge.specs.Meaning.{edge_value}
use Rattle.rows.specs.Rows.{none, leaf_at}
use Rattle.rows.specs.Value.{value}
use Rattle.graph.specs.Latches.{with_next, latch_at}
use Rattle.graph.specs.Graph.{Lent, Sized}
use Rattle.graph.specs.WellFormed.{WellFormed}
use Rattle.gates.specs.Gates.{state}
use Rattle.gates.specs.Meaning.{Grows}
use Rattle.renumber.specs.Kept.{SameBefore}
use Rattle.frame.specs.Map.{mapped, start_map}
use Rattle.frame.specs.Frame.{Frame, frame, raised, frame_between}

-- x is a leaf among the rows that were added behind `low` rows
pub record NewLeaf (low : ℕ) (s : Frame) (x : ℕ) : Type 0 where
  pub behind : low ≤ x
  pub below : x < s.used
  pub leaf : leaf_at s.rows x ≡ true

-- s grew out of o: rows and inputs that were there stay, every further row is a row at its place, and the further inputs are new leaves in rising order
pub record Extends (o s : Frame) : Type 0 where
  pub rows : Grows o.rows o.used (state s.rows s.used 0)
  pub inputs_long : length s.inputs ≡ length o.inputs
  pub more : o.listed ≤ s.listed
  pub kept : SameBefore o.listed o.inputs s.inputs
  pub new : (j : ℕ) → o.listed ≤ j → j < s.listed → NewLeaf o.used s (get_or s.inputs j 0)
  pub rise : (j k : ℕ) → o.listed ≤ j → j < k → k < s.listed → get_or s.inputs j 0 < get_or s.inputs k 0

-- every row below i is mapped to a used edge, and every other row to one or to none
abbrev pub MapUsed : ℕ → Frame → Type 0
MapUsed i s = (x : ℕ) → x < length s.map → ((i ≤ x) × (get_or s.map x 0 ≡ none)) ⊎ (id_of (get_or s.map x 0) < s.used)

-- ---- the map of a frame of b in the target a
-- x is the input of no latch
abbrev pub NoLatch : Lent → ℕ → Type 0
NoLatch b x = (j : ℕ) → j < b.counts.latches → (latch_at b.latches j).input ≡ x → ⊥

-- e is an edge to an input that was listed behind `low` inputs
pub record NewInput (low : ℕ) (s : Frame) (e : ℕ) : Type 0 where
  pub at : ℕ
  pub behind : low ≤ at
  pub below : at < s.listed
  pub edge : e ≡ 2 * get_or s.inputs at 0

pub record Maps (a b : Lent) (f : Frame) : Type 0 where
  -- "Each latch input maps to the target's next"
  pub latches : (j : ℕ) → j < b.counts.latches → get_or f.map (latch_at b.latches j).input 0 ≡ (latch_at a.latches j).next
  -- "leaves that are no latch get a new input (orphans too)"
  pub leaves : (x : ℕ) → x < b.counts.rows → leaf_at b.rows x ≡ true → NoLatch b x → NewInput a.counts.inputs f (get_or f.map x 0)
  -- such an input stands behind every edge that an earlier row is mapped to; so no two leaves share one
  pub apart : (x y : ℕ) → x < y → y < b.counts.rows → leaf_at b.rows y ≡ true → NoLatch b y → id_of (get_or f.map x 0) < id_of (get_or f.map y 0)
  -- row 0 stays false
  pub zero : get_or f.map 0 0 ≡ 0
  -- every row is mapped to a used edge
  pub used : (x : ℕ) → x < b.counts.rows → id_of (get_or f.map x 0) < f.used

-- ---- values
-- `leaf` chooses the values of the new target's leaves. Then leaf' has for each leaf of b what it holds in the frame: a latch input what the latch's next was before the frame, any other
-- what its new input holds.
pub record HoldsNexts (a b : Lent) (f : Frame) (leaf leaf' : ℕ → Bool) : Type 0 where
  pub latches : (j : ℕ) → j < b.counts.latches → leaf' (latch_at b.latches j).input ≡ edge_value (value a.rows leaf) (latch_at a.latches j).next
  pub leaves : (x : ℕ) → x < b.counts.rows → leaf_at b.rows x ≡ true → NoLatch b x → leaf' x ≡ leaf (id_of (get_or f.map x 0))

-- a frame: what it keeps, its map, and that each edge of b has, mapped, the value that it has in b
pub record FrameMeans (a b : Lent) (f : Frame) : Type 0 where
  pub extends : Extends (frame a.rows a.counts.rows a.inputs a.counts.inputs (start_map a.latches a.counts.latches b.counts.rows)) f
  pub map : Maps a b f
  -- there is always such a leaf': what the mapped edges hold
  pub held : (leaf : ℕ → Bool) → HoldsNexts a b f leaf (λ (x : ℕ). edge_value (value f.rows leaf) (get_or f.map x 0))
  pub values : (leaf leaf' : ℕ → Bool) → HoldsNexts a b f leaf leaf' → (e : ℕ) → id_of e < b.counts.rows → edge_value (value f.rows leaf) (mapped f.map e) ≡ edge_value (value b.rows leaf') e
  -- a row that was there keeps its value
  pub old_values : (leaf : ℕ → Bool) (i : ℕ) → i < a.counts.rows → value f.rows leaf i ≡ value a.rows leaf i

-- ---- the target afterwards
-- a list keeps its entries, and grows by `from`'s under the map
pub record Grew (map : List ℕ) (at : ℕ) (before from : List ℕ) (n : ℕ) (after : List ℕ) : Type 0 where
  pub kept : SameBefore at before after
  pub entries : (j : ℕ) → j < n → get_or after (at + j) 0 ≡ mapped map (get_or from j 0)

-- g is a with a frame of b more
pub record FrameAdded (a b g : Lent) : Type 0 where
  pub rows : g.rows ≡ (frame_between a b).rows
  pub inputs : g.inputs ≡ (frame_between a b).inputs
  pub counts : g.counts ≡ raised a.counts b.counts (frame_between a b).used (frame_between a b).listed
  pub means : FrameMeans a b (frame_between a b)
  -- "latches take the mapped next of `from`": input and init stay
  pub latches : (j : ℕ) → j < b.counts.latches
      → latch_at g.latches j ≡ with_next (latch_at a.latches j) (mapped (frame_between a b).map (latch_at b.latches j).next)
  -- "each root list grows by `from`'s mapped entries, justice by whole sets"
  pub constraints : Grew (frame_between a b).map a.counts.constraints a.constraints b.constraints b.counts.constraints g.constraints
  pub bads : Grew (frame_between a b).map a.counts.bads a.bads b.bads b.counts.bads g.bads
  pub outputs : Grew (frame_between a b).map a.counts.outputs a.outputs b.outputs b.counts.outputs g.outputs
  pub ends_kept : SameBefore a.counts.sets a.ends g.ends
  pub ends : (j : ℕ) → j < b.counts.sets → get_or g.ends (a.counts.sets + j) 0 ≡ get_or b.ends j 0 + a.counts.edges
  pub edges : Grew (frame_between a b).map a.counts.edges a.edges b.edges b.counts.edges g.edges
  pub fairness : Grew (frame_between a b).map a.counts.fairness a.fairness b.fairness b.counts.fairness g.fairness
  -- it is a well-formed graph of right sizes
  pub sized : (marks : ℕ) → g.counts.rows ≤ marks → Sized g marks
  pub well_formed : WellFormed g
