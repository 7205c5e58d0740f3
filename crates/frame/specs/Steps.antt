-- What only the proofs need: what a step asks of its caller, and what its functions count on the way.
-- Assumes nothing.
use Rattle.std.specs.Prelude.{ℕ, zero, suc, ◌+◌, ◌*◌, ◌≤◌, ◌<◌, ◌^◌, ◌-◌, List, [], Bool, cond, ◌&&◌, length, get_or, eqb}
use Rattle.edge.specs.Edges.{id_of}
use Rattle.rows.specs.Rows.{none, word0, AllRows}
use Rattle.graph.specs.declared.Counts.{Counts}
use Rattle.graph.specs.Latches.{latch_words, latch_at}
use Rattle.renumber.specs.Renumber.{Lists}
use Rattle.renumber.specs.Steps.{ListsUsed}
use Rattle.graph.specs.Graph.{Lent}
use Rattle.output.specs.Room.{Room}
use Rattle.frame.specs.Map.{start_map}
use Rattle.rows.specs.Sizes.{max_rows}
use Rattle.frame.specs.Frame.{framed, frame_of, raised}
use Rattle.frame.specs.Call.{FrameReady}

-- the inputs of n latches are among the rows that the map has
pub record LatchesWithin (latches : List ℕ) (n used : ℕ) : Type 0 where
  pub has : latch_words * n ≤ length latches
  pub within : (j : ℕ) → j < n → (latch_at latches j).input < used

-- n latches stand there, and their nexts are edges to rows that the map has
pub record NextsUsed (used : ℕ) (latches : List ℕ) (n : ℕ) : Type 0 where
  pub has : latch_words * n ≤ length latches
  pub below : (j : ℕ) → j < n → id_of (latch_at latches j).next < used

-- the map has every row that the lists of `from` name, and there is room for them
pub record ListsReady (map : List ℕ) (out : Lists) (at : Counts) (from : Lists) (n : Counts) : Type 0 where
  pub used : ListsUsed (length map) from n
  pub latches : latch_words * n.latches ≤ length out.latches
  pub constraints : at.constraints + n.constraints ≤ length out.constraints
  pub bads : at.bads + n.bads ≤ length out.bads
  pub outputs : at.outputs + n.outputs ≤ length out.outputs
  pub ends : at.sets + n.sets ≤ length out.ends
  pub edges : at.edges + n.edges ≤ length out.edges
  pub fairness : at.fairness + n.fairness ≤ length out.fairness
  pub few : at.edges < 2 ^ 31

-- the counts after a frame on no rows and no inputs
abbrev pub need_of : Counts → List ℕ → List ℕ → Counts → Counts
need_of at latches from n = let f = frame_of [] [] at latches from n.rows in raised at n f.used f.listed

-- ---- the most that the counts can be after a frame
-- row i is a leaf that the map has no edge for: a new input
abbrev pub new_leaf : List ℕ → List ℕ → ℕ → Bool
new_leaf from map i = eqb (word0 from i) none && eqb (get_or map i 0) none

-- how many of the n rows from i on are such leaves
unfoldable pub new_leaves : List ℕ → List ℕ → ℕ → ℕ → ℕ
new_leaves from map i zero = 0
new_leaves from map i (suc n) = cond (new_leaf from map i) 1 0 + new_leaves from map (i + 1) n

-- a row for each but row 0, and an input for each new leaf
abbrev pub most_of : Counts → List ℕ → List ℕ → Counts → Counts
most_of at latches from n = raised at n (at.rows + (n.rows - 1)) (at.inputs + new_leaves from (start_map latches at.latches n.rows) 0 n.rows)

-- and there is room for it
pub record FrameRoom (a b : Lent) (marks : ℕ) : Type 0 where
  pub ready : FrameReady a b marks
  pub room : Room a (framed a b).counts

-- a frame takes no more than the most: every row of `from` is one, and row 0, which no latch names, stays false
pub record Bounded (latches : List ℕ) (n : ℕ) (from : List ℕ) (used : ℕ) : Type 0 where
  pub rows : AllRows from used
  pub behind : (j : ℕ) → j < n → 0 < (latch_at latches j).input

-- counts that can be added
pub record Addable (n : Counts) : Type 0 where
  pub rows : n.rows ≤ max_rows
  pub inputs : n.inputs ≤ max_rows
  pub constraints : n.constraints ≤ max_rows
  pub bads : n.bads ≤ max_rows
  pub outputs : n.outputs ≤ max_rows
  pub sets : n.sets ≤ max_rows
  pub edges : n.edges ≤ max_rows
  pub fairness : n.fairness ≤ max_rows
