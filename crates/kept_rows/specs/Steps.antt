-- What only the proofs need: what a step asks of its caller, and what its functions count on the way.
-- Assumes nothing.
use Rattle.std.specs.Prelude.{ℕ, ◌*◌, ◌+◌, ◌≤◌, ◌<◌, List, Bool, true, ◌≡◌, length, All, take, replicate}
use Rattle.graph.specs.Latches.{latch_at, latch_words}
use Rattle.graph.specs.Graph.{Lent}
use Rattle.root_marks.specs.Steps.{RootsKnown}
use Rattle.rows.specs.Sizes.{max_rows}
use Rattle.graph.specs.Count.{count_below}
use Rattle.renumber.specs.Steps.{Known, MappedEdge}
use Rattle.kept_rows.specs.Keeping.{numbered, kept_input}

-- n latch inputs are rows that have a mark
pub record InputsReady (latches : List ℕ) (n marks : ℕ) : Type 0 where
  pub has : latch_words * n ≤ length latches
  pub used : (k : ℕ) → k < n → (latch_at latches k).input < marks

-- the rows can be flagged: no row is yet
pub record FlagsReady (g : Lent) (marks : List ℕ) : Type 0 where
  pub some : 0 < g.counts.rows
  pub small : g.counts.rows ≤ max_rows
  pub rows_long : 2 * g.counts.rows ≤ length g.rows
  pub zeros : marks ≡ replicate g.counts.rows 0
  pub roots : RootsKnown g
  pub inputs_used : InputsReady g.latches g.counts.latches g.counts.rows

-- n ids are rows that the map has
pub record IdsThere (map list : List ℕ) (n : ℕ) : Type 0 where
  pub has : n ≤ length list
  pub there : All (λ (x : ℕ). x < length map) (take n list)

-- a word of a gate is an edge that can be mapped
abbrev pub WordReady : Bool → ℕ → List ℕ → Type 0
WordReady gate w map = gate ≡ true → MappedEdge map w

-- row i may become row k
pub record RowReady (rows : List ℕ) (i : ℕ) (out : List ℕ) (k : ℕ) (map : List ℕ) : Type 0 where
  pub row : 2 * i + 1 < length rows
  pub place : 2 * k + 1 < length out
  pub small : i ≤ max_rows
  pub known : (j : ℕ) → j < i → Known map j

-- the kept rows can be written
pub record RowsReady (rows : List ℕ) (used : ℕ) (out old map : List ℕ) : Type 0 where
  pub long : 2 * used ≤ length rows
  pub small : used ≤ max_rows
  pub known : (j : ℕ) → j < used → Known map j
  pub room : 2 * count_below (numbered map) used ≤ length out
  pub old_room : count_below (numbered map) used ≤ length old

-- the kept of the inputs can be written
pub record KeptReady (map inputs out : List ℕ) : Type 0 where
  pub there : All (λ (x : ℕ). x < length map) inputs
  pub room : count_below (kept_input (numbered map) inputs) (length inputs) ≤ length out
