-- What only the proofs need: what a step asks of its caller, and what its functions count on the way.
-- Assumes nothing.
use Rattle.std.specs.Prelude.{ℕ, zero, suc, ◌+◌, ◌*◌, ◌≤◌, ◌<◌, List, ◌≡◌, set, length, get_or}
use Rattle.graph.specs.Graph.{Lent, Sized}
use Rattle.graph.specs.WellFormed.{listed, WellFormed}
use Rattle.graph.specs.Count.{gates_below}
use Rattle.rows.specs.Sizes.{max_rows}
use Rattle.graph.specs.Latches.{latch_words}
use Rattle.renumber.specs.Steps.{Known, MarksHold, Small}
use Rattle.renumber.specs.Renumber.{by}
use Rattle.output.specs.Room.{Room}
use Rattle.reencode.specs.Numbers.{first_gate, numbered, orphans}

-- the marks of rows id 0, id 1, .. id (n - 1) hold the numbers from k on
unfoldable pub placed : List ℕ → (ℕ → ℕ) → ℕ → ℕ → List ℕ
placed marks id k zero = marks
placed marks id k (suc n) = set (placed marks id k n) (id n) (k + n)

-- rows id 0 .. id (n - 1) have marks, and the numbers from k on are words
pub record IdsMarked (marks : List ℕ) (id : ℕ → ℕ) (k n : ℕ) : Type 0 where
  pub marked : (j : ℕ) → j < n → id j < length marks
  pub few : k + n ≤ max_rows

-- row i may become row k: the rows below it have their numbers
pub record GateReady (rows : List ℕ) (i k : ℕ) (marks : List ℕ) : Type 0 where
  pub row : 2 * i + 1 < length rows
  pub mark : i < length marks
  pub few : k ≤ max_rows
  pub small : i ≤ max_rows
  pub known : (j : ℕ) → j < i → Known marks j

-- the other rows are numbered
pub record GatesReady (rows : List ℕ) (used first : ℕ) (marks : List ℕ) : Type 0 where
  pub rows_long : 2 * used ≤ length rows
  pub marks_long : used ≤ length marks
  pub few : first + gates_below rows used ≤ max_rows
  pub used_few : used ≤ max_rows
  pub small : Small used (numbered rows first (by marks))

-- no row is numbered: the marks are 0
pub record RowsReady (g : Lent) (marks : List ℕ) : Type 0 where
  pub rows_long : 2 * g.counts.rows ≤ length g.rows
  pub inputs_long : g.counts.inputs ≤ length g.inputs
  pub latches_long : latch_words * g.counts.latches ≤ length g.latches
  pub marks_long : g.counts.rows ≤ length marks
  pub zeros : MarksHold g.counts.rows (λ (_ : ℕ). 0) marks
  pub few : first_gate g.counts + gates_below g.rows g.counts.rows ≤ max_rows
  pub rows_few : g.counts.rows ≤ max_rows
  pub used : (j : ℕ) → j < length (listed g) → get_or (listed g) j 0 < g.counts.rows
  pub once : (i j : ℕ) → i < j → j < length (listed g) → get_or (listed g) i 0 ≡ get_or (listed g) j 0 → ⊥

-- no answer is left, and the marks are 0
pub record ReencodeReady (g out : Lent) (marks : List ℕ) : Type 0 where
  pub marked : ℕ
  pub sized : Sized g marked
  pub marks_long : g.counts.rows ≤ length marks
  pub well_formed : WellFormed g
  pub no_orphan_lem : orphans g ≡ 0
  pub room : Room out g.counts
  pub zeros : MarksHold g.counts.rows (λ (_ : ℕ). 0) marks
