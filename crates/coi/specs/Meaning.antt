-- What the flags of the cone of influence mean.
-- Assumes nothing.
use Rattle.std.specs.Prelude.{ℕ, ◌≤◌, ◌<◌, ◌≡◌, Bool, true, List, ◌++◌, length, get_or, drop}
use Rattle.edge.specs.Edges.{id_of}
use Rattle.rows.specs.Sizes.{max_entries}
use Rattle.rows.specs.Rows.{word0, word1, gate_at}
use Rattle.rows.specs.Value.{value}
use Rattle.graph.specs.Latches.{latch_at}
use Rattle.graph.specs.Graph.{Lent, Sized}
use Rattle.graph.specs.Check.{cleared}
use Rattle.graph.specs.WellFormed.{WellFormed}
use Rattle.root_marks.specs.Flags.{Flagged, Flags, Closed, AgreeOn}
use Rattle.root_marks.specs.Arguments.{every}
use Rattle.graph.specs.Exactly.{Answers}
use Rattle.coi.specs.Coi.{used_row}
use Rattle.coi.specs.Call.{coi_room, coi_call}

-- the rows of the cone of influence
pub data Reached (g : Lent) (ids : List ℕ) : ℕ → Type 0 where
  -- "always has row 0"
  always : Reached g ids 0
  -- "starts from row ids"
  root : (k : ℕ) → k < length ids → Reached g ids (get_or ids k 0)
  -- the fanins of a gate
  left : {i : ℕ} → Reached g ids i → gate_at g.rows i ≡ true → Reached g ids (id_of (word0 g.rows i))
  right : {i : ℕ} → Reached g ids i → gate_at g.rows i ≡ true → Reached g ids (id_of (word1 g.rows i))
  -- "crosses a latch from input to next", and there is no step to an init
  latch : (k : ℕ) → k < g.counts.latches → Reached g ids (latch_at g.latches k).input → Reached g ids (id_of (latch_at g.latches k).next)

pub record IsCoi (g : Lent) (ids flags : List ℕ) : Type 0 where
  pub one_each : Flags g.counts.rows flags
  -- a row is flagged exactly if it is reached
  pub reached : (j : ℕ) → Reached g ids j → Flagged flags j
  pub only : (j : ℕ) → Flagged flags j → Reached g ids j
  -- closed under fanins, and under latches
  pub closed : Closed g.rows flags
  pub crossed : (k : ℕ) → k < g.counts.latches → Flagged flags (latch_at g.latches k).input → Flagged flags (id_of (latch_at g.latches k).next)
  -- the values of the roots depend only on the flagged rows
  pub values : (other : List ℕ) (leaf leaf' : ℕ → Bool) → AgreeOn flags g.rows other leaf leaf'
      → (k : ℕ) → k < length ids → value g.rows leaf (get_or ids k 0) ≡ value other leaf' (get_or ids k 0)

-- what is lent to the call is right
pub record CoiLent (g : Lent) (ids flags marks stack : List ℕ) : Type 0 where
  pub sized : Sized g (length marks)
  pub flags_long : g.counts.rows ≤ length flags
  pub stack_long : g.counts.rows ≤ length stack
  pub ids_few : length ids ≤ max_entries
  pub well_formed : WellFormed g
  pub ids_used : (k : ℕ) → k < length ids → get_or ids k 0 < g.counts.rows

-- the flags are those of the cone of influence, and the words beyond the used rows are as they were
pub record CoiWritten (g : Lent) (ids flags after : List ℕ) : Type 0 where
  pub cone : List ℕ
  pub is_coi : IsCoi g ids cone
  pub written : after ≡ cone ++ drop g.counts.rows flags

-- `coi` is done exactly where what is lent is right, and then writes the cone of influence, of which there is one.
pub record CoiRight (g : Lent) (ids flags marks stack : List ℕ) : Type 0 where
  pub accepts : CoiLent g ids flags marks stack → (coi_call g ids flags marks stack).given.number ≡ 0
  pub accepted : (coi_call g ids flags marks stack).given.number ≡ 0 → CoiLent g ids flags marks stack
  -- each answer exactly in its case, and the marks
  pub answers : Answers (coi_room g ids (length flags) (length stack)) (every (used_row g.counts.rows) ids) true g marks (coi_call g ids flags marks stack).given (coi_call g ids flags marks stack).marks
  pub writes : (coi_call g ids flags marks stack).given.number ≡ 0 → CoiWritten g ids flags (coi_call g ids flags marks stack).flags
  pub one : (a b : List ℕ) → IsCoi g ids a → IsCoi g ids b → a ≡ b
  -- the stack is under the rules of the marks
  pub untouched : (coi_call g ids flags marks stack).given.number ≡ 1 → (coi_call g ids flags marks stack).stack ≡ stack
  pub zeroed : ((coi_call g ids flags marks stack).given.number ≡ 1 → ⊥) → (coi_call g ids flags marks stack).stack ≡ cleared g.counts.rows stack
