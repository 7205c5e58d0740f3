-- What only the proofs need: what a step asks of its caller, and what its functions count on the way.
-- Assumes nothing.
use Rattle.std.specs.Prelude.{ℕ, zero, suc, ◌+◌, ◌-◌, ◌*◌, ◌≤◌, ◌<◌, ◌≡◌, List, [], ◌∷◌, true, cond, length, get_or, eqb}
use Rattle.edge.specs.Edges.{id_of}
use Rattle.rows.specs.Sizes.{max_rows, max_entries}
use Rattle.graph.specs.Latches.{latch_words, latch_at}
use Rattle.root_marks.specs.Arguments.{every}
use Rattle.coi.specs.Coi.{latch_of, steps_at, Work, work, used_row}

-- ---- the stack
-- the first n words, the last first
unfoldable pub stacked : List ℕ → ℕ → List ℕ
stacked stack zero = []
stacked stack (suc n) = get_or stack n 0 ∷ stacked stack n

abbrev pub work_of : List ℕ → List ℕ → ℕ → Work
work_of flags stack count = work flags (stacked stack count)

-- how many rows are not flagged
unfoldable pub unflagged : List ℕ → ℕ
unflagged [] = 0
unflagged (x ∷ flags) = cond (eqb x 1) (unflagged flags) (suc (unflagged flags))

-- how many rows wait, or are not flagged yet: a visit leaves it as it is, and each turn takes one
abbrev pub turns_left : Work → ℕ
turns_left w = length w.waiting + unflagged w.flags

-- the work on flags of so many rows, with a stack of so many words
pub record Going (used space : ℕ) (w : Work) : Type 0 where
  pub small : used ≤ max_rows
  pub long : length w.flags ≡ used
  pub room : turns_left w ≤ space
  pub rows_used : every (used_row used) w.waiting ≡ true

-- ---- the marks
pub record Links (latches : List ℕ) (n : ℕ) (marks : List ℕ) : Type 0 where
  pub holds : (i : ℕ) → get_or marks i 0 ≡ latch_of latches n i

abbrev pub steps_by : List ℕ → List ℕ → List ℕ → ℕ → List ℕ
steps_by rows latches marks i = steps_at rows latches (get_or marks i 0) i

-- what is known of the latches of a well-formed graph
pub record LatchesKnown (latches : List ℕ) (n used : ℕ) : Type 0 where
  pub long : latch_words * n ≤ length latches
  pub few : n ≤ max_entries
  pub inputs_used : (k : ℕ) → k < n → (latch_at latches k).input < used
  pub nexts_used : (k : ℕ) → k < n → id_of (latch_at latches k).next < used

-- every step from a used row can be read, and ends at a used row
pub record Known (rows latches marks : List ℕ) (used : ℕ) : Type 0 where
  pub some : 0 < used
  pub small : used ≤ max_rows
  pub rows_long : 2 * used ≤ length rows
  pub marks_long : length marks ≡ used
  pub latch_there : (i : ℕ) → 0 < get_or marks i 0 → latch_words * get_or marks i 0 ≤ length latches
  pub next_used : (i : ℕ) → 0 < get_or marks i 0 → id_of (latch_at latches (get_or marks i 0 - 1)).next < used

-- what the flags are written from
pub record CoiReady (rows latches : List ℕ) (n used : ℕ) : Type 0 where
  pub some : 0 < used
  pub small : used ≤ max_rows
  pub rows_long : 2 * used ≤ length rows
  pub latches_known : LatchesKnown latches n used
