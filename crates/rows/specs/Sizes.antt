-- Sizes of what is lent, for answer 1.
-- Assumes nothing.
use Rattle.std.specs.Prelude.{ℕ, ◌/◌, ◌≤◌, ◌<◌, List, Bool, ◌&&◌, length, ltb, leb}

-- "at most 1,048,576 rows; at most 65,536 entries a list"
abbrev pub max_rows : ℕ
max_rows = 1048576

abbrev pub max_entries : ℕ
max_entries = 65536

-- "a limit passed", "a list count above its room"
unfoldable pub fits : ℕ → ℕ → ℕ → Bool
fits count room limit = leb count room && leb room limit

pub record Fit (count room limit : ℕ) : Type 0 where
  pub within : count ≤ room
  pub limited : room ≤ limit

-- "A row is two words (an odd last word is none)"
abbrev pub rows_lent : List ℕ → ℕ
rows_lent rows = length rows / 2

-- "used rows 0 or above the lent rows, a limit passed by rows"
unfoldable pub rows_fit : ℕ → List ℕ → Bool
rows_fit used rows = ltb 0 used && fits used (rows_lent rows) max_rows

pub record RowsFit (used : ℕ) (rows : List ℕ) : Type 0 where
  pub some : 0 < used
  pub fit : Fit used (rows_lent rows) max_rows
