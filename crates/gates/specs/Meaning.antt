-- What building keeps, and what is true of a list of edges.
-- Assumes nothing.
use Rattle.std.specs.Prelude.{ℕ, ◌*◌, ◌≤◌, ◌<◌, ◌≡◌, Bool, true, false, ◌&&◌, ◌||◌, List, [], ◌∷◌, length, get_or}
use Rattle.edge.specs.Edges.{id_of}
use Rattle.rows.specs.Rows.{row_at}
use Rattle.gates.specs.Gates.{State}

-- s grew out of `used` rows: these stay word by word, every further used row is a row at its place, and the edge is used
pub record Grows (rows : List ℕ) (used : ℕ) (s : State) : Type 0 where
  pub more : used ≤ s.used
  pub long : length s.rows ≡ length rows
  pub kept : (k : ℕ) → k < 2 * used → get_or s.rows k 0 ≡ get_or rows k 0
  pub good : (i : ℕ) → used ≤ i → i < s.used → row_at s.rows i ≡ true
  pub edge : id_of s.edge < s.used

-- ---- lists of edges
-- every edge is one to a used row
abbrev pub AllUsed : ℕ → List ℕ → Type 0
AllUsed used es = (i : ℕ) → i < length es → id_of (get_or es i 0) < used

-- every edge is true; some edge is
unfoldable pub all_true : (ℕ → Bool) → List ℕ → Bool
all_true v [] = true
all_true v (e ∷ es) = v e && all_true v es

unfoldable pub any_true : (ℕ → Bool) → List ℕ → Bool
any_true v [] = false
any_true v (e ∷ es) = v e || any_true v es
