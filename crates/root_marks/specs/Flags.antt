-- Flags of rows, 0 or 1.
-- Assumes nothing.
use Rattle.std.specs.Prelude.{ℕ, ◌≡◌, Bool, true, ◌⊎◌, List, length, get_or}
use Rattle.edge.specs.Edges.{id_of}
use Rattle.rows.specs.Rows.{word0, word1, gate_at}
use Rattle.rows.specs.Value.{Agree}

-- row j is flagged
abbrev pub Flagged : List ℕ → ℕ → Type 0
Flagged flags j = get_or flags j 0 ≡ 1

-- a flag for each used row, 0 or 1
pub record Flags (used : ℕ) (flags : List ℕ) : Type 0 where
  pub long : length flags ≡ used
  pub bits : (j : ℕ) → (get_or flags j 0 ≡ 0) ⊎ Flagged flags j

-- the fanins of a flagged gate are flagged
abbrev pub Closed : List ℕ → List ℕ → Type 0
Closed rows flags = (i : ℕ) → Flagged flags i → gate_at rows i ≡ true → Flagged flags (id_of (word0 rows i)) × Flagged flags (id_of (word1 rows i))

-- two tables, each with its choice of leaf values, agree on the flagged rows
abbrev pub AgreeOn : List ℕ → List ℕ → List ℕ → (ℕ → Bool) → (ℕ → Bool) → Type 0
AgreeOn flags rows other leaf leaf' = (j : ℕ) → Flagged flags j → Agree rows other leaf leaf' j
