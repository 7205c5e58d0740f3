-- Rows: row i is the two words at 2·i and 2·i + 1.
-- Assumes nothing.
use Rattle.std.specs.Prelude.{ℕ, ◌+◌, ◌*◌, ◌<◌, List, Bool, true, cond, ◌&&◌, ◌||◌, ◌≡◌, get_or, ltb, leb, eqb}

-- the two words of row i; 0 past the end
abbrev pub word0 : List ℕ → ℕ → ℕ
word0 rows i = get_or rows (2 * i) 0

abbrev pub word1 : List ℕ → ℕ → ℕ
word1 rows i = get_or rows (2 * i + 1) 0

-- the first word of row 0
abbrev pub false_word : ℕ
false_word = 4294967294

-- the first word of a leaf, and the init of a latch that has none
abbrev pub none : ℕ
none = 4294967295

-- "Row 0 is (4294967294, 0)"
unfoldable pub is_false_row : ℕ → ℕ → ℕ → Bool
is_false_row i a b = eqb i 0 && eqb a false_word && eqb b 0

-- "A leaf, at any later row, is (4294967295, 0)"
unfoldable pub is_leaf : ℕ → ℕ → ℕ → Bool
is_leaf i a b = ltb 0 i && eqb a none && eqb b 0

-- "A gate at row i is two edge codes, each below 2·i"
unfoldable pub is_gate : ℕ → ℕ → ℕ → Bool
is_gate i a b = ltb a (2 * i) && ltb b (2 * i)

-- the larger of two numbers
unfoldable pub larger : ℕ → ℕ → ℕ
larger m n = cond (leb m n) n m

-- "Nothing else is a row"
unfoldable pub is_row : ℕ → ℕ → ℕ → Bool
is_row i a b = is_false_row i a b || is_leaf i a b || is_gate i a b

-- the same of row i of a table
abbrev pub leaf_at : List ℕ → ℕ → Bool
leaf_at rows i = is_leaf i (word0 rows i) (word1 rows i)

abbrev pub gate_at : List ℕ → ℕ → Bool
gate_at rows i = is_gate i (word0 rows i) (word1 rows i)

abbrev pub row_at : List ℕ → ℕ → Bool
row_at rows i = is_row i (word0 rows i) (word1 rows i)

-- "every used row is as above", of a table that has that many
abbrev pub AllRows : List ℕ → ℕ → Type 0
AllRows rows used = (i : ℕ) → i < used → row_at rows i ≡ true
