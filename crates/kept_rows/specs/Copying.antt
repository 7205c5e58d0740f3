-- Kept rows and inputs, as they are written.
-- Assumes nothing.
use Rattle.std.specs.Prelude.{ℕ, ◌+◌, ◌*◌, List, Bool, cond, set}
use Rattle.rows.specs.Rows.{word0, word1, gate_at}
use Rattle.renumber.specs.Renumber.{renamed, ids_of}
use Rattle.kept_rows.specs.Keeping.{kept_written, word_put, kept_input}

-- a word of row i under m: those of a gate are edges, and those of another row stay
unfoldable pub row_word : (ℕ → ℕ) → List ℕ → ℕ → ℕ → ℕ
row_word m rows i w = cond (gate_at rows i) (renamed m w) w

-- row i, under m, becomes row k of `out`
unfoldable pub row_put : (ℕ → ℕ) → List ℕ → List ℕ → ℕ → ℕ → List ℕ
row_put m rows out k i = set (set out (2 * k) (row_word m rows i (word0 rows i))) (2 * k + 1) (row_word m rows i (word1 rows i))

-- "kept rows keep their order"
abbrev pub rows_kept : (ℕ → Bool) → (ℕ → ℕ) → List ℕ → List ℕ → ℕ → List ℕ
rows_kept kept m rows out n = kept_written kept (row_put m rows) out n

abbrev pub inputs_kept : (ℕ → Bool) → (ℕ → ℕ) → List ℕ → List ℕ → ℕ → List ℕ
inputs_kept kept m inputs out n = kept_written (kept_input kept inputs) (word_put (ids_of m inputs)) out n

-- "the new-to-old list": word k is the row that became row k
abbrev pub old_kept : (ℕ → Bool) → List ℕ → ℕ → List ℕ
old_kept kept old n = kept_written kept (word_put (λ (i : ℕ). i)) old n
