-- What only the proofs need: what a step asks of its caller, and what its functions count on the way.
-- Assumes nothing.
use Rattle.std.specs.Prelude.{ℕ, List, Bool, ◌&&◌, get_or, ltb, eqb}
use Rattle.rows.specs.Rows.{leaf_at}

-- `free_leaf`, by the marks
unfoldable pub unmarked_leaf : List ℕ → ℕ → List ℕ → ℕ → Bool
unmarked_leaf rows used marks x = ltb x used && leaf_at rows x && eqb (get_or marks x 0) 0
