-- Counting rows of a kind.
-- Assumes nothing.
use Rattle.std.specs.Prelude.{ℕ, zero, suc, ◌+◌, Bool, cond, List}
use Rattle.rows.specs.Rows.{gate_at}

-- how many of the numbers below n are such
unfoldable pub count_below : (ℕ → Bool) → ℕ → ℕ
count_below such zero = 0
count_below such (suc n) = cond (such n) (count_below such n + 1) (count_below such n)

-- how many gates stand below row i
abbrev pub gates_below : List ℕ → ℕ → ℕ
gates_below rows i = count_below (gate_at rows) i
