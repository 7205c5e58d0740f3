-- The search for the first bad place, which every stage of the check is an instance of.
-- Assumes nothing.
use Rattle.std.specs.Prelude.{ℕ, zero, suc, ◌+◌, Bool, cond, Option, Some, None}

-- of the n places from i on, the first that is not good
unfoldable pub first_bad : (ℕ → Bool) → ℕ → ℕ → Option ℕ
first_bad good i zero = None
first_bad good i (suc n) = cond (good i) (first_bad good (i + 1) n) (Some i)
