-- What only the proofs need: what a step asks of its caller, and what its functions count on the way.
-- Assumes nothing.
use Rattle.std.specs.Prelude.{ℕ}

-- ---- into a buffer
-- a place that is far from the end of all numbers: the clauses of all rows that there may be end before it
abbrev pub place_limit : ℕ
place_limit = 16777218
