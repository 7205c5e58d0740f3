-- What only the proofs need: what a step asks of its caller, and what its functions count on the way.
-- Assumes nothing.
use Rattle.std.specs.Prelude.{ℕ}

-- A step may start at this many used rows: all codes are words still. A call starts at 1,048,576 at most and takes no more steps than that: a frame takes one for each row of a graph.
abbrev pub step_limit : ℕ
step_limit = 2097152
