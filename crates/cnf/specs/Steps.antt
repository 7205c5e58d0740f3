-- What only the proofs need: what a step asks of its caller, and what its functions count on the way.
-- Assumes nothing.
use Rattle.std.specs.Prelude.{ℕ, ◌*◌, ◌≤◌, ◌<◌, ◌≡◌, List, true, length, replicate}
use Rattle.rows.specs.Sizes.{max_rows}
use Rattle.graph.specs.Leaves.{used_edge}
use Rattle.root_marks.specs.Arguments.{every}

-- what the steps of the call are lent, once the graph is checked: the rows and roots are there, and the marks are 0
pub record ClausesReady (rows : List ℕ) (used : ℕ) (roots marks : List ℕ) : Type 0 where
  pub some_row : 0 < used
  pub rows_there : 2 * used ≤ length rows
  pub rows_few : used ≤ max_rows
  pub roots_used : every (used_edge used) roots ≡ true
  pub clear : marks ≡ replicate used 0
