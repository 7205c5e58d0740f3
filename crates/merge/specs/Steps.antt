-- What only the proofs need: what a step asks of its caller, and what its functions count on the way.
-- Assumes nothing.
use Rattle.std.specs.Prelude.{ℕ, ◌+◌, ◌≤◌, ◌<◌, ◌≡◌, List, length, get_or}
use Rattle.edge.specs.Edges.{id_of}
use Rattle.rows.specs.Sizes.{max_rows}
use Rattle.rows.specs.Rows.{none}
use Rattle.graph.specs.declared.Counts.{Counts}

-- an edge that is a word `by` rows further, or none
abbrev pub Movable : ℕ → ℕ → Type 0
Movable by e = (e ≡ none → ⊥) → id_of e + by ≤ max_rows

-- words of rows can be moved, and there is room for them from `at` on
pub record RowsReady (by : ℕ) (out : List ℕ) (at : ℕ) (words : List ℕ) : Type 0 where
  pub room : at + length words ≤ length out
  pub movable : (j : ℕ) → j < length words → Movable by (get_or words j 0)

-- counts that can be added
pub record Addable (n : Counts) : Type 0 where
  pub some_row : 1 ≤ n.rows
  pub rows : n.rows ≤ max_rows
  pub inputs : n.inputs ≤ max_rows
  pub latches : n.latches ≤ max_rows
  pub constraints : n.constraints ≤ max_rows
  pub bads : n.bads ≤ max_rows
  pub outputs : n.outputs ≤ max_rows
  pub sets : n.sets ≤ max_rows
  pub edges : n.edges ≤ max_rows
  pub fairness : n.fairness ≤ max_rows
