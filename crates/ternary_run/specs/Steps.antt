-- What only the proofs need: what a step asks of its caller, and what its functions count on the way.
-- Assumes nothing.
use Rattle.std.specs.Prelude.{ℕ, ◌*◌, ◌≤◌, ◌<◌, ◌≡◌, List, length}
use Rattle.graph.specs.Latches.{latch_words}
use Rattle.graph.specs.Graph.{Lent}
use Rattle.ternary_run.specs.Codes.{Codes}
use Rattle.ternary_run.specs.Run.{input_row, latch_row}

-- each of n entries names one of so many rows
abbrev pub Within : (ℕ → ℕ) → ℕ → ℕ → Type 0
Within row n rows = (i : ℕ) → i < n → row i < rows

-- what the run asks for: words enough, each listed row a used one, and codes for them
pub record RunReady (g : Lent) (input state values : List ℕ) : Type 0 where
  pub some : 0 < g.counts.rows
  pub rows_lent_lem : 2 * g.counts.rows ≤ length g.rows
  pub inputs_lent : g.counts.inputs ≤ length g.inputs
  pub latches_lent_lem : latch_words * g.counts.latches ≤ length g.latches
  pub values_lent : g.counts.rows ≤ length values
  pub input_rows : Within (input_row g.inputs) g.counts.inputs g.counts.rows
  pub latch_rows : Within (latch_row g.latches) g.counts.latches g.counts.rows
  pub input_long : length input ≡ g.counts.inputs
  pub state_long : length state ≡ g.counts.latches
  pub input_codes : Codes g.counts.inputs input
  pub state_codes : Codes g.counts.latches state
