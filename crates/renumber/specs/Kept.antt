-- What renumbered lists leave as it was: the entries before those that are written.
-- Assumes nothing.
use Rattle.std.specs.Prelude.{ℕ, ◌<◌, ◌≡◌, List, get_or}
use Rattle.graph.specs.declared.Counts.{Counts}
use Rattle.graph.specs.Latches.{latch_at}
use Rattle.renumber.specs.Renumber.{Lists}

-- the first n entries are as they were
abbrev pub SameBefore : ℕ → List ℕ → List ℕ → Type 0
SameBefore n before after = (j : ℕ) → j < n → get_or after j 0 ≡ get_or before j 0

-- the same of every list but the inputs
pub record ListsKept (n : Counts) (before after : Lists) : Type 0 where
  pub latches : (j : ℕ) → j < n.latches → latch_at after.latches j ≡ latch_at before.latches j
  pub constraints : SameBefore n.constraints before.constraints after.constraints
  pub bads : SameBefore n.bads before.bads after.bads
  pub outputs : SameBefore n.outputs before.outputs after.outputs
  pub ends : SameBefore n.sets before.ends after.ends
  pub edges : SameBefore n.edges before.edges after.edges
  pub fairness : SameBefore n.fairness before.fairness after.fairness
