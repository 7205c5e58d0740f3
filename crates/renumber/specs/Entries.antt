-- What renumbered lists hold, entry by entry.
-- Assumes nothing.
use Rattle.std.specs.Prelude.{ℕ, ◌+◌, ◌<◌, ◌≡◌, List, get_or}
use Rattle.graph.specs.declared.Counts.{Counts}
use Rattle.graph.specs.Latches.{latch_at}
use Rattle.renumber.specs.Renumber.{renamed, renamed_latch, Lists}

-- entry j of n edges is, behind the first `at`, the same edge under m
abbrev pub SameEntries : (ℕ → ℕ) → ℕ → List ℕ → ℕ → List ℕ → Type 0
SameEntries m at from n after = (j : ℕ) → j < n → get_or after (at + j) 0 ≡ renamed m (get_or from j 0)

-- every entry of every list but the inputs: latches with input, next AND init, and justice by whole sets
pub record Renumbered (m : ℕ → ℕ) (at : Counts) (from : Lists) (n : Counts) (after : Lists) : Type 0 where
  pub latches : (j : ℕ) → j < n.latches → latch_at after.latches (at.latches + j) ≡ renamed_latch m (latch_at from.latches j)
  pub constraints : SameEntries m at.constraints from.constraints n.constraints after.constraints
  pub bads : SameEntries m at.bads from.bads n.bads after.bads
  pub outputs : SameEntries m at.outputs from.outputs n.outputs after.outputs
  pub ends : (j : ℕ) → j < n.sets → get_or after.ends (at.sets + j) 0 ≡ get_or from.ends j 0 + at.edges
  pub edges : SameEntries m at.edges from.edges n.edges after.edges
  pub fairness : SameEntries m at.fairness from.fairness n.fairness after.fairness
