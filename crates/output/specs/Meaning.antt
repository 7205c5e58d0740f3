-- What a copy holds.
-- Assumes nothing.
use Rattle.std.specs.Prelude.{ℕ, ◌*◌, ◌≤◌, ◌<◌, ◌≡◌, List, length, get_or}
use Rattle.graph.specs.declared.Counts.{Counts}
use Rattle.graph.specs.Latches.{latch_words}
use Rattle.graph.specs.Graph.{Lent}

-- `after` has the first n words of `from` at its front, and behind them its own
pub record Front (n : ℕ) (from out after : List ℕ) : Type 0 where
  pub long : length after ≡ length out
  pub same : (k : ℕ) → k < n → get_or after k 0 ≡ get_or from k 0
  pub rest : (k : ℕ) → n ≤ k → get_or after k 0 ≡ get_or out k 0

-- the same of every list, by the entries that n counts
pub record IsCopy (n : Counts) (g out after : Lent) : Type 0 where
  pub counts : after.counts ≡ n
  pub rows : Front (2 * n.rows) g.rows out.rows after.rows
  pub inputs : Front n.inputs g.inputs out.inputs after.inputs
  pub latches : Front (latch_words * n.latches) g.latches out.latches after.latches
  pub constraints : Front n.constraints g.constraints out.constraints after.constraints
  pub bads : Front n.bads g.bads out.bads after.bads
  pub outputs : Front n.outputs g.outputs out.outputs after.outputs
  pub ends : Front n.sets g.ends out.ends after.ends
  pub edges : Front n.edges g.edges out.edges after.edges
  pub fairness : Front n.fairness g.fairness out.fairness after.fairness
