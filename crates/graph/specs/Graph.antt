-- A graph as it is lent, and its sizes.
-- Assumes nothing.
use Rattle.std.specs.Prelude.{ℕ, ◌*◌, ◌≤◌, List, Bool, ◌&&◌, length, leb}
use Rattle.edge.specs.Meaning.{edge_value}
use Rattle.rows.specs.Value.{value}
use Rattle.rows.specs.Sizes.{max_entries, fits, Fit, rows_fit, RowsFit}
use Rattle.graph.specs.declared.Counts.{Counts}
use Rattle.graph.specs.declared.Graph.{Graph}
use Rattle.graph.specs.Latches.{latch_words, latches_lent}

-- the words of each list, used or not, and the counts
pub record Lent : Type 0 where
  pub rows : List ℕ
  pub inputs : List ℕ
  pub latches : List ℕ
  pub constraints : List ℕ
  pub bads : List ℕ
  pub outputs : List ℕ
  pub ends : List ℕ
  pub edges : List ℕ
  pub fairness : List ℕ
  pub counts : Counts

abbrev pub lent : List ℕ → List ℕ → List ℕ → List ℕ → List ℕ → List ℕ → List ℕ → List ℕ → List ℕ → Counts → Lent
lent rows inputs latches constraints bads outputs ends edges fairness counts =
    record { rows = rows; inputs = inputs; latches = latches; constraints = constraints; bads = bads; outputs = outputs; ends = ends; edges = edges; fairness = fairness; counts = counts }

-- what a graph lends
abbrev pub lent_of : Graph → Lent
lent_of g =
    lent g.rows.now g.inputs.now g.latches.now g.constraints.now g.bads.now g.outputs.now g.ends.now g.edges.now g.fairness.now g.counts

-- nothing is counted: a graph that is not there, and where the lists of an output graph start
abbrev pub no_counts : Counts
no_counts = record { rows = 0; inputs = 0; latches = 0; constraints = 0; bads = 0; outputs = 0; sets = 0; edges = 0; fairness = 0 }

-- no answer 1: "used rows 0 or above the lent rows, a limit passed by rows or a list, a list count above its room, or work marks .. shorter than the used rows"
unfoldable pub sizes_right : Lent → ℕ → Bool
sizes_right g marks =
    rows_fit g.counts.rows g.rows
    && leb g.counts.rows marks
    && fits g.counts.inputs (length g.inputs) max_entries
    && fits g.counts.latches (latches_lent g.latches) max_entries
    && fits g.counts.constraints (length g.constraints) max_entries
    && fits g.counts.bads (length g.bads) max_entries
    && fits g.counts.outputs (length g.outputs) max_entries
    && fits g.counts.sets (length g.ends) max_entries
    && fits g.counts.edges (length g.edges) max_entries
    && fits g.counts.fairness (length g.fairness) max_entries

-- the same, field by field
pub record Sized (g : Lent) (marks : ℕ) : Type 0 where
  pub rows : RowsFit g.counts.rows g.rows
  pub marked : g.counts.rows ≤ marks
  pub inputs : Fit g.counts.inputs (length g.inputs) max_entries
  pub latches : Fit g.counts.latches (latches_lent g.latches) max_entries
  pub constraints : Fit g.counts.constraints (length g.constraints) max_entries
  pub bads : Fit g.counts.bads (length g.bads) max_entries
  pub outputs : Fit g.counts.outputs (length g.outputs) max_entries
  pub ends : Fit g.counts.sets (length g.ends) max_entries
  pub edges : Fit g.counts.edges (length g.edges) max_entries
  pub fairness : Fit g.counts.fairness (length g.fairness) max_entries

-- the counted rows, inputs and latches are lent, and so many marks
pub record LeavesLent (g : Lent) (marks : ℕ) : Type 0 where
  pub rows : 2 * g.counts.rows ≤ length g.rows
  pub inputs : g.counts.inputs ≤ length g.inputs
  pub latches : latch_words * g.counts.latches ≤ length g.latches
  pub marked : g.counts.rows ≤ marks

-- the counted entries of lists 3 to 7 are lent
pub record ListsLent (g : Lent) : Type 0 where
  pub constraints : g.counts.constraints ≤ length g.constraints
  pub bads : g.counts.bads ≤ length g.bads
  pub outputs : g.counts.outputs ≤ length g.outputs
  pub ends : g.counts.sets ≤ length g.ends
  pub edges : g.counts.edges ≤ length g.edges
  pub fairness : g.counts.fairness ≤ length g.fairness

-- ---- what an edge means
-- the value of an edge of g, where `leaf` chooses the leaves' values
abbrev pub value_in : Lent → (ℕ → Bool) → ℕ → Bool
value_in g leaf e = edge_value (value g.rows leaf) e
