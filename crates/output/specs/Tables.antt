-- The rows and lists that are lent to be written.
-- Assumes nothing.
use Rattle.std.specs.Prelude.{◌≡◌}
use Rattle.graph.specs.declared.Counts.{Counts}
use Rattle.graph.specs.Graph.{Lent, lent}
use Rattle.output.specs.declared.tables.Tables.{Tables}

-- what they lend, where so many entries are used
abbrev pub lent_in : Tables → Counts → Lent
lent_in t counts =
    lent t.rows.now t.inputs.now t.latches.now t.constraints.now t.bads.now t.outputs.now t.ends.now t.edges.now t.fairness.now counts

-- they are the same slices still, whatever stands in them
pub record SameLists (t u : Tables) : Type 0 where
  pub rows : t.rows.ghost_name ≡ u.rows.ghost_name
  pub inputs : t.inputs.ghost_name ≡ u.inputs.ghost_name
  pub latches : t.latches.ghost_name ≡ u.latches.ghost_name
  pub constraints : t.constraints.ghost_name ≡ u.constraints.ghost_name
  pub bads : t.bads.ghost_name ≡ u.bads.ghost_name
  pub outputs : t.outputs.ghost_name ≡ u.outputs.ghost_name
  pub ends : t.ends.ghost_name ≡ u.ends.ghost_name
  pub edges : t.edges.ghost_name ≡ u.edges.ghost_name
  pub fairness : t.fairness.ghost_name ≡ u.fairness.ghost_name
