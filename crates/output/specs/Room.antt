-- An output graph: it is lent as room alone, and its old words and counts are not looked at.
-- Assumes nothing.
use Rattle.std.specs.Prelude.{◌≤◌, Bool, ◌&&◌, length, leb}
use Rattle.rows.specs.Sizes.{max_rows, max_entries, rows_lent}
use Rattle.graph.specs.declared.Counts.{Counts}
use Rattle.graph.specs.Latches.{latches_lent}
use Rattle.graph.specs.Graph.{Lent}

-- how many entries there is room for
abbrev pub room_in : Lent → Counts
room_in out =
    record {
      rows = rows_lent out.rows;
      inputs = length out.inputs;
      latches = latches_lent out.latches;
      constraints = length out.constraints;
      bads = length out.bads;
      outputs = length out.outputs;
      sets = length out.ends;
      edges = length out.edges;
      fairness = length out.fairness;
    }

-- no answer 1 for what is lent: "at most 1,048,576 rows; at most 65,536 entries a list"
unfoldable pub limits_in : Counts → Bool
limits_in room =
    leb room.rows max_rows
    && leb room.inputs max_entries
    && leb room.latches max_entries
    && leb room.constraints max_entries
    && leb room.bads max_entries
    && leb room.outputs max_entries
    && leb room.sets max_entries
    && leb room.edges max_entries
    && leb room.fairness max_entries

abbrev pub limits : Lent → Bool
limits out = limits_in (room_in out)

-- the same, field by field
pub record Limited (out : Lent) : Type 0 where
  pub rows : rows_lent out.rows ≤ max_rows
  pub inputs : length out.inputs ≤ max_entries
  pub latches : latches_lent out.latches ≤ max_entries
  pub constraints : length out.constraints ≤ max_entries
  pub bads : length out.bads ≤ max_entries
  pub outputs : length out.outputs ≤ max_entries
  pub ends : length out.ends ≤ max_entries
  pub edges : length out.edges ≤ max_entries
  pub fairness : length out.fairness ≤ max_entries

-- no answer 5: a graph of these counts fits
unfoldable pub fits_in : Counts → Counts → Bool
fits_in room n =
    leb n.rows room.rows
    && leb n.inputs room.inputs
    && leb n.latches room.latches
    && leb n.constraints room.constraints
    && leb n.bads room.bads
    && leb n.outputs room.outputs
    && leb n.sets room.sets
    && leb n.edges room.edges
    && leb n.fairness room.fairness

-- the same, field by field
pub record Fits (room n : Counts) : Type 0 where
  pub rows : n.rows ≤ room.rows
  pub inputs : n.inputs ≤ room.inputs
  pub latches : n.latches ≤ room.latches
  pub constraints : n.constraints ≤ room.constraints
  pub bads : n.bads ≤ room.bads
  pub outputs : n.outputs ≤ room.outputs
  pub ends : n.sets ≤ room.sets
  pub edges : n.edges ≤ room.edges
  pub fairness : n.fairness ≤ room.fairness

abbrev pub has_room : Lent → Counts → Bool
has_room out n = fits_in (room_in out) n

abbrev pub Room : Lent → Counts → Type 0
Room out n = Fits (room_in out) n
