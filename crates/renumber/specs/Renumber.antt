-- A renumbering of rows, `m`, applied to every list of a graph but the inputs: so no call that renumbers can forget a column, as a latch's init, that another has. Rows and inputs,
-- of which a call may keep some or none, are its own.
-- Assumes nothing.
use Rattle.std.specs.Prelude.{ℕ, zero, suc, ◌+◌, ◌*◌, ◌%◌, List, cond, get_or, eqb}
use Rattle.edge.specs.Edges.{id_of}
use Rattle.rows.specs.Rows.{none}
use Rattle.graph.specs.declared.Counts.{Counts}
use Rattle.graph.specs.declared.latch.Latch.{Latch}
use Rattle.graph.specs.Latches.{with_edges, latch_at, latch_set}
use Rattle.graph.specs.Graph.{Lent}
use Rattle.output.specs.Writing.{written}

-- ---- one word
-- an edge: the new number of its row, with its sign; the none word stays
unfoldable pub renamed : (ℕ → ℕ) → ℕ → ℕ
renamed m e = cond (eqb e none) none (2 * m (id_of e) + e % 2)

-- a latch: input, next AND init
unfoldable pub renamed_latch : (ℕ → ℕ) → Latch → Latch
renamed_latch m l = with_edges l (m l.input) (renamed m l.next) (renamed m l.init)

-- ---- a list: word j of it
abbrev pub edges_of : (ℕ → ℕ) → List ℕ → ℕ → ℕ
edges_of m list j = renamed m (get_or list j 0)

abbrev pub ids_of : (ℕ → ℕ) → List ℕ → ℕ → ℕ
ids_of m list j = m (get_or list j 0)

-- justice ends count edges, not rows: where `by` edges stand before, each end is that much further
abbrev pub ends_of : ℕ → List ℕ → ℕ → ℕ
ends_of by list j = get_or list j 0 + by

-- the first n latches, written from latch `at` on
unfoldable pub latches_written : (ℕ → ℕ) → List ℕ → ℕ → List ℕ → ℕ → List ℕ
latches_written m out at latches zero = out
latches_written m out at latches (suc n) = latch_set (latches_written m out at latches n) (at + n) (renamed_latch m (latch_at latches n))

-- ---- the lists but the inputs, of which a call may drop some
pub record Lists : Type 0 where
  pub latches : List ℕ
  pub constraints : List ℕ
  pub bads : List ℕ
  pub outputs : List ℕ
  pub ends : List ℕ
  pub edges : List ℕ
  pub fairness : List ℕ

abbrev pub lists : List ℕ → List ℕ → List ℕ → List ℕ → List ℕ → List ℕ → List ℕ → Lists
lists latches constraints bads outputs ends edges fairness =
    record { latches = latches; constraints = constraints; bads = bads; outputs = outputs; ends = ends; edges = edges; fairness = fairness }

abbrev pub lists_of : Lent → Lists
lists_of g = lists g.latches g.constraints g.bads g.outputs g.ends g.edges g.fairness

-- every list of `from` but the inputs, with counts n, under m, written behind the entries of `out` that `at` counts; justice goes by whole sets
unfoldable pub renumber : (ℕ → ℕ) → Lists → Counts → Lists → Counts → Lists
renumber m out at from n =
    lists
    (latches_written m out.latches at.latches from.latches n.latches)
    (written out.constraints at.constraints (edges_of m from.constraints) n.constraints)
    (written out.bads at.bads (edges_of m from.bads) n.bads)
    (written out.outputs at.outputs (edges_of m from.outputs) n.outputs)
    (written out.ends at.sets (ends_of at.edges from.ends) n.sets)
    (written out.edges at.edges (edges_of m from.edges) n.edges)
    (written out.fairness at.fairness (edges_of m from.fairness) n.fairness)

-- a graph of these rows, inputs and lists
abbrev pub graph_of : List ℕ → List ℕ → Lists → Counts → Lent
graph_of rows inputs l n =
    record { rows = rows; inputs = inputs; latches = l.latches; constraints = l.constraints; bads = l.bads; outputs = l.outputs; ends = l.ends; edges = l.edges; fairness = l.fairness; counts = n }

-- ---- the map as a list of words
abbrev pub by : List ℕ → ℕ → ℕ
by map i = get_or map i 0
