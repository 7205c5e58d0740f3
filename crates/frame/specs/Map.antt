-- The map of a frame, from the rows of `from` to edges of the target, and the lists under it.
-- Assumes nothing.
use Rattle.std.specs.Prelude.{ℕ, zero, suc, List, get_or, set, replicate}
use Rattle.edge.specs.Edges.{id_of, is_complemented, complement_if}
use Rattle.rows.specs.Rows.{none}
use Rattle.graph.specs.declared.Counts.{Counts}
use Rattle.graph.specs.Latches.{with_next, latch_at, latch_set}
use Rattle.output.specs.Writing.{written}
use Rattle.renumber.specs.Renumber.{ends_of, Lists, lists}

-- ---- one edge: what its row is mapped to, with its sign
unfoldable pub mapped : List ℕ → ℕ → ℕ
mapped map e = complement_if (is_complemented e) (get_or map (id_of e) 0)

-- ---- the map at the start: one word a row, none where the row is not mapped yet
-- "Each latch input maps to the target's next"
unfoldable pub nexts_mapped : List ℕ → ℕ → List ℕ → List ℕ
nexts_mapped latches zero map = map
nexts_mapped latches (suc n) map = set (nexts_mapped latches n map) (latch_at latches n).input (latch_at latches n).next

-- row 0 is false in every frame
unfoldable pub start_map : List ℕ → ℕ → ℕ → List ℕ
start_map latches n used = nexts_mapped latches n (set (replicate used none) 0 0)

-- ---- the lists
abbrev pub mapped_of : List ℕ → List ℕ → ℕ → ℕ
mapped_of map list j = mapped map (get_or list j 0)

-- latch i takes another next, and "init stays"
unfoldable pub next_set : List ℕ → ℕ → ℕ → List ℕ
next_set latches i next = latch_set latches i (with_next (latch_at latches i) next)

-- "latches take the mapped next of `from`"
unfoldable pub nexts_set : List ℕ → List ℕ → List ℕ → ℕ → List ℕ
nexts_set map latches from zero = latches
nexts_set map latches from (suc n) = next_set (nexts_set map latches from n) n (mapped map (latch_at from n).next)

-- "each root list grows by `from`'s mapped entries, justice by whole sets"
unfoldable pub lists_grown : List ℕ → Lists → Counts → Lists → Counts → Lists
lists_grown map out at from n =
    lists
    (nexts_set map out.latches from.latches n.latches)
    (written out.constraints at.constraints (mapped_of map from.constraints) n.constraints)
    (written out.bads at.bads (mapped_of map from.bads) n.bads)
    (written out.outputs at.outputs (mapped_of map from.outputs) n.outputs)
    (written out.ends at.sets (ends_of at.edges from.ends) n.sets)
    (written out.edges at.edges (mapped_of map from.edges) n.edges)
    (written out.fairness at.fairness (mapped_of map from.fairness) n.fairness)
