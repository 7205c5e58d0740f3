-- What `coi_refine` writes.
-- Assumes nothing.
use Rattle.std.specs.Prelude.{ℕ, List, Bool}
use Rattle.graph.specs.declared.Counts.{Counts}
use Rattle.graph.specs.Graph.{Lent, no_counts}
use Rattle.renumber.specs.Renumber.{lists_of, renumber, graph_of}
use Rattle.kept_rows.specs.Kept.{kept_flags}
use Rattle.kept_rows.specs.Keeping.{kept_row, kept_id, kept_counts}
use Rattle.kept_rows.specs.Copying.{rows_kept, inputs_kept, old_kept}

-- is row i kept, and its new number
abbrev pub is_kept : Lent → ℕ → Bool
is_kept g = kept_row (kept_flags g)

abbrev pub new_row : Lent → ℕ → ℕ
new_row g = kept_id (kept_flags g)

-- the counts of the result
abbrev pub refined_counts : Lent → Counts
refined_counts g = kept_counts (kept_flags g) g.inputs g.counts

-- every column under the one map, into the room of `out`
unfoldable pub refined : Lent → Lent → Lent
refined g out =
    graph_of
    (rows_kept (is_kept g) (new_row g) g.rows out.rows g.counts.rows)
    (inputs_kept (is_kept g) (new_row g) g.inputs out.inputs g.counts.inputs)
    (renumber (new_row g) (lists_of out) no_counts (lists_of g) g.counts)
    (refined_counts g)

-- "the new-to-old list comes back"
unfoldable pub old_rows : Lent → List ℕ → List ℕ
old_rows g old = old_kept (is_kept g) old g.counts.rows
