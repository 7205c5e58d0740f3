-- What a reader wants of `compress_property`.
-- Assumes nothing.
use Rattle.std.specs.Prelude.{ℕ, ◌*◌, ◌≤◌, ◌<◌, ◌≡◌, Bool, true, false, List, length, get_or, leb}
use Rattle.edge.specs.Answers.{done}
use Rattle.edge.specs.Edges.{constant_of}
use Rattle.rows.specs.Sizes.{max_entries, rows_lent}
use Rattle.rows.specs.Value.{value}
use Rattle.graph.specs.Graph.{Lent, lent, Sized, value_in}
use Rattle.graph.specs.WellFormed.{WellFormed}
use Rattle.gates.specs.Meaning.{any_true}
use Rattle.graph.specs.Exactly.{Answers}
use Rattle.renumber.specs.Kept.{SameBefore}
use Rattle.output.specs.Meaning.{Front}
use Rattle.property.specs.Compress.{bads_of, or_of, one_bad, compress_room, compress_call}

-- the used rows of g stand in `after` with their words, and so with their values
pub record RowsKept (g after : Lent) : Type 0 where
  pub more : g.counts.rows ≤ after.counts.rows
  pub words : SameBefore (2 * g.counts.rows) g.rows after.rows
  pub values : (leaf : ℕ → Bool) (i : ℕ) → i < g.counts.rows → value after.rows leaf i ≡ value g.rows leaf i

-- ---- all bads become one
-- what is lent is right, and there is room
pub record CompressLent (g : Lent) (old : List ℕ) (marks : ℕ) : Type 0 where
  pub limited : length old ≤ max_entries
  pub sized : Sized g marks
  pub well_formed : WellFormed g
  pub rows : (or_of g).used ≤ rows_lent g.rows
  pub one : 0 < length g.bads
  pub back : g.counts.bads ≤ length old

pub record OneBad (g after : Lent) : Type 0 where
  pub kept : RowsKept g after
  pub counts : after.counts ≡ one_bad g.counts after.counts.rows
  -- "the or of all": it is true exactly if some old bad is, whatever the leaves' values
  pub bad : (leaf : ℕ → Bool) → value_in after leaf (get_or after.bads 0 0) ≡ any_true (value_in g leaf) (bads_of g)
  -- "constant false if there were none"
  pub no_bad : g.counts.bads ≡ 0 → get_or after.bads 0 0 ≡ constant_of false
  -- the bad words past it, and every other list, are as they were
  pub past : (j : ℕ) → 0 < j → get_or after.bads j 0 ≡ get_or g.bads j 0
  pub others : after ≡ lent after.rows g.inputs g.latches g.constraints after.bads g.outputs g.ends g.edges g.fairness after.counts
  -- the result may be given to any call
  pub sized : (marks : ℕ) → after.counts.rows ≤ marks → Sized after marks
  pub well_formed : WellFormed after

-- `compress_property` is done exactly where what is lent is right and there is room. Else the graph and the room for the old list are as they were.
pub record CompressRight (g : Lent) (old marks : List ℕ) : Type 0 where
  pub accepts : CompressLent g old (length marks) → (compress_call g old marks).given ≡ done
  pub accepted : (compress_call g old marks).given.number ≡ 0 → CompressLent g old (length marks)
  -- each answer exactly in its case, and the marks
  pub answers : Answers (leb (length old) max_entries) true (compress_room g old) g marks (compress_call g old marks).given (compress_call g old marks).marks
  pub compresses : (compress_call g old marks).given.number ≡ 0 → OneBad g (compress_call g old marks).graph
  -- "hands back the old list", at the front of the list lent for it
  pub hands_back : (compress_call g old marks).given.number ≡ 0 → Front g.counts.bads g.bads old (compress_call g old marks).old
  pub refused : ((compress_call g old marks).given.number ≡ 0 → ⊥) → ((compress_call g old marks).graph ≡ g) × ((compress_call g old marks).old ≡ old)
