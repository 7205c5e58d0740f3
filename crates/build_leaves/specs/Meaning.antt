-- What building keeps and means, by the rules of the AIGER paper.
-- Assumes nothing.
use Rattle.std.specs.Prelude.{ℕ, ◌+◌, ◌*◌, ◌≤◌, ◌<◌, ◌≡◌, Bool, true, List, get_or}
use Rattle.rows.specs.Sizes.{rows_lent}
use Rattle.rows.specs.Rows.{leaf_at, AllRows}
use Rattle.rows.specs.Value.{value}
use Rattle.graph.specs.declared.Counts.{Counts}
use Rattle.build_leaves.specs.Calls.{Left}
use Rattle.build_leaves.specs.Leaves.{new_call, leaf_call, new_input_call}

-- ---- what a call leaves of the rows
pub record Keeps (rows : List ℕ) (used : ℕ) (after : Left) : Type 0 where
  -- every row that was there keeps its words, and its value under every choice of leaf values
  pub words : (k : ℕ) → k < 2 * used → get_or after.rows k 0 ≡ get_or rows k 0
  pub values : (leaf : ℕ → Bool) (i : ℕ) → i < used → value after.rows leaf i ≡ value rows leaf i
  -- "every used row is as above", still
  pub good : AllRows rows used → AllRows after.rows after.counts.rows
  -- the used rows are within those lent, still
  pub more : used ≤ after.counts.rows
  pub within : after.counts.rows ≤ rows_lent after.rows

-- ---- a leaf that was made: the first free row, and its value is as chosen
pub record IsLeaf (rows : List ℕ) (used : ℕ) (after : Left) : Type 0 where
  pub keeps : Keeps rows used after
  pub id : after.made ≡ used
  pub next : after.counts.rows ≡ used + 1
  pub is_leaf : leaf_at after.rows used ≡ true
  pub chosen : (leaf : ℕ → Bool) → value after.rows leaf used ≡ leaf used

pub record Leaves (rows : List ℕ) (n : Counts) : Type 0 where
  pub first : (new_call rows).given.number ≡ 0 → AllRows (new_call rows).left.rows 1
  pub leaf : (leaf_call rows n).given.number ≡ 0 → IsLeaf rows n.rows (leaf_call rows n).left
  pub input : (inputs : List ℕ) → (new_input_call rows inputs n).given.number ≡ 0 → IsLeaf rows n.rows (new_input_call rows inputs n).left
