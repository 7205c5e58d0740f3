-- What `new_latch` keeps and makes.
-- Assumes nothing.
use Rattle.std.specs.Prelude.{ℕ, ◌≡◌, List}
use Rattle.graph.specs.declared.Counts.{Counts}
use Rattle.build_leaves.specs.Meaning.{IsLeaf}
use Rattle.build_latches.specs.Latches.{new_latch_call}

-- `new_latch` makes a leaf
abbrev pub LatchLeaf : List ℕ → Counts → Type 0
LatchLeaf rows n = (latches : List ℕ) (next init : ℕ) → (new_latch_call rows latches n next init).given.number ≡ 0 → IsLeaf rows n.rows (new_latch_call rows latches n next init).left
