-- Latches: each takes the next entry of the table.
-- Assumes nothing.
use Rattle.std.specs.Prelude.{ℕ, ◌+◌, ◌≡◌, List, Bool, true, ◌&&◌, ltb, Result}
use Rattle.edge.specs.declared.answer.Given.{Given}
use Rattle.edge.specs.declared.answer.Refusal.{Refusal}
use Rattle.graph.specs.declared.Counts.{Counts}
use Rattle.graph.specs.Latches.{latch, latches_lent, latch_set}
use Rattle.graph.specs.Leaves.{latch_edges}
use Rattle.gates.specs.Gates.{leaf_added}
use Rattle.build_leaves.specs.declared.calls.Added.{Added}
use Rattle.build_leaves.specs.Calls.{counted, left, Seen, call_of, added_seen, SameAdded, added_determined}
use Rattle.build_leaves.specs.Leaves.{free_row, entry_answer}

-- with so many latches lent
unfoldable pub latch_answer : List ℕ → ℕ → Counts → Bool → Bool → Given
latch_answer rows lent n good row = entry_answer rows n.rows n.latches lent good row

-- "4 for an edge .. that is not used (the none word as init is no edge)": the new row is not used yet
unfoldable pub new_latch_call : List ℕ → List ℕ → Counts → ℕ → ℕ → Seen
new_latch_call rows latches n next init =
    call_of (latch_answer rows (latches_lent latches) n (latch_edges n.rows (latch n.rows next init)) (free_row rows n.rows)) rows latches n
    (left (leaf_added rows n.rows) (latch_set latches n.latches (latch n.rows next init)) (counted n (n.rows + 1) n.inputs (n.latches + 1)) n.rows)

unfoldable pub add_latch_call : List ℕ → List ℕ → Counts → ℕ → ℕ → ℕ → Seen
add_latch_call rows latches n input next init =
    call_of (latch_answer rows (latches_lent latches) n (ltb input n.rows && latch_edges n.rows (latch input next init)) true) rows latches n
    (left rows (latch_set latches n.latches (latch input next init)) (counted n n.rows n.inputs (n.latches + 1)) input)

-- ---- any two results that a promise allows are equal, call by call
pub new_latch_determined : (rows latches : List ℕ) (n : Counts) (next init : ℕ) (r s : Result Added Refusal) (x y v w : List ℕ)
    → added_seen n r x v ≡ new_latch_call rows latches n next init → added_seen n s y w ≡ new_latch_call rows latches n next init → SameAdded r x v s y w
new_latch_determined rows latches n next init = added_determined (new_latch_call rows latches n next) init n

pub add_latch_determined : (rows latches : List ℕ) (n : Counts) (id next init : ℕ) (r s : Result Added Refusal) (x y v w : List ℕ)
    → added_seen n r x v ≡ add_latch_call rows latches n id next init → added_seen n s y w ≡ add_latch_call rows latches n id next init → SameAdded r x v s y w
add_latch_determined rows latches n id next init = added_determined (add_latch_call rows latches n id next) init n
