-- The first row, leaves and inputs.
-- Assumes nothing.
use Rattle.std.specs.Prelude.{ℕ, ◌+◌, ◌≡◌, List, [], Bool, true, ◌&&◌, length, set, ltb, leb, Result}
use Rattle.edge.specs.declared.answer.Given.{Given}
use Rattle.edge.specs.declared.answer.Refusal.{Refusal}
use Rattle.rows.specs.Sizes.{max_rows, max_entries, fits, rows_lent, rows_fit}
use Rattle.graph.specs.declared.Counts.{Counts}
use Rattle.graph.specs.Graph.{no_counts}
use Rattle.build_leaves.specs.declared.calls.Built.{Built}
use Rattle.build_leaves.specs.declared.calls.Added.{Added}
use Rattle.build_leaves.specs.Calls.{constructor_answer, counted, left, Seen, call_of, built_seen, added_seen, SameBuilt, SameAdded, built_determined, added_determined}
use Rattle.gates.specs.Gates.{first_row, leaf_added}

-- ---- the first row
-- `new` has row 0 alone. It is lent rows and no counts.
unfoldable pub new_call : List ℕ → Seen
new_call rows =
    call_of (constructor_answer (leb (rows_lent rows) max_rows) true (ltb 0 (rows_lent rows))) rows [] no_counts (left (first_row rows) [] (counted no_counts 1 0 0) 0)

-- ---- a leaf
abbrev pub free_row : List ℕ → ℕ → Bool
free_row rows used = ltb used (rows_lent rows)

unfoldable pub leaf_answer : List ℕ → ℕ → Given
leaf_answer rows used = constructor_answer (rows_fit used rows) true (free_row rows used)

unfoldable pub leaf_call : List ℕ → Counts → Seen
leaf_call rows n =
    call_of (leaf_answer rows n.rows) rows [] n
    (left (leaf_added rows n.rows) [] (counted n (n.rows + 1) n.inputs n.latches) n.rows)

-- ---- calls that take the next entry of a list, of which n of so many entries are used
-- where the argument is `good`, and `row` says that a row is free or that none is needed
abbrev pub entry_answer : List ℕ → ℕ → ℕ → ℕ → Bool → Bool → Given
entry_answer rows used n lent good row =
    constructor_answer (rows_fit used rows && fits n lent max_entries) good (row && ltb n lent)

-- ---- inputs
unfoldable pub input_answer : List ℕ → List ℕ → Counts → Bool → Bool → Given
input_answer rows inputs n good row = entry_answer rows n.rows n.inputs (length inputs) good row

-- a new leaf, listed
unfoldable pub new_input_call : List ℕ → List ℕ → Counts → Seen
new_input_call rows inputs n =
    call_of (input_answer rows inputs n true (free_row rows n.rows)) rows inputs n
    (left (leaf_added rows n.rows) (set inputs n.inputs n.rows) (counted n (n.rows + 1) (n.inputs + 1) n.latches) n.rows)

-- "So `add_input` and `add_latch` take any used id"
unfoldable pub add_input_call : List ℕ → List ℕ → Counts → ℕ → Seen
add_input_call rows inputs n input =
    call_of (input_answer rows inputs n (ltb input n.rows) true) rows inputs n
    (left rows (set inputs n.inputs input) (counted n n.rows (n.inputs + 1) n.latches) input)

-- ---- any two results that a promise allows are equal, call by call
pub new_determined : (rows : List ℕ) (r s : Result Built Refusal) (x y : List ℕ) → built_seen no_counts r x ≡ new_call rows → built_seen no_counts s y ≡ new_call rows → SameBuilt r x s y
new_determined rows = built_determined new_call rows no_counts

pub leaf_determined : (rows : List ℕ) (n : Counts) (r s : Result Added Refusal) (x y v w : List ℕ) → added_seen n r x v ≡ leaf_call rows n → added_seen n s y w ≡ leaf_call rows n
    → SameAdded r x v s y w
leaf_determined rows n = added_determined (leaf_call rows) n n

pub new_input_determined : (rows inputs : List ℕ) (n : Counts) (r s : Result Added Refusal) (x y v w : List ℕ) → added_seen n r x v ≡ new_input_call rows inputs n
    → added_seen n s y w ≡ new_input_call rows inputs n → SameAdded r x v s y w
new_input_determined rows inputs n = added_determined (new_input_call rows inputs) n n

pub add_input_determined : (rows inputs : List ℕ) (n : Counts) (id : ℕ) (r s : Result Added Refusal) (x y v w : List ℕ) → added_seen n r x v ≡ add_input_call rows inputs n id
    → added_seen n s y w ≡ add_input_call rows inputs n id → SameAdded r x v s y w
add_input_determined rows inputs n id = added_determined (add_input_call rows inputs n) id n
