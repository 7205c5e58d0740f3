-- The constructors that make an edge.
-- Assumes nothing.
use Rattle.std.specs.Prelude.{ℕ, List, [], ◌∷◌, Bool, true, false, ◌&&◌, length, leb, ◌≡◌, is_none, Result}
use Rattle.edge.specs.Edges.{complement}
use Rattle.edge.specs.declared.answer.Refusal.{Refusal}
use Rattle.rows.specs.Sizes.{max_entries, rows_lent, rows_fit}
use Rattle.graph.specs.declared.Counts.{Counts}
use Rattle.graph.specs.Search.{first_bad}
use Rattle.graph.specs.Leaves.{good_edge}
use Rattle.build_leaves.specs.declared.calls.Built.{Built}
use Rattle.build_leaves.specs.Calls.{constructor_answer, counted, left, Seen, call_of, built_seen, SameBuilt, built_determined}
use Rattle.gates.specs.Gates.{State}
use Rattle.gates.specs.Lists.{list_of, eq_of}

-- every edge of the list is one to a used row
unfoldable pub all_used : ℕ → List ℕ → Bool
all_used used es = is_none (first_bad (good_edge used es) 0 (length es))

-- "used rows 0 or above the lent rows, a limit passed by rows or a list"
abbrev pub gate_sizes : List ℕ → ℕ → List ℕ → Bool
gate_sizes rows used es = rows_fit used rows && leb (length es) max_entries

-- of the edges es, s is what is built: "refused whole or done whole"
unfoldable pub gate_call : List ℕ → Counts → List ℕ → State → Seen
gate_call rows counts es s =
    call_of (constructor_answer (gate_sizes rows counts.rows es) (all_used counts.rows es) (leb s.used (rows_lent rows))) rows [] counts
    (left s.rows [] (counted counts s.used counts.inputs counts.latches) s.edge)

unfoldable pub list_call : Bool → Bool → List ℕ → Counts → List ℕ → Seen
list_call trivial or rows counts es = gate_call rows counts es (list_of trivial or rows counts.rows es)

-- two edges are the list of the two
abbrev pub pair_call : Bool → Bool → List ℕ → Counts → ℕ → ℕ → Seen
pair_call trivial or rows counts a b = list_call trivial or rows counts (a ∷ (b ∷ []))

abbrev pub imply_call : List ℕ → Counts → ℕ → ℕ → Seen
imply_call rows counts a b = pair_call false true rows counts (complement a) b

unfoldable pub eq_call : List ℕ → Counts → ℕ → ℕ → Seen
eq_call rows counts a b = gate_call rows counts (a ∷ (b ∷ [])) (eq_of rows counts.rows a b)

-- ---- any two results that a promise allows are equal; two edges are a list, and so is an implication
pub list_determined : (trivial or : Bool) (rows : List ℕ) (n : Counts) (es : List ℕ) (r s : Result Built Refusal) (x y : List ℕ)
    → built_seen n r x ≡ list_call trivial or rows n es → built_seen n s y ≡ list_call trivial or rows n es → SameBuilt r x s y
list_determined trivial or rows n es = built_determined (list_call trivial or rows n) es n

pub eq_determined : (rows : List ℕ) (n : Counts) (a b : ℕ) (r s : Result Built Refusal) (x y : List ℕ) → built_seen n r x ≡ eq_call rows n a b
    → built_seen n s y ≡ eq_call rows n a b → SameBuilt r x s y
eq_determined rows n a b = built_determined (eq_call rows n a) b n
