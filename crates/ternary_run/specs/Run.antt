-- The run: "a step writes every row's value, then each latch takes its next's value".
-- Assumes nothing.
use Rattle.std.specs.Prelude.{ℕ, zero, suc, cond, List, [], ◌∷◌, ◌++◌, get_or, set, replicate}
use Rattle.edge.specs.Edges.{id_of}
use Rattle.rows.specs.Rows.{word0, word1, gate_at}
use Rattle.graph.specs.declared.Counts.{Counts}
use Rattle.graph.specs.Latches.{latch_at}
use Rattle.graph.specs.Graph.{Lent}
use Rattle.ternary_run.specs.Codes.{unknown, and3, edge3}

-- row 0 is false, and every other row is not known yet: "orphans are unknown"
abbrev pub blank : ℕ → List ℕ
blank used = set (replicate used unknown) 0 0

-- the rows that n entries name take their codes
unfoldable pub placed : (ℕ → ℕ) → List ℕ → ℕ → List ℕ → List ℕ
placed row codes zero into = into
placed row codes (suc n) into = set (placed row codes n into) (row n) (get_or codes n 0)

-- the rows that the lists name
abbrev pub input_row : List ℕ → ℕ → ℕ
input_row inputs i = get_or inputs i 0

abbrev pub latch_row : List ℕ → ℕ → ℕ
latch_row latches i = (latch_at latches i).input

-- the row of a latch's next
abbrev pub next_row : List ℕ → ℕ → ℕ
next_row latches i = id_of (latch_at latches i).next

-- the codes of the leaves: of the inputs, of the latches, and of the others
abbrev pub leaves : List ℕ → List ℕ → Counts → List ℕ → List ℕ → List ℕ
leaves inputs latches counts input state =
    placed (latch_row latches) state counts.latches (placed (input_row inputs) input counts.inputs (blank counts.rows))

-- row i, where `below` holds the rows below it: a gate is the and of its edges, any other row is as in `leaves`
unfoldable pub row3 : List ℕ → List ℕ → ℕ → List ℕ → ℕ
row3 rows leaves i below = cond (gate_at rows i) (and3 (edge3 below (word0 rows i)) (edge3 below (word1 rows i))) (get_or leaves i 0)

-- the first n rows, one after the other
unfoldable pub rows3 : List ℕ → List ℕ → ℕ → List ℕ
rows3 rows leaves zero = []
rows3 rows leaves (suc n) = rows3 rows leaves n ++ (row3 rows leaves n (rows3 rows leaves n) ∷ [])

-- "a step writes every row's value": the codes of the used rows
unfoldable pub codes_of : List ℕ → List ℕ → List ℕ → Counts → List ℕ → List ℕ → List ℕ
codes_of rows inputs latches counts input state = rows3 rows (leaves inputs latches counts input state) counts.rows

abbrev pub run : Lent → List ℕ → List ℕ → List ℕ
run g input state = codes_of g.rows g.inputs g.latches g.counts input state

-- "then each latch takes its next's value": the first m latches, where codes holds the rows' codes
unfoldable pub nexts : List ℕ → List ℕ → ℕ → List ℕ
nexts latches codes zero = []
nexts latches codes (suc m) = nexts latches codes m ++ (edge3 codes (latch_at latches m).next ∷ [])

-- the state after a step
abbrev pub next : Lent → List ℕ → List ℕ → List ℕ
next g input state = nexts g.latches (run g input state) g.counts.latches

-- the state before frame k, where frame j has the input `input j`
unfoldable pub state_at : Lent → (ℕ → List ℕ) → List ℕ → ℕ → List ℕ
state_at g input state zero = state
state_at g input state (suc k) = next g (input k) (state_at g input state k)

-- and what frame k gives every used row
abbrev pub frame : Lent → (ℕ → List ℕ) → List ℕ → ℕ → List ℕ
frame g input state k = run g (input k) (state_at g input state k)
