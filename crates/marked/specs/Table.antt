-- Document 01's marked cases, M1 to M13: the one table that is proved and that the program `marked_run` runs. Rooms and marks hold sevens before the call.
-- Assumes nothing.
use Rattle.std.specs.Prelude.{ℕ, List, [], ◌∷◌, ◌++◌, true, false, replicate}
use Rattle.edge.specs.Answers.{done, no_room}
use Rattle.rows.specs.Rows.{none}
use Rattle.graph.specs.declared.Counts.{Counts}
use Rattle.graph.specs.Graph.{Lent, lent}
use Rattle.sulandiro_words.specs.Words.{counts_from, count_words}
use Rattle.ternary_run.specs.Codes.{unknown}
use Rattle.cnf.specs.Examples.{table as rows_of, graph_of, X}
use Rattle.marked.specs.Cases.{Call, new_and, new_eq, simulate, clauses, reencode, unroll, Seen, seen, lists_of, Case, case}

abbrev sevens : ℕ → List ℕ
sevens n = replicate n 7

abbrev zeros : ℕ → List ℕ
zeros n = replicate n 0

-- ---- constructors: so many rows are used and nothing is listed
abbrev used_rows : ℕ → Counts
used_rows n = counts_from n 0 0 0 0 0 0 0 0

-- so many rows are used afterwards, this edge was made, and the rows are these
abbrev built : ℕ → ℕ → List ℕ → Seen
built n edge rows = seen done (count_words (used_rows n) ++ (edge ∷ [])) (rows ∷ [])

-- rows 0, leaf 1 and leaf 2, and these words behind them
abbrev three : List ℕ → List ℕ
three words = rows_of 2 words

-- the call on those three, in a table that is full, makes this edge and no row
abbrev no_row : ℕ → (List ℕ → Counts → ℕ → ℕ → Call) → ℕ → ℕ → ℕ → Case
no_row mark call a b edge = case mark (call (three []) (used_rows 3) a b) (built 3 edge (three []))

-- ---- clauses: so many words, the whole buffer, and the marks of so many rows
abbrev wrote : ℕ → List ℕ → ℕ → Seen
wrote words buffer rows = seen done (words ∷ []) (buffer ∷ zeros rows ∷ [])

-- ---- graphs with one latch and no roots
abbrev one_latch : List ℕ → List ℕ → List ℕ → Counts → Lent
one_latch rows inputs latches counts = lent rows inputs latches [] [] [] [] [] [] counts

-- the graph that was written, and the marks
abbrev rebuilt : Lent → List ℕ → Seen
rebuilt g marks = seen done (count_words g.counts) (lists_of g ++ (marks ∷ []))

-- "leaves 1, 2, inputs 2, latch (1, 4, 5)": three rows, one input, one latch
abbrev mixed : List ℕ → List ℕ → List ℕ → Lent
mixed rows inputs latches = one_latch rows inputs latches (counts_from 3 1 1 0 0 0 0 0 0)

-- "latch 1 with next 3": row 0 and leaf 1, with these words behind them; its init is none
abbrev latch1 : List ℕ → ℕ → Lent
latch1 words next = one_latch (rows_of 1 words) [] (1 ∷ next ∷ none ∷ []) (counts_from 2 0 1 0 0 0 0 0 0)

unfoldable pub table : List Case
table =
    -- "M1 and(2,2) is 2; M2 and(2,3) is 0; M3 and(1,5) is 5; M4 and(0,5) is 0: no row"
    no_row 1 new_and 2 2 2
    ∷ no_row 2 new_and 2 3 0
    ∷ no_row 3 new_and 1 5 5
    ∷ no_row 4 new_and 0 5 0
    -- "M5 three used rows: and(4,2) adds row 3 = (2,4), answers 6"
    ∷ case 5 (new_and (three (sevens 2)) (used_rows 3) 4 2) (built 4 6 (three (2 ∷ 4 ∷ [])))
    -- "eq(2,4) on those three adds X's last rows and answers 11"
    ∷ case 5 (new_eq (three (sevens 6)) (used_rows 3) 2 4) (built 6 11 X.rows)
    -- "M6 eq(2,2) is 1, no row"
    ∷ no_row 6 new_eq 2 2 1
    -- "M7 a gate (2,3) over an unknown leaf is unknown": values of row 0, the leaf and the gate
    ∷ case 7 (simulate (graph_of (rows_of 1 (2 ∷ 3 ∷ [])) 3 (1 ∷ []) []) (unknown ∷ []) [] (sevens 3) (sevens 3)) (seen done [] ((0 ∷ unknown ∷ unknown ∷ []) ∷ zeros 3 ∷ []))
    -- "though `new_and_node` folds it"
    ∷ case 7 (new_and (rows_of 1 (sevens 2)) (used_rows 2) 2 3) (built 2 0 (rows_of 1 (sevens 2)))
    -- "M8 X, shortcuts on, whole buffer: 1 1, 3 11 2 4, 3 11 3 5, 3 10 3 4, 3 10 2 5 (18 words)"
    ∷ case 8 (clauses X true (sevens 18) (sevens 6)) (wrote 18 (1 ∷ 1 ∷ 3 ∷ 11 ∷ 2 ∷ 4 ∷ 3 ∷ 11 ∷ 3 ∷ 5 ∷ 3 ∷ 10 ∷ 3 ∷ 4 ∷ 3 ∷ 10 ∷ 2 ∷ 5 ∷ []) 6)
    -- "M9 X, off: 1 1, 2 11 7, 2 11 9, 3 10 6 8, 2 9 3, 2 9 5, 3 8 2 4, 2 7 2, 2 7 4, 3 6 3 5 (32 words)"
    ∷ case 9 (clauses X false (sevens 32) (sevens 6))
    (wrote 32 (1 ∷ 1 ∷ 2 ∷ 11 ∷ 7 ∷ 2 ∷ 11 ∷ 9 ∷ 3 ∷ 10 ∷ 6 ∷ 8 ∷ 2 ∷ 9 ∷ 3 ∷ 2 ∷ 9 ∷ 5 ∷ 3 ∷ 8 ∷ 2 ∷ 4 ∷ 2 ∷ 7 ∷ 2 ∷ 2 ∷ 7 ∷ 4 ∷ 3 ∷ 6 ∷ 3 ∷ 5 ∷ []) 6)
    -- "A buffer of 31: answer 5, untouched"
    ∷ case 9 (clauses X false (sevens 31) (sevens 6)) (seen no_room (0 ∷ []) (sevens 31 ∷ zeros 6 ∷ []))
    -- "M10 rows 4 = (2,5), 5 = (3,7), 6 = (9,11) over inputs 1 to 3: if 1 then 2 else 3", with 12 as the output: the four clauses of an if-then-else
    ∷ case 10 (clauses (graph_of (rows_of 3 (2 ∷ 5 ∷ 3 ∷ 7 ∷ 9 ∷ 11 ∷ [])) 7 (1 ∷ 2 ∷ 3 ∷ []) (12 ∷ [])) true (sevens 18) (sevens 7))
    (wrote 18 (1 ∷ 1 ∷ 3 ∷ 13 ∷ 3 ∷ 4 ∷ 3 ∷ 13 ∷ 2 ∷ 6 ∷ 3 ∷ 12 ∷ 3 ∷ 5 ∷ 3 ∷ 12 ∷ 2 ∷ 7 ∷ []) 7)
    -- "M11 row 0 alone, no roots: 1 1", with shortcuts and without
    ∷ case 11 (clauses (graph_of (rows_of 0 []) 1 [] []) true (sevens 3) (sevens 1)) (wrote 2 (1 ∷ 1 ∷ 7 ∷ []) 1)
    ∷ case 11 (clauses (graph_of (rows_of 0 []) 1 [] []) false (sevens 3) (sevens 1)) (wrote 2 (1 ∷ 1 ∷ 7 ∷ []) 1)
    -- "M12 reencode of leaves 1, 2, inputs 2, latch (1, 4, 5) gives latch (2, 2, 3); the Rust has init 5"
    ∷ case 12 (reencode (mixed (three []) (2 ∷ []) (1 ∷ 4 ∷ 5 ∷ [])) (mixed (sevens 6) (sevens 1) (sevens 3)) (sevens 3))
    (rebuilt (mixed (three []) (1 ∷ []) (2 ∷ 2 ∷ 3 ∷ [])) (zeros 3))
    -- "M13 latch 1 with next 3: one unroll makes next 2, no row"
    ∷ case 13 (unroll (latch1 (sevens 2) 3) (latch1 [] 3) (sevens 2)) (rebuilt (latch1 (sevens 2) 2) (zeros 2))
    ∷ []
