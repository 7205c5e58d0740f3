-- Graphs of document 01's clauses: what its "Shut out by name" and its "Errors that tempt" name.
-- Assumes nothing.
use Rattle.std.specs.Prelude.{ℕ, zero, suc, Bool, true, false, not, ◌≡◌, List, [], ◌∷◌, ◌++◌, length, replicate, eqb}
use Rattle.rows.specs.Rows.{false_word, none}
use Rattle.rows.specs.Value.{value}
use Rattle.graph.specs.Graph.{Lent, lent}
use Rattle.root_marks.specs.Marking.{mark_edges}
use Rattle.gate_clauses.specs.declared.Shape.TheVariants.{Plain, Xor}
use Rattle.gate_clauses.specs.Shapes.{shape_of}
use Rattle.cnf.specs.Clauses.{walk, cnf_of}
use Rattle.cnf.specs.Meaning.{meets, Translates}

-- ---- tables: row 0, some leaves and some gates
abbrev leaves : ℕ → List ℕ
leaves zero = []
leaves (suc n) = none ∷ 0 ∷ leaves n

abbrev pub table : ℕ → List ℕ → List ℕ
table n gates = false_word ∷ 0 ∷ (leaves n ++ gates)

-- a graph of so many rows with these inputs and this output
abbrev pub graph_of : List ℕ → ℕ → List ℕ → List ℕ → Lent
graph_of rows used inputs outputs =
    lent rows inputs [] [] [] outputs [] [] []
    (record { rows = used; inputs = length inputs; latches = 0; constraints = 0; bads = 0; outputs = length outputs; sets = 0; edges = 0; fairness = 0 })

-- "Table X: rows 0, leaf 1, leaf 2, 3 = (2,4), 4 = (3,5), 5 = (7,9); inputs 1, 2; output 10"
abbrev pub X : Lent
X = graph_of (table 2 (2 ∷ 4 ∷ 3 ∷ 5 ∷ 7 ∷ 9 ∷ [])) 6 (1 ∷ 2 ∷ []) (10 ∷ [])

-- the same with (6,8) for the last gate, which is never true
abbrev pub never : Lent
never = graph_of (table 2 (2 ∷ 4 ∷ 3 ∷ 5 ∷ 6 ∷ 8 ∷ [])) 6 (1 ∷ 2 ∷ []) (10 ∷ [])

-- what document 01 says is "Shut out by name"
pub record ShutOut : Type 0 where
  -- "the one that writes only the unit clause": it does not translate X
  pub only_unit : Translates X ((1 ∷ []) ∷ []) → ⊥
  -- "one clause list for all graphs": no list translates both
  pub one_list : (clauses : List (List ℕ)) → Translates X clauses → Translates never clauses → ⊥

-- x xor false, by row 0: 2 = (2,0), 3 = (3,1), 4 = (5,7); output 8
abbrev pub over_row0 : Lent
over_row0 = graph_of (table 1 (2 ∷ 0 ∷ 3 ∷ 1 ∷ 5 ∷ 7 ∷ [])) 5 (1 ∷ []) (8 ∷ [])

-- row 0 and the output true, the leaf false
abbrev pub wrong : ℕ → Bool
wrong i = not (eqb i 1)

pub record Tempting : Type 0 where
  -- "Calling (¬m,¬m) with m = (x,¬x) an if-then-else": it is plain
  pub same_gate : shape_of true (table 1 (2 ∷ 3 ∷ 5 ∷ 5 ∷ [])) 5 5 ≡ Plain 5 5
  -- an xor of equal ids is not recognised, nor an if-then-else of equal ids
  pub same_ids_xor : shape_of true (table 1 (2 ∷ 2 ∷ 3 ∷ 3 ∷ 5 ∷ 7 ∷ [])) 5 7 ≡ Plain 5 7
  pub same_ids_ite : shape_of true (table 2 (2 ∷ 5 ∷ 3 ∷ 5 ∷ 7 ∷ 9 ∷ [])) 7 9 ≡ Plain 7 9
  -- "Leaving out the unit clause: a shortcut over row 0 is then free": this assignment meets the other clauses, and the circuit computes false
  pub over_row_0 : shape_of true over_row0.rows 5 7 ≡ Xor 2 0
  pub computes : value over_row0.rows wrong 4 ≡ false
  pub free_without : meets wrong (walk true over_row0.rows 5 (mark_edges (8 ∷ []) (replicate 5 0))) ≡ true
  pub not_free : meets wrong (cnf_of true over_row0) ≡ false
