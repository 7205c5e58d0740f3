-- The clauses of a graph: the unit clause, then those of each referenced gate "from the last row down".
-- Assumes nothing.
use Rattle.std.specs.Prelude.{ℕ, zero, suc, ◌*◌, Bool, cond, ◌&&◌, List, [], ◌∷◌, ◌++◌, get_or, replicate, eqb}
use Rattle.rows.specs.Rows.{word0, word1, gate_at}
use Rattle.graph.specs.Graph.{Lent}
use Rattle.root_marks.specs.Marking.{mark_edges}
use Rattle.root_marks.specs.Roots.{roots_of}
use Rattle.gate_clauses.specs.Shapes.{shape_of, operands, clauses_of, unit}
use Rattle.gate_clauses.specs.declared.Shape.{Shape}
use Rattle.gate_clauses.specs.declared.Shape.TheVariants.{Unwritten}

-- what row i is written as, where a mark of 1 says that a row is referenced: a gate that is has its shape, and no other row is written
unfoldable pub written_at : Bool → List ℕ → ℕ → List ℕ → Shape
written_at shortcuts rows i marks = cond (eqb (get_or marks i 0) 1 && gate_at rows i) (shape_of shortcuts rows (word0 rows i) (word1 rows i)) Unwritten

-- the rows below n, from row n - 1 down: "each referenced gate g is written, and its operands become referenced"
unfoldable pub walk : Bool → List ℕ → ℕ → List ℕ → List (List ℕ)
walk shortcuts rows zero marks = []
walk shortcuts rows (suc i) marks =
    let shape = written_at shortcuts rows i marks in
    clauses_of (2 * i) shape ++ walk shortcuts rows i (mark_edges (operands shape) marks)

-- the clauses of a table of rows, so many used, with these roots: "first comes the unit clause [1, 1]"
unfoldable pub clauses_in : Bool → List ℕ → ℕ → List ℕ → List (List ℕ)
clauses_in shortcuts rows used roots = unit ∷ walk shortcuts rows used (mark_edges roots (replicate used 0))

-- the clauses of a graph: "roots are every latch's next and init and the five root lists"
abbrev pub cnf_of : Bool → Lent → List (List ℕ)
cnf_of shortcuts g = clauses_in shortcuts g.rows g.counts.rows (roots_of g)
