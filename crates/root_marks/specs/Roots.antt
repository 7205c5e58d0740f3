-- "Roots are every latch's next and init and the five root lists."
-- Assumes nothing.
use Rattle.std.specs.Prelude.{ℕ, zero, suc, cond, List, [], ◌∷◌, ◌++◌, take, eqb}
use Rattle.rows.specs.Rows.{none}
use Rattle.graph.specs.declared.Counts.{Counts}
use Rattle.graph.specs.declared.latch.Latch.{Latch}
use Rattle.graph.specs.Latches.{latch_at}
use Rattle.graph.specs.Graph.{Lent}

-- a latch's next, and its init where it has one
unfoldable pub latch_root : Latch → List ℕ
latch_root l = l.next ∷ cond (eqb l.init none) [] (l.init ∷ [])

-- those of the first n latches
unfoldable pub latch_roots : List ℕ → ℕ → List ℕ
latch_roots latches zero = []
latch_roots latches (suc n) = latch_roots latches n ++ latch_root (latch_at latches n)

-- "the five root lists"
abbrev pub list_roots_in : List ℕ → List ℕ → List ℕ → List ℕ → List ℕ → Counts → List ℕ
list_roots_in constraints bads outputs edges fairness n =
    take n.constraints constraints
    ++ (take n.bads bads
    ++ (take n.outputs outputs
    ++ (take n.edges edges
    ++ take n.fairness fairness)))

abbrev pub roots_in : List ℕ → List ℕ → List ℕ → List ℕ → List ℕ → List ℕ → Counts → List ℕ
roots_in latches constraints bads outputs edges fairness n = latch_roots latches n.latches ++ list_roots_in constraints bads outputs edges fairness n

-- the roots of a graph
abbrev pub roots_of : Lent → List ℕ
roots_of g = roots_in g.latches g.constraints g.bads g.outputs g.edges g.fairness g.counts
