-- Which rows are kept: the cone of influence of the graph's own roots.
-- Assumes nothing.
use Rattle.std.specs.Prelude.{ℕ, zero, suc, ◌*◌, List, [], ◌∷◌, ◌++◌, map, cond, ◌||◌, eqb}
use Rattle.edge.specs.Edges.{id_of}
use Rattle.rows.specs.Rows.{none}
use Rattle.graph.specs.declared.latch.Latch.{Latch}
use Rattle.graph.specs.Latches.{latch_at, latch_inputs}
use Rattle.graph.specs.Graph.{Lent}
use Rattle.root_marks.specs.Roots.{list_roots_in, roots_of}
use Rattle.cone.specs.Cone.{cone_of}
use Rattle.coi.specs.Coi.{coi_of}

-- "every non-constant init": of one latch, and of the first n
unfoldable pub init_root : Latch → List ℕ
init_root l = cond (eqb l.init none || eqb (id_of l.init) 0) [] (l.init ∷ [])

unfoldable pub init_roots : List ℕ → ℕ → List ℕ
init_roots latches zero = []
init_roots latches (suc n) = init_roots latches n ++ init_root (latch_at latches n)

-- "the five root lists"
abbrev pub list_roots : Lent → List ℕ
list_roots g = list_roots_in g.constraints g.bads g.outputs g.edges g.fairness g.counts

-- "`coi_refine` roots are the five root lists, every latch input and every non-constant init": their rows
unfoldable pub refine_roots : Lent → List ℕ
refine_roots g = map id_of (list_roots g ++ init_roots g.latches g.counts.latches) ++ latch_inputs g.latches g.counts.latches

-- a flag for each used row: the rows that `coi` flags from these roots
unfoldable pub kept_flags : Lent → List ℕ
kept_flags g = coi_of g (refine_roots g)

-- ---- the same without a search across latches
-- the edges to the first n latches' inputs
unfoldable pub input_edges : List ℕ → ℕ → List ℕ
input_edges latches zero = []
input_edges latches (suc n) = input_edges latches n ++ (2 * (latch_at latches n).input ∷ [])

-- Every latch input is a root, so that every latch is crossed: its next may as well be a root. Row 0 is kept anyway, so that a constant init adds nothing.
abbrev pub kept_edges : Lent → List ℕ
kept_edges g = 0 ∷ (roots_of g ++ input_edges g.latches g.counts.latches)

-- then their cone is enough
abbrev pub kept_cone : Lent → List ℕ
kept_cone g = cone_of g.rows g.counts.rows (kept_edges g)
