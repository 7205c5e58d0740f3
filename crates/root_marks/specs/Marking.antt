-- Marks on the rows of edges.
-- Assumes nothing.
use Rattle.std.specs.Prelude.{ℕ, List, [], ◌∷◌, set}
use Rattle.edge.specs.Edges.{id_of}

-- the rows of the edges are marked
unfoldable pub mark_edges : List ℕ → List ℕ → List ℕ
mark_edges [] marks = marks
mark_edges (e ∷ es) marks = mark_edges es (set marks (id_of e) 1)
