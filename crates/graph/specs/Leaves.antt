-- Lists 1 and 2: which entry is bad. "Each input id and latch input is a used leaf, and no leaf is listed twice over inputs and latches together."
-- Assumes nothing.
use Rattle.std.specs.Prelude.{ℕ, ◌<◌, ◌≡◌, List, [], ◌∷◌, ◌++◌, Bool, false, not, ◌&&◌, ◌||◌, get_or, take, ltb, eqb}
use Rattle.edge.specs.Edges.{id_of}
use Rattle.rows.specs.Rows.{none, leaf_at}
use Rattle.graph.specs.declared.latch.Latch.{Latch}
use Rattle.graph.specs.Latches.{latch_at, latch_inputs}

-- "every edge has id below the used count"
abbrev pub used_edge : ℕ → ℕ → Bool
used_edge used e = ltb (id_of e) used

abbrev pub good_edge : ℕ → List ℕ → ℕ → Bool
good_edge used list i = used_edge used (get_or list i 0)

unfoldable pub member : ℕ → List ℕ → Bool
member x [] = false
member x (y ∷ ys) = eqb x y || member x ys

-- a used leaf that is not among those listed before: "a leaf listed twice is bad at its later mention"
unfoldable pub free_leaf : List ℕ → ℕ → List ℕ → ℕ → Bool
free_leaf rows used before x = ltb x used && leaf_at rows x && not (member x before)

abbrev pub good_input : List ℕ → ℕ → List ℕ → ℕ → Bool
good_input rows used inputs i = free_leaf rows used (take i inputs) (get_or inputs i 0)

-- next is an edge, and init an edge or none
unfoldable pub latch_edges : ℕ → Latch → Bool
latch_edges used l = used_edge used l.next && (eqb l.init none || used_edge used l.init)

-- latch i, where `listed` are the ids of the used inputs, which are listed before all latches
abbrev pub good_latch : List ℕ → ℕ → List ℕ → List ℕ → ℕ → Bool
good_latch rows used listed latches i =
    free_leaf rows used (listed ++ latch_inputs latches i) (latch_at latches i).input && latch_edges used (latch_at latches i)

-- ---- the marks say which rows are listed: a mark that is not 0 stands for a listed row
abbrev pub Marks : ℕ → List ℕ → List ℕ → Type 0
Marks used listed marks = (x : ℕ) → x < used → eqb (get_or marks x 0) 0 ≡ not (member x listed)
