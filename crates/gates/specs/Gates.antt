-- Gates: how one is added after the used rows, and when the AND of two edges folds to an edge that is there already.
-- Assumes nothing.
use Rattle.std.specs.Prelude.{ℕ, ◌+◌, ◌*◌, ◌≤◌, ◌≡◌, ◌⊎◌, List, [], ◌∷◌, Bool, true, false, cond, length, set, eqb, ltb, leb, Option, Some, None}
use Rattle.edge.specs.Edges.{id_of, complement, constant_of}
use Rattle.rows.specs.Rows.{false_word, none}
use Rattle.gates.specs.declared.Grown.{Grown}

-- ---- building: a table of rows, how many of them are used, and the edge that was built
pub record State : Type 0 where
  pub rows : List ℕ
  pub used : ℕ
  pub edge : ℕ

abbrev pub state : List ℕ → ℕ → ℕ → State
state rows used edge = record { rows = rows; used = used; edge = edge }

abbrev pub state_of : List ℕ → Grown → State
state_of rows r = state rows r.used r.edge

-- "New rows are written into the free rows after the used ones": a and b as the next row. Where it is not lent, nothing is written; so
-- building on no rows counts the need.
unfoldable pub row_added : List ℕ → ℕ → ℕ → ℕ → List ℕ
row_added rows used a b = cond (leb (2 * used + 2) (length rows)) (set (set rows (2 * used) a) (2 * used + 1) b) rows

-- "Row 0 is (4294967294, 0)"
abbrev pub first_row : List ℕ → List ℕ
first_row rows = row_added rows 0 false_word 0

-- "A leaf, at any later row, is (4294967295, 0)"
abbrev pub leaf_added : List ℕ → ℕ → List ℕ
leaf_added rows used = row_added rows used none 0

-- ---- the order of a gate's two edges: "puts the smaller id first, keeps the given order for equal ids"
abbrev pub Sorted : ℕ → ℕ → Type 0
Sorted x y = id_of x ≤ id_of y

-- x and y are a and b in order
pub record Ordered (a b x y : ℕ) : Type 0 where
  pub sorted : Sorted x y
  pub either : ((x ≡ a) × (y ≡ b)) ⊎ ((x ≡ b) × (y ≡ a))
  -- what is in order stays so, equal ids too
  pub stay : Sorted a b → (x ≡ a) × (y ≡ b)

unfoldable pub first : ℕ → ℕ → ℕ
first a b = cond (ltb (id_of b) (id_of a)) b a

unfoldable pub second : ℕ → ℕ → ℕ
second a b = cond (ltb (id_of b) (id_of a)) a b

-- ---- "and always takes a row"
unfoldable pub add_gate : List ℕ → ℕ → ℕ → ℕ → State
add_gate rows used a b = state (row_added rows used (first a b) (second a b)) (used + 1) (2 * used)

-- "first true gives the second; first false gives false; second true gives the first; second false gives false; equal gives the first;
-- complementary gives false; else a row is added"
unfoldable pub folded : ℕ → ℕ → Option ℕ
folded a b =
    cond (eqb a (constant_of true)) (Some b)
    (cond (eqb a (constant_of false)) (Some (constant_of false))
    (cond (eqb b (constant_of true)) (Some a)
    (cond (eqb b (constant_of false)) (Some (constant_of false))
    (cond (eqb a b) (Some a)
    (cond (eqb a (complement b)) (Some (constant_of false)) None)))))

-- an edge that is there already, or else the gate
abbrev pub or_gate : Option ℕ → List ℕ → ℕ → State → State
or_gate (Some e) rows used s = state rows used e
or_gate None rows used s = s

-- "sorts likewise, then in this order"
unfoldable pub add_and : List ℕ → ℕ → ℕ → ℕ → State
add_and rows used a b = or_gate (folded (first a b) (second a b)) rows used (add_gate rows used a b)

-- the AND of two edges, as `trivial_new_and_node` or as `new_and_node` builds it
unfoldable pub add_step : Bool → List ℕ → ℕ → ℕ → ℕ → State
add_step trivial rows used a b = cond trivial (add_gate rows used a b) (add_and rows used a b)

-- the edge that was built, and one edge after the other
abbrev pub step : Bool → State → ℕ → State
step trivial s e = add_step trivial s.rows s.used s.edge e

unfoldable pub steps : Bool → State → List ℕ → State
steps trivial s [] = s
steps trivial s (e ∷ es) = steps trivial (step trivial s e) es
