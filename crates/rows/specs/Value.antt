-- What rows mean, by the rules of the AIGER paper: variable 0 is false, an and-gate is the conjunction of its two literals, and an input or latch is a
-- free variable.
-- Assumes nothing.
use Rattle.std.specs.Prelude.{ℕ, zero, suc, ◌≤◌, ◌<◌, List, ◌≡◌, Bool, true, false, cond, ◌&&◌}
use Rattle.edge.specs.Edges.{id_of}
use Rattle.edge.specs.Meaning.{edge_value}
use Rattle.rows.specs.Rows.{word0, word1, is_leaf, is_gate, leaf_at, gate_at}

-- an assignment v of the used rows obeys the paper's rules, where `leaf` chooses the leaves' values
pub record Obeys (rows : List ℕ) (used : ℕ) (leaf v : ℕ → Bool) : Type 0 where
  pub constant : v 0 ≡ false
  pub leaves : (i : ℕ) → i < used → leaf_at rows i ≡ true → v i ≡ leaf i
  pub gates : (i : ℕ) → i < used → gate_at rows i ≡ true → v i ≡ edge_value v (word0 rows i) && edge_value v (word1 rows i)

-- the value of row i, of its words a and b, where v has those of the rows below: a gate is the and of its edges, a leaf is as chosen, and any other row, as row 0, is
-- false
unfoldable pub row_value : (ℕ → Bool) → (ℕ → Bool) → ℕ → ℕ → ℕ → Bool
row_value leaf v i a b = cond (is_gate i a b) (edge_value v a && edge_value v b) (cond (is_leaf i a b) (leaf i) false)

-- the same for the rows below n, each by those below it; what it says of n and above is of no use
unfoldable pub value_below : List ℕ → (ℕ → Bool) → ℕ → ℕ → Bool
value_below rows leaf zero i = false
value_below rows leaf (suc n) i = row_value leaf (value_below rows leaf n) i (word0 rows i) (word1 rows i)

-- the value of row i
unfoldable pub value : List ℕ → (ℕ → Bool) → ℕ → Bool
value rows leaf i = value_below rows leaf (suc i) i

-- It obeys the rules on the used rows, and any assignment that does agrees with it there.
pub record Values (rows : List ℕ) (used : ℕ) (leaf : ℕ → Bool) : Type 1 where
  pub obeys : Obeys rows used leaf (value rows leaf)
  pub only : (v : ℕ → Bool) → Obeys rows used leaf v → (i : ℕ) → i < used → v i ≡ value rows leaf i

-- row j is in the cone of a row: it is that row, or it is in the cone of one of its fanins, and the row is a gate
pub data InCone (rows : List ℕ) (j : ℕ) : ℕ → Type 0 where
  here : InCone rows j j
  by0 : {i : ℕ} → gate_at rows i ≡ true → InCone rows j (id_of (word0 rows i)) → InCone rows j i
  by1 : {i : ℕ} → gate_at rows i ≡ true → InCone rows j (id_of (word1 rows i)) → InCone rows j i

-- two tables, each with its choice of leaf values, agree on row j: on its words, and for a leaf on what is chosen
pub record Agree (rows other : List ℕ) (leaf leaf' : ℕ → Bool) (j : ℕ) : Type 0 where
  pub first : word0 rows j ≡ word0 other j
  pub second : word1 rows j ≡ word1 other j
  pub chosen : leaf_at rows j ≡ true → leaf j ≡ leaf' j

-- A row's value depends only on the rows and leaves in its cone; so rows after it do not matter.
pub record Local (rows other : List ℕ) (leaf leaf' : ℕ → Bool) : Type 0 where
  pub by_cone : (i : ℕ) → ((j : ℕ) → InCone rows j i → Agree rows other leaf leaf' j) → value rows leaf i ≡ value other leaf' i
  pub by_rows_up_to : (i : ℕ) → ((j : ℕ) → j ≤ i → Agree rows other leaf leaf' j) → value rows leaf i ≡ value other leaf' i
