-- What a renumbering keeps.
-- Assumes nothing.
use Rattle.std.specs.Prelude.{ℕ, ◌<◌, ◌≡◌, Bool, true, ◌⊎◌, List}
use Rattle.edge.specs.Edges.{id_of}
use Rattle.edge.specs.Meaning.{edge_value}
use Rattle.rows.specs.Rows.{word0, word1, leaf_at, gate_at}
use Rattle.rows.specs.Value.{value}
use Rattle.renumber.specs.Renumber.{renamed}

-- row k of `new` has the two edges of gate i of `old` under m, in either order
abbrev pub SameEdges : (ℕ → ℕ) → List ℕ → List ℕ → ℕ → ℕ → Type 0
SameEdges m old new i k =
    ((word0 new k ≡ renamed m (word0 old i)) × (word1 new k ≡ renamed m (word1 old i))) ⊎ ((word0 new k ≡ renamed m (word1 old i)) × (word1 new k ≡ renamed m (word0 old i)))

-- Each kept row of `old` stands in `new`, at the row that m says: row 0, a leaf, or a gate of the same edges. A kept gate's fanins are kept.
pub record Carried (m : ℕ → ℕ) (Kept : ℕ → Type 0) (old : List ℕ) (used : ℕ) (new : List ℕ) (used' : ℕ) : Type 0 where
  pub zero : m 0 ≡ 0
  pub within : (i : ℕ) → i < used → Kept i → m i < used'
  pub leaves : (i : ℕ) → i < used → Kept i → leaf_at old i ≡ true → leaf_at new (m i) ≡ true
  pub gates : (i : ℕ) → i < used → Kept i → gate_at old i ≡ true → (gate_at new (m i) ≡ true) × SameEdges m old new i (m i)
  pub fanins : (i : ℕ) → i < used → Kept i → gate_at old i ≡ true → Kept (id_of (word0 old i)) × Kept (id_of (word1 old i))

-- Then each kept row, and each edge to one, has the same value in `new` as in `old`, under the corresponding leaf values: `leaf` chooses those of the new graph.
pub record SameValues (m : ℕ → ℕ) (Kept : ℕ → Type 0) (old : List ℕ) (used : ℕ) (new : List ℕ) : Type 0 where
  pub rows : (leaf : ℕ → Bool) (i : ℕ) → i < used → Kept i → value new leaf (m i) ≡ value old (λ (j : ℕ). leaf (m j)) i
  pub edges : (leaf : ℕ → Bool) (e : ℕ) → id_of e < used → Kept (id_of e) → edge_value (value new leaf) (renamed m e) ≡ edge_value (value old (λ (j : ℕ). leaf (m j))) e
