-- The rows that `aig_move` adds. They come in the crate's order: "a latch", "next = latch AND all constraints", then the first bad's and the first output's "AND with that next".
-- Assumes nothing.
use Rattle.std.specs.Prelude.{ℕ, ◌+◌, ◌*◌, List, [], ◌∷◌, false, take}
use Rattle.graph.specs.declared.Counts.{Counts}
use Rattle.gates.specs.Gates.{State, state, add_and, leaf_added}
use Rattle.gates.specs.Lists.{list_of}

-- a leaf, the AND of all constraints, and the AND of the two
unfoldable pub next_of : List ℕ → ℕ → List ℕ → State
next_of rows used constraints =
    let all = list_of false false (leaf_added rows used) (used + 1) constraints in
    add_and all.rows all.used (2 * used) all.edge

-- the AND of next and the first edge of a list, where it has one
unfoldable pub guard_of : List ℕ → ℕ → ℕ → List ℕ → State
guard_of rows used next [] = state rows used 0
guard_of rows used next (e ∷ es) = add_and rows used next e

-- the table with how many of its rows are used, the latch's next, and the new first bad and output
pub record Making : Type 0 where
  pub rows : List ℕ
  pub used : ℕ
  pub next : ℕ
  pub bad : ℕ
  pub output : ℕ

unfoldable pub making_of : List ℕ → ℕ → List ℕ → List ℕ → List ℕ → Making
making_of rows used constraints bads outputs =
    let n = next_of rows used constraints in
    let b = guard_of n.rows n.used n.edge bads in
    let o = guard_of b.rows b.used n.edge outputs in
    record { rows = o.rows; used = o.used; next = n.edge; bad = b.edge; output = o.edge }

-- of the entries that n counts
abbrev pub making_in : List ℕ → List ℕ → List ℕ → List ℕ → Counts → Making
making_in rows constraints bads outputs n =
    making_of rows n.rows (take n.constraints constraints) (take n.bads bads) (take n.outputs outputs)
