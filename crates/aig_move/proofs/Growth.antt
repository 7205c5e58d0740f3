-- The rows that are made: those that were there keep their words and values, each new one is a row, and the new edges mean what they should.
-- Assumes nothing.
use Prim.Native.Nat.{ℕ, ◌+◌, ◌*◌, ◌≤◌, ◌<◌}
use native.Mathlib.Omega.{arith}
use mathlib.Core.Path.{◌≡◌, refl, sym, ap₂, ◌∙◌}
use mathlib.Core.Bool.{Bool, true, false, ◌&&◌}
use mathlib.Core.List.{List, [], ◌∷◌}
use lib.ListN.{length, get_or}
use Rattle.edge.specs.Edges.{id_of}
use Rattle.edge.specs.Meaning.{edge_value}
use Rattle.rows.specs.Sizes.{max_rows, rows_lent}
use Rattle.rows.specs.Rows.{none, leaf_at}
use Rattle.rows.specs.Value.{value}
use Rattle.rows.proofs.Value.{value_leaf}
use Rattle.gates.specs.Gates.{State, state, add_and, leaf_added}
use Rattle.gates.specs.Lists.{list_of}
use Rattle.gates.specs.Meaning.{AllUsed, Grows, all_true}
use Rattle.gates.proofs.Building.{and_sized}
use Rattle.gates.proofs.Listing.{list_sized}
use Rattle.gates.proofs.Growing.{row_first, row_second, row_grows, and_grows, grows_on, grows_none, head_used, tail_used, still_used, list_grows, leaf_here, leaf_row}
use Rattle.gates.proofs.Meaning.{grows_edge, even_value, and_value, list_value}
use Rattle.aig_move.specs.Making.{next_of, guard_of, Making, making_of}
use Rattle.aig_move.proofs.Steps.{guard_sized}

-- edges that agree
pub all_same : (v w : ℕ → Bool) (used : ℕ) → ((e : ℕ) → id_of e < used → v e ≡ w e) → (es : List ℕ) → AllUsed used es → all_true v es ≡ all_true w es
unfolding all_true
all_same v w used h [] a = refl
all_same v w used h (e ∷ es) a = ap₂ ◌&&◌ (h e (head_used used e es a)) (all_same v w used h es (tail_used used e es a))

-- ---- the AND of next and a first edge
module _ (rows : List ℕ) (used next : ℕ) (some : 0 < used) (own : id_of next < used) where
  guard_grows : (list : List ℕ) → AllUsed used list → (guard_of rows used next list).used ≤ rows_lent rows → Grows rows used (guard_of rows used next list)
  unfolding guard_of
  guard_grows [] a room = grows_none rows used 0 some
  guard_grows (e ∷ es) a room = and_grows rows used next e some own (head_used used e es a) room

  guard_value : (leaf : ℕ → Bool) (list : List ℕ) → 0 < length list → AllUsed used list → (guard_of rows used next list).used ≤ rows_lent rows
      → edge_value (value (guard_of rows used next list).rows leaf) (guard_of rows used next list).edge ≡ edge_value (value rows leaf) next && edge_value (value rows leaf) (get_or list 0 0)
  unfolding guard_of
  guard_value leaf [] l a room = absurd (omega arith)
  guard_value leaf (e ∷ es) l a room = and_value rows used next e some own (head_used used e es a) leaf room

module _ (rows : List ℕ) (used : ℕ) (some : 0 < used) (limit : rows_lent rows ≤ max_rows) (constraints bads outputs : List ℕ) (cs : AllUsed used constraints) (bs : AllUsed used bads)
    (os : AllUsed used outputs) (room : (making_of rows used constraints bads outputs).used ≤ rows_lent rows) where
  -- the table after each step
  abbrev s₀ : State
  s₀ = state (leaf_added rows used) (used + 1) (2 * used)

  abbrev s₁ : State
  s₁ = list_of false false (leaf_added rows used) (used + 1) constraints

  abbrev s₂ : State
  s₂ = next_of rows used constraints

  abbrev s₃ : State
  s₃ = guard_of s₂.rows s₂.used s₂.edge bads

  abbrev s₄ : State
  s₄ = guard_of s₃.rows s₃.used s₂.edge outputs

  -- ---- each has room
  room₄ : s₄.used ≤ rows_lent rows
  unfolding making_of
  room₄ = room

  room₃ : s₃.used ≤ rows_lent rows
  room₃ = omega (arith, room₄, (guard_sized s₃.rows s₃.used s₂.edge outputs).more)

  room₂ : s₂.used ≤ rows_lent rows
  room₂ = omega (arith, room₃, (guard_sized s₂.rows s₂.used s₂.edge bads).more)

  room₁ : s₁.used ≤ rows_lent rows
  unfolding next_of
  room₁ = omega (arith, room₂, (and_sized s₁.rows s₁.used (2 * used) s₁.edge).more)

  room₀ : used + 1 ≤ rows_lent rows
  room₀ = omega (arith, room₁, (list_sized false false (leaf_added rows used) (used + 1) constraints).more)

  -- ---- each grows out of the one before
  g₀ : Grows rows used s₀
  g₀ = row_grows rows used none 0 room₀ (leaf_row used some)

  later : AllUsed (used + 1) constraints
  later = still_used used (used + 1) (omega arith) constraints cs

  lent₁ : s₁.used ≤ rows_lent (leaf_added rows used)
  lent₁ = rw g₀.long room₁

  g₁ : Grows (leaf_added rows used) (used + 1) s₁
  g₁ = list_grows false false (leaf_added rows used) (used + 1) constraints (omega arith) later lent₁

  latch_used : id_of (2 * used) < s₁.used
  latch_used = omega (arith, g₁.more)

  some₁ : 0 < s₁.used
  some₁ = omega (arith, g₁.more)

  lent₂ : (add_and s₁.rows s₁.used (2 * used) s₁.edge).used ≤ rows_lent s₁.rows
  unfolding next_of
  lent₂ = rw (g₁.long, g₀.long) room₂

  g₂ : Grows s₁.rows s₁.used s₂
  unfolding next_of
  g₂ = and_grows s₁.rows s₁.used (2 * used) s₁.edge some₁ latch_used g₁.edge lent₂

  next_grows : Grows rows used s₂
  next_grows = grows_on rows used s₀ s₂ g₀ (grows_on s₀.rows s₀.used s₁ s₂ g₁ g₂)

  some₂ : 0 < s₂.used
  some₂ = omega (arith, next_grows.more)

  bads₂ : AllUsed s₂.used bads
  bads₂ = still_used used s₂.used next_grows.more bads bs

  lent₃ : s₃.used ≤ rows_lent s₂.rows
  lent₃ = rw next_grows.long room₃

  g₃ : Grows s₂.rows s₂.used s₃
  g₃ = guard_grows s₂.rows s₂.used s₂.edge some₂ next_grows.edge bads bads₂ lent₃

  next₃ : id_of s₂.edge < s₃.used
  next₃ = omega (arith, next_grows.edge, g₃.more)

  some₃ : 0 < s₃.used
  some₃ = omega (arith, some₂, g₃.more)

  bad_grows : Grows rows used s₃
  bad_grows = grows_on rows used s₂ s₃ next_grows g₃

  outputs₃ : AllUsed s₃.used outputs
  outputs₃ = still_used used s₃.used bad_grows.more outputs os

  lent₄ : s₄.used ≤ rows_lent s₃.rows
  lent₄ = rw bad_grows.long room₄

  g₄ : Grows s₃.rows s₃.used s₄
  g₄ = guard_grows s₃.rows s₃.used s₂.edge some₃ next₃ outputs outputs₃ lent₄

  g₃₄ : Grows s₂.rows s₂.used s₄
  g₃₄ = grows_on s₂.rows s₂.used s₃ s₄ g₃ g₄

  -- ---- the whole
  abbrev m : Making
  m = making_of rows used constraints bads outputs

  pub making_grows : Grows rows used (state m.rows m.used m.output)
  unfolding making_of
  making_grows = grows_on rows used s₃ s₄ bad_grows g₄

  pub new_used : (id_of m.next < m.used) × (id_of m.bad < m.used) × (id_of m.output < m.used)
  unfolding making_of
  new_used = (omega (arith, next₃, g₄.more), omega (arith, g₃.edge, g₄.more), g₄.edge)

  leaf_at_lem : leaf_at (leaf_added rows used) used ≡ true
  leaf_at_lem = rw (row_first rows used none 0 room₀, row_second rows used none 0 room₀) (leaf_here used some)

  g₀₄ : Grows s₀.rows s₀.used s₄
  g₀₄ = grows_on s₀.rows s₀.used s₁ s₄ g₁ (grows_on s₁.rows s₁.used s₂ s₄ g₂ g₃₄)

  pub leaf_made : leaf_at m.rows used ≡ true
  unfolding making_of
  leaf_made = rw (g₀₄.kept (2 * used) (omega arith), g₀₄.kept (2 * used + 1) (omega arith)) leaf_at_lem

  pub leaf_within : used < m.used
  unfolding making_of
  leaf_within = omega (arith, g₀₄.more)

  module _ (leaf : ℕ → Bool) where
    abbrev v : ℕ → Bool
    v = edge_value (value rows leaf)

    latch_value : edge_value (value s₁.rows leaf) (2 * used) ≡ leaf used
    latch_value =
        grows_edge (leaf_added rows used) (used + 1) s₁ g₁ leaf (2 * used) (omega arith)
        ∙ (even_value (value (leaf_added rows used) leaf) used ∙ value_leaf (leaf_added rows used) (used + 1) leaf (omega (arith, room₀)) used (omega arith) leaf_at_lem)

    all_value : edge_value (value s₁.rows leaf) s₁.edge ≡ all_true v constraints
    all_value =
        list_value false false (leaf_added rows used) (used + 1) constraints leaf (omega arith) later lent₁
        ∙ all_same (edge_value (value (leaf_added rows used) leaf)) v used (λ e l. grows_edge rows used s₀ g₀ leaf e l) constraints cs

    next_here : edge_value (value s₂.rows leaf) s₂.edge ≡ leaf used && all_true v constraints
    unfolding next_of
    next_here =
        and_value s₁.rows s₁.used (2 * used) s₁.edge some₁ latch_used g₁.edge leaf lent₂
        ∙ ap₂ ◌&&◌ latch_value all_value

    next_still : edge_value (value s₄.rows leaf) s₂.edge ≡ edge_value (value s₂.rows leaf) s₂.edge
    next_still = grows_edge s₂.rows s₂.used s₄ g₃₄ leaf s₂.edge next_grows.edge

    -- "next = latch AND all constraints"
    pub next_value : edge_value (value m.rows leaf) m.next ≡ leaf used && all_true v constraints
    unfolding making_of
    next_value = next_still ∙ next_here

    pub bad_value : 0 < length bads → edge_value (value m.rows leaf) m.bad ≡ edge_value (value m.rows leaf) m.next && v (get_or bads 0 0)
    unfolding making_of
    bad_value l =
        grows_edge s₃.rows s₃.used s₄ g₄ leaf s₃.edge g₃.edge
        ∙ (guard_value s₂.rows s₂.used s₂.edge some₂ next_grows.edge leaf bads l bads₂ lent₃
        ∙ ap₂ ◌&&◌ (sym next_still) (grows_edge rows used s₂ next_grows leaf (get_or bads 0 0) (bs 0 l)))

    pub output_value : 0 < length outputs → edge_value (value m.rows leaf) m.output ≡ edge_value (value m.rows leaf) m.next && v (get_or outputs 0 0)
    unfolding making_of
    output_value l =
        guard_value s₃.rows s₃.used s₂.edge some₃ next₃ leaf outputs l outputs₃ lent₄
        ∙ ap₂ ◌&&◌ (sym (grows_edge s₃.rows s₃.used s₄ g₄ leaf s₂.edge next₃)) (grows_edge rows used s₃ bad_grows leaf (get_or outputs 0 0) (os 0 l))
