-- What a reader wants of `gate_init_to_constraint`.
-- Assumes nothing.
use Rattle.std.specs.Prelude.{ℕ, ◌+◌, ◌≤◌, ◌<◌, ◌≡◌, Bool, true, false, cond, not, ◌||◌, ◌↔◌, List, length, get_or}
use Rattle.edge.specs.Answers.{done}
use Rattle.rows.specs.Sizes.{rows_lent}
use Rattle.rows.specs.Rows.{none}
use Rattle.graph.specs.Latches.{latches_lent, latch_at}
use Rattle.graph.specs.Graph.{Lent, lent, Sized, value_in}
use Rattle.graph.specs.WellFormed.{UsedLeaf, WellFormed}
use Rattle.graph.specs.Count.{count_below}
use Rattle.graph.specs.Exactly.{Answers}
use Rattle.renumber.specs.Kept.{SameBefore}
use Rattle.property.specs.GateInit.{is_gated, part_of, gated_all, gated_counts, new_latch, gate_room, gate_init_call}
use Rattle.property.specs.CompressMeaning.{RowsKept}

abbrev pub gated_at : Lent → ℕ → Bool
gated_at g i = is_gated (latch_at g.latches i)

pub record GateRoom (g : Lent) : Type 0 where
  pub rows : (gated_all (part_of g)).used ≤ rows_lent g.rows
  pub latches : g.counts.latches < latches_lent g.latches
  pub constraints : (gated_all (part_of g)).count ≤ length g.constraints

-- what is lent is right, and there is room where a latch has such an init
pub record GateInitLent (g : Lent) (marks : ℕ) : Type 0 where
  pub sized : Sized g marks
  pub well_formed : WellFormed g
  pub room : (i : ℕ) → i < g.counts.latches → gated_at g i ≡ true → GateRoom g

-- the new latch's row
abbrev pub new_row : Lent → ℕ
new_row g = g.counts.rows

-- the place of the constraint for latch i: one follows the other in latch order
abbrev pub place_of : Lent → ℕ → ℕ
place_of g i = g.counts.constraints + count_below (gated_at g) i

-- latch i has the value of its init, under these leaf values; and as a truth value
abbrev pub StartsAt : Lent → (ℕ → Bool) → ℕ → Type 0
StartsAt g leaf i = leaf (latch_at g.latches i).input ≡ value_in g leaf (latch_at g.latches i).init

abbrev pub equal : Bool → Bool → Bool
equal a b = cond a b (not b)

-- every new constraint is true
abbrev pub NewHold : Lent → Lent → (ℕ → Bool) → Type 0
NewHold g after leaf = (k : ℕ) → g.counts.constraints ≤ k → k < after.counts.constraints → value_in after leaf (get_or after.constraints k 0) ≡ true

pub record Constrained (g after : Lent) : Type 0 where
  pub kept : RowsKept g after
  pub counts : after.counts ≡ gated_counts g.counts after.counts.rows after.counts.constraints
  -- "one new latch (next false, init true) is added", of a new leaf
  pub new_leaf_lem : UsedLeaf after (new_row g)
  pub latches : after.counts.latches ≡ g.counts.latches + 1
  pub new_latch_lem : latch_at after.latches g.counts.latches ≡ new_latch (new_row g)
  -- "a latch with init of id other than 0 loses it", and else is as it was
  pub inputs : (i : ℕ) → i < g.counts.latches → (latch_at after.latches i).input ≡ (latch_at g.latches i).input
  pub nexts : (i : ℕ) → i < g.counts.latches → (latch_at after.latches i).next ≡ (latch_at g.latches i).next
  pub lost : (i : ℕ) → i < g.counts.latches → gated_at g i ≡ true → (latch_at after.latches i).init ≡ none
  pub left : (i : ℕ) → i < g.counts.latches → gated_at g i ≡ false → latch_at after.latches i ≡ latch_at g.latches i
  -- "per such latch a constraint", behind those that were there
  pub old_constraints : SameBefore g.counts.constraints g.constraints after.constraints
  pub constraints : after.counts.constraints ≡ place_of g g.counts.latches
  -- "new latch implies latch equals init"
  pub each : (leaf : ℕ → Bool) (i : ℕ) → i < g.counts.latches → gated_at g i ≡ true
      → value_in after leaf (get_or after.constraints (place_of g i) 0)
      ≡ not (leaf (new_row g)) || equal (leaf (latch_at g.latches i).input) (value_in g leaf (latch_at g.latches i).init)
  -- so at the start, where the new latch is true, they say that each such latch has the value of its init, and later, where it is false, nothing
  pub start : (leaf : ℕ → Bool) → leaf (new_row g) ≡ true → NewHold g after leaf ↔ ((i : ℕ) → i < g.counts.latches → gated_at g i ≡ true → StartsAt g leaf i)
  pub later : (leaf : ℕ → Bool) → leaf (new_row g) ≡ false → NewHold g after leaf
  -- every other list is as it was
  pub others : after ≡ lent after.rows g.inputs after.latches after.constraints g.bads g.outputs g.ends g.edges g.fairness after.counts
  -- the result may be given to any call
  pub sized : (marks : ℕ) → after.counts.rows ≤ marks → Sized after marks
  pub well_formed : WellFormed after

-- `gate_init_to_constraint` is done exactly where what is lent is right and there is room. "No such latch: nothing changes."
pub record GateInitRight (g : Lent) (marks : List ℕ) : Type 0 where
  pub accepts : GateInitLent g (length marks) → (gate_init_call g marks).given ≡ done
  pub accepted : (gate_init_call g marks).given.number ≡ 0 → GateInitLent g (length marks)
  -- each answer exactly in its case, and the marks
  pub answers : Answers true true (gate_room (part_of g)) g marks (gate_init_call g marks).given (gate_init_call g marks).marks
  pub nothing : ((i : ℕ) → i < g.counts.latches → gated_at g i ≡ false) → (gate_init_call g marks).graph ≡ g
  pub constrains : (gate_init_call g marks).given.number ≡ 0 → (i : ℕ) → i < g.counts.latches → gated_at g i ≡ true → Constrained g (gate_init_call g marks).graph
  pub refused : ((gate_init_call g marks).given.number ≡ 0 → ⊥) → (gate_init_call g marks).graph ≡ g
