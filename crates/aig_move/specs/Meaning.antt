-- What the new graph means.
-- Assumes nothing.
use Rattle.std.specs.Prelude.{ℕ, ◌*◌, ◌≤◌, ◌<◌, ◌≡◌, Bool, true, ◌&&◌, List, length, get_or, take}
use Rattle.edge.specs.Edges.{constant_of}
use Rattle.rows.specs.Rows.{leaf_at}
use Rattle.rows.specs.Value.{value}
use Rattle.graph.specs.Latches.{latch_at}
use Rattle.graph.specs.Graph.{Lent, Sized, value_in}
use Rattle.graph.specs.WellFormed.{WellFormed}
use Rattle.gates.specs.Meaning.{all_true}
use Rattle.graph.specs.Exactly.{Answers}
use Rattle.renumber.specs.Kept.{SameBefore}
use Rattle.output.specs.Room.{limits, has_room, Limited, Room}
use Rattle.aig_move.specs.Moving.{moved_counts}
use Rattle.aig_move.specs.Call.{move_call}

-- all constraints of g hold
abbrev pub Constraints : Lent → (ℕ → Bool) → Bool
Constraints g leaf = all_true (value_in g leaf) (take g.counts.constraints g.constraints)

-- the first free row becomes the latch's, and the latch comes behind the others
abbrev pub new_next : Lent → Lent → ℕ
new_next g after = (latch_at after.latches g.counts.latches).next

pub record NewLatch (g after : Lent) : Type 0 where
  pub input : (latch_at after.latches g.counts.latches).input ≡ g.counts.rows
  pub is_leaf : leaf_at after.rows g.counts.rows ≡ true
  -- "(init true)"
  pub init : (latch_at after.latches g.counts.latches).init ≡ constant_of true
  -- "next = latch AND all constraints"
  pub next : (leaf : ℕ → Bool) → value_in after leaf (new_next g after) ≡ leaf g.counts.rows && Constraints g leaf

-- of n entries the first is true exactly if next is and the old first is, and the others are as they were
pub record FirstGuarded (g after : Lent) (n : ℕ) (old new : List ℕ) : Type 0 where
  pub first : 0 < n → (leaf : ℕ → Bool) → value_in after leaf (get_or new 0 0) ≡ value_in after leaf (new_next g after) && value_in g leaf (get_or old 0 0)
  pub others : (j : ℕ) → 0 < j → j < n → get_or new j 0 ≡ get_or old j 0

-- `after` is g with its constraints moved into a latch
pub record Moved (g after : Lent) : Type 0 where
  pub counts : after.counts ≡ moved_counts g
  -- "clears constraints"
  pub no_constraints : after.counts.constraints ≡ 0
  pub latch : NewLatch g after
  -- "replaces the first bad and first output by their AND with that next"
  pub bads : FirstGuarded g after g.counts.bads g.bads after.bads
  pub outputs : FirstGuarded g after g.counts.outputs g.outputs after.outputs
  -- every row of g keeps its words, and its value under every choice of leaf values
  pub rows : SameBefore (2 * g.counts.rows) g.rows after.rows
  pub values : (leaf : ℕ → Bool) (i : ℕ) → i < g.counts.rows → value after.rows leaf i ≡ value g.rows leaf i
  -- and so does every other entry
  pub inputs : SameBefore g.counts.inputs g.inputs after.inputs
  pub latches : (j : ℕ) → j < g.counts.latches → latch_at after.latches j ≡ latch_at g.latches j
  pub ends : SameBefore g.counts.sets g.ends after.ends
  pub edges : SameBefore g.counts.edges g.edges after.edges
  pub fairness : SameBefore g.counts.fairness g.fairness after.fairness
  -- the result may be given to any call
  pub sized : (marks : ℕ) → after.counts.rows ≤ marks → Sized after marks
  pub well_formed : WellFormed after

-- what is lent to the call is right, and there is room
pub record MoveLent (g out : Lent) (marks : List ℕ) : Type 0 where
  pub limited : Limited out
  pub sized : Sized g (length marks)
  pub well_formed : WellFormed g
  pub room : Room out (moved_counts g)

-- `aig_move` is done exactly where what is lent is right and there is room, and then the output is the graph with its constraints in a latch. Else the output is as it was.
pub record MoveRight (g out : Lent) (marks : List ℕ) : Type 0 where
  pub accepts : MoveLent g out marks → (move_call g out marks).given.number ≡ 0
  pub accepted : (move_call g out marks).given.number ≡ 0 → MoveLent g out marks
  -- each answer exactly in its case, and the marks
  pub answers : Answers (limits out) true (has_room out (moved_counts g)) g marks (move_call g out marks).given (move_call g out marks).marks
  pub moves : (move_call g out marks).given.number ≡ 0 → Moved g (move_call g out marks).graph
  pub refused : ((move_call g out marks).given.number ≡ 0 → ⊥) → (move_call g out marks).graph ≡ out
  -- "then clears constraints": the copy has none, and the words of the room's constraints stay
  pub constraints_stay : (move_call g out marks).graph.constraints ≡ out.constraints
