-- What the new graph means.
-- Assumes nothing.
use Rattle.std.specs.Prelude.{ℕ, ◌+◌, ◌≤◌, ◌<◌, ◌≡◌, true, List, length, get_or}
use Rattle.edge.specs.Answers.{done}
use Rattle.rows.specs.Rows.{word0, word1, gate_at}
use Rattle.graph.specs.Leaves.{member}
use Rattle.graph.specs.Latches.{latch_at}
use Rattle.graph.specs.Graph.{Lent, Sized, no_counts}
use Rattle.graph.specs.WellFormed.{UsedLeaf, listed, WellFormed}
use Rattle.gates.specs.Gates.{Sorted}
use Rattle.renumber.specs.Renumber.{lists_of}
use Rattle.graph.specs.Exactly.{Answers}
use Rattle.output.specs.Room.{limits, has_room, Limited, Room}
use Rattle.renumber.specs.Entries.{Renumbered}
use Rattle.renumber.specs.Meaning.{Carried, SameValues}
use Rattle.reencode.specs.Numbers.{new_id}
use Rattle.reencode.specs.Call.{no_orphan, reencode_call}

-- what is lent to the call is right, no leaf is an orphan, and there is room
pub record ReencodeLent (g out : Lent) (marks : List ℕ) : Type 0 where
  pub limited : Limited out
  pub sized : Sized g (length marks)
  pub well_formed : WellFormed g
  pub no_orphan_lem : (x : ℕ) → UsedLeaf g x → member x (listed g) ≡ true
  pub room : Room out g.counts

-- m is one to one from the first n numbers onto the first n: k came from one of them
pub record CameFrom (m : ℕ → ℕ) (n k : ℕ) : Type 0 where
  pub from : ℕ
  pub within : from < n
  pub to : m from ≡ k

pub record OneToOne (m : ℕ → ℕ) (n : ℕ) : Type 0 where
  pub within : (i : ℕ) → i < n → m i < n
  pub apart : (i j : ℕ) → i < n → j < n → m i ≡ m j → i ≡ j
  pub onto : (k : ℕ) → k < n → CameFrom m n k

-- "numbers inputs, latches, then gates in row order, rows built by `trivial_new_and_node`"
pub record InOrder (g after : Lent) : Type 0 where
  pub inputs : (j : ℕ) → j < g.counts.inputs → get_or after.inputs j 0 ≡ 1 + j
  pub latches : (j : ℕ) → j < g.counts.latches → (latch_at after.latches j).input ≡ 1 + (g.counts.inputs + j)
  pub gates : (i j : ℕ) → i < j → j < g.counts.rows → gate_at g.rows j ≡ true → new_id g i < new_id g j
  pub fanins : (i : ℕ) → i < g.counts.rows → gate_at after.rows i ≡ true → Sorted (word0 after.rows i) (word1 after.rows i)

-- `after` is g with its rows numbered anew: each row, and each edge to one, has the same value where it went
pub record Renewed (g after : Lent) : Type 0 where
  pub counts : after.counts ≡ g.counts
  pub one_to_one : OneToOne (new_id g) g.counts.rows
  pub carried : Carried (new_id g) (λ (i : ℕ). i < g.counts.rows) g.rows g.counts.rows after.rows g.counts.rows
  pub values : SameValues (new_id g) (λ (i : ℕ). i < g.counts.rows) g.rows g.counts.rows after.rows
  -- every entry of every list: it is the same row or edge, numbered anew, and so has the same value
  pub inputs : (j : ℕ) → j < g.counts.inputs → get_or after.inputs j 0 ≡ new_id g (get_or g.inputs j 0)
  pub lists : Renumbered (new_id g) no_counts (lists_of g) g.counts (lists_of after)
  pub in_order : InOrder g after
  -- the result may be given to any call
  pub sized : (marks : ℕ) → g.counts.rows ≤ marks → Sized after marks
  pub well_formed : WellFormed after

-- the same graph: counts, rows, and every entry of every list
pub record SameGraph (a b : Lent) : Type 0 where
  pub counts : b.counts ≡ a.counts
  pub first_words : (i : ℕ) → i < a.counts.rows → word0 b.rows i ≡ word0 a.rows i
  pub second_words : (i : ℕ) → i < a.counts.rows → word1 b.rows i ≡ word1 a.rows i
  pub inputs : (j : ℕ) → j < a.counts.inputs → get_or b.inputs j 0 ≡ get_or a.inputs j 0
  pub latches : (j : ℕ) → j < a.counts.latches → latch_at b.latches j ≡ latch_at a.latches j
  pub constraints : (j : ℕ) → j < a.counts.constraints → get_or b.constraints j 0 ≡ get_or a.constraints j 0
  pub bads : (j : ℕ) → j < a.counts.bads → get_or b.bads j 0 ≡ get_or a.bads j 0
  pub outputs : (j : ℕ) → j < a.counts.outputs → get_or b.outputs j 0 ≡ get_or a.outputs j 0
  pub ends : (j : ℕ) → j < a.counts.sets → get_or b.ends j 0 ≡ get_or a.ends j 0
  pub edges : (j : ℕ) → j < a.counts.edges → get_or b.edges j 0 ≡ get_or a.edges j 0
  pub fairness : (j : ℕ) → j < a.counts.fairness → get_or b.fairness j 0 ≡ get_or a.fairness j 0

-- reencoding a graph into any room that it fits gives that graph
pub record Settled (g : Lent) : Type 0 where
  pub accepts : (out : Lent) (marks : List ℕ) → Limited out → Room out g.counts → g.counts.rows ≤ length marks → (reencode_call g out marks).given ≡ done
  pub same : (out : Lent) (marks : List ℕ) → Limited out → Room out g.counts → g.counts.rows ≤ length marks → SameGraph g (reencode_call g out marks).graph

-- `reencode` is done exactly where what is lent is right; then the graph is as it was but for its numbers, and doing it again changes nothing.
pub record ReencodeRight (g out : Lent) (marks : List ℕ) : Type 0 where
  pub accepts : ReencodeLent g out marks → (reencode_call g out marks).given ≡ done
  pub accepted : (reencode_call g out marks).given.number ≡ 0 → ReencodeLent g out marks
  -- each answer exactly in its case, and the marks
  pub answers : Answers (limits out) (no_orphan g) (has_room out g.counts) g marks (reencode_call g out marks).given (reencode_call g out marks).marks
  pub refused : ((reencode_call g out marks).given.number ≡ 0 → ⊥) → (reencode_call g out marks).graph ≡ out
  pub renews : (reencode_call g out marks).given.number ≡ 0 → Renewed g (reencode_call g out marks).graph
  pub settles : (reencode_call g out marks).given.number ≡ 0 → Settled (reencode_call g out marks).graph
