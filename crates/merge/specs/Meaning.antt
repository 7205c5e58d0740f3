-- What `merge` means.
-- Assumes nothing.
use Rattle.std.specs.Prelude.{ℕ, ◌+◌, ◌*◌, ◌≤◌, ◌<◌, ◌≡◌, Bool, true, List, length, get_or}
use Rattle.rows.specs.Value.{value}
use Rattle.graph.specs.Graph.{Lent, Sized}
use Rattle.graph.specs.WellFormed.{WellFormed}
use Rattle.two_graphs.specs.Exactly.{AnswersTwo}
use Rattle.output.specs.Room.{has_room}
use Rattle.renumber.specs.Renumber.{lists_of}
use Rattle.renumber.specs.Entries.{Renumbered}
use Rattle.renumber.specs.Kept.{SameBefore, ListsKept}
use Rattle.renumber.specs.Meaning.{Carried, SameValues}
use Rattle.merge.specs.Merge.{shifted, offset, summed, MergeLent}
use Rattle.merge.specs.Call.{merge_call}

abbrev pub UsedRow : Lent → ℕ → Type 0
UsedRow g i = i < g.counts.rows

-- g is the whole of a and b
pub record Whole (a b g : Lent) : Type 0 where
  pub counts : g.counts ≡ summed a.counts b.counts
  -- the first graph's used rows keep their words, and so their values
  pub first_words : SameBefore (2 * a.counts.rows) a.rows g.rows
  pub first_values : (leaf : ℕ → Bool) (i : ℕ) → i < a.counts.rows → value g.rows leaf i ≡ value a.rows leaf i
  -- every used row of the second stands in the whole; so it, and every edge to it, has its value there under the corresponding leaf values
  pub carried : Carried (shifted (offset a)) (UsedRow b) b.rows b.counts.rows g.rows g.counts.rows
  pub second_values : SameValues (shifted (offset a)) (UsedRow b) b.rows b.counts.rows g.rows
  -- two used rows of the second do not meet, and only row 0 meets a row of the first
  pub apart : (i j : ℕ) → i < b.counts.rows → j < b.counts.rows → shifted (offset a) i ≡ shifted (offset a) j → i ≡ j
  pub behind : (i : ℕ) → 0 < i → a.counts.rows ≤ shifted (offset a) i
  -- every list is the first's entries, then the second's under the map: latches with input, next AND init, and justice by whole sets
  pub first_inputs : SameBefore a.counts.inputs a.inputs g.inputs
  pub second_inputs : (j : ℕ) → j < b.counts.inputs → get_or g.inputs (a.counts.inputs + j) 0 ≡ shifted (offset a) (get_or b.inputs j 0)
  pub first_lists : ListsKept a.counts (lists_of a) (lists_of g)
  pub second_lists : Renumbered (shifted (offset a)) a.counts (lists_of b) b.counts (lists_of g)
  -- it is a well-formed graph of right sizes
  pub sized : (marks : ℕ) → g.counts.rows ≤ marks → Sized g marks
  pub well_formed : WellFormed g

-- `merge` is done exactly where what is lent is right and there is room, and then the first graph is the whole of both. Else the first graph is as it was.
pub record MergeRight (a b : Lent) (marks : List ℕ) : Type 0 where
  pub accepts : MergeLent a b (length marks) → (merge_call a b marks).given.number ≡ 0
  pub accepted : (merge_call a b marks).given.number ≡ 0 → MergeLent a b (length marks)
  -- each answer exactly in its case, and the marks
  pub answers : AnswersTwo true (has_room a (summed a.counts b.counts)) a b marks (merge_call a b marks).given (merge_call a b marks).marks
  pub whole : (merge_call a b marks).given.number ≡ 0 → Whole a b (merge_call a b marks).graph
  pub refused : ((merge_call a b marks).given.number ≡ 0 → ⊥) → (merge_call a b marks).graph ≡ a
