-- Document 01's paragraph "Well-formed", as a plain predicate, and what `check` says of it.
-- Assumes nothing.
use Rattle.std.specs.Prelude.{ℕ, ◌+◌, ◌≤◌, ◌<◌, ◌≡◌, true, ◌⊎◌, List, ◌++◌, length, get_or, take}
use Rattle.edge.specs.Edges.{id_of}
use Rattle.edge.specs.Answers.{done, bad_sizes}
use Rattle.rows.specs.Rows.{none, leaf_at, AllRows}
use Rattle.graph.specs.Latches.{latch_at, latch_inputs}
use Rattle.graph.specs.Graph.{Lent, Sized}
use Rattle.graph.specs.Stages.{Names}
use Rattle.graph.specs.Check.{stages, cleared, check_call}

-- It is meant for a graph whose sizes are right: past the end of a list a word counts as 0.

-- "a used leaf"
abbrev pub UsedLeaf : Lent → ℕ → Type 0
UsedLeaf g x = (x < g.counts.rows) × (leaf_at g.rows x ≡ true)

-- n inputs, then the inputs of m latches
abbrev pub leaf_list : List ℕ → ℕ → List ℕ → ℕ → List ℕ
leaf_list inputs n latches m = take n inputs ++ latch_inputs latches m

-- the ids that inputs and latches list, "together"
abbrev pub listed : Lent → List ℕ
listed g = leaf_list g.inputs g.counts.inputs g.latches g.counts.latches

-- "every edge has id below the used count"
abbrev pub UsedEdges : Lent → List ℕ → ℕ → Type 0
UsedEdges g list n = (i : ℕ) → i < n → id_of (get_or list i 0) < g.counts.rows

pub record WellFormed (g : Lent) : Type 0 where
  -- "every used row is as above"
  pub rows : AllRows g.rows g.counts.rows
  -- "each input id and latch input is a used leaf"
  pub inputs : (i : ℕ) → i < g.counts.inputs → UsedLeaf g (get_or g.inputs i 0)
  pub latches : (i : ℕ) → i < g.counts.latches → UsedLeaf g (latch_at g.latches i).input
  -- "and no leaf is listed twice over inputs and latches together"
  pub once : (i j : ℕ) → i < j → j < length (listed g) → get_or (listed g) i 0 ≡ get_or (listed g) j 0 → ⊥
  -- "every edge has id below the used count"
  pub nexts : (i : ℕ) → i < g.counts.latches → id_of (latch_at g.latches i).next < g.counts.rows
  pub inits : (i : ℕ) → i < g.counts.latches → ((latch_at g.latches i).init ≡ none) ⊎ (id_of (latch_at g.latches i).init < g.counts.rows)
  pub constraints : UsedEdges g g.constraints g.counts.constraints
  pub bads : UsedEdges g g.bads g.counts.bads
  pub outputs : UsedEdges g g.outputs g.counts.outputs
  pub edges : UsedEdges g g.edges g.counts.edges
  pub fairness : UsedEdges g g.fairness g.counts.fairness
  -- "justice ends never fall and the last is the number of justice edges"
  pub ends : (s : ℕ) → s + 1 < g.counts.sets → get_or g.ends s 0 ≤ get_or g.ends (s + 1) 0
  pub last : (s : ℕ) → s + 1 ≡ g.counts.sets → get_or g.ends s 0 ≡ g.counts.edges
  pub no_sets : g.counts.sets ≡ 0 → g.counts.edges ≡ 0

-- `check` gives each answer exactly in its case, and an answer 2 or 3 names the first fault.
pub record Exact (g : Lent) (marks : List ℕ) : Type 0 where
  -- 0: the sizes are right and the graph is well-formed
  pub accepts : Sized g (length marks) → WellFormed g → (check_call g marks).given ≡ done
  pub accepted : (check_call g marks).given.number ≡ 0 → Sized g (length marks) × WellFormed g
  -- 1: the sizes are wrong
  pub refuses : (Sized g (length marks) → ⊥) → (check_call g marks).given ≡ bad_sizes
  pub refused : (check_call g marks).given.number ≡ 1 → Sized g (length marks) → ⊥
  -- 2: the sizes are right, and not every used row is one
  pub refuses_row : Sized g (length marks) → (AllRows g.rows g.counts.rows → ⊥) → (check_call g marks).given.number ≡ 2
  pub refused_row : (check_call g marks).given.number ≡ 2 → Sized g (length marks) × (AllRows g.rows g.counts.rows → ⊥)
  -- 3: sizes and rows are right, and the graph is not well-formed
  pub refuses_entry : Sized g (length marks) → AllRows g.rows g.counts.rows → (WellFormed g → ⊥) → (check_call g marks).given.number ≡ 3
  pub refused_entry : (check_call g marks).given.number ≡ 3 → Sized g (length marks) × AllRows g.rows g.counts.rows × (WellFormed g → ⊥)
  -- the place: nothing before it is bad, and it is
  pub names : Sized g (length marks) → (WellFormed g → ⊥) → Names (stages g) (check_call g marks).given
  -- the marks: "Work marks are zero at exit over the rows used at entry, except after 1, when they are untouched"
  pub untouched : (check_call g marks).given.number ≡ 1 → (check_call g marks).marks ≡ marks
  pub clear : ((check_call g marks).given.number ≡ 1 → ⊥) → (check_call g marks).marks ≡ cleared g.counts.rows marks
