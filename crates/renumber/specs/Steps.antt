-- What only the proofs need: what a step asks of its caller, and what its functions count on the way.
-- Assumes nothing.
use Rattle.std.specs.Prelude.{ℕ, ◌+◌, ◌*◌, ◌≤◌, ◌<◌, ◌^◌, ◌≡◌, List, ◌⊎◌, length, get_or}
use Rattle.edge.specs.Edges.{id_of}
use Rattle.rows.specs.Sizes.{max_rows}
use Rattle.rows.specs.Rows.{none}
use Rattle.graph.specs.declared.Counts.{Counts}
use Rattle.graph.specs.declared.latch.Latch.{Latch}
use Rattle.graph.specs.Latches.{latch_words, latch_at}
use Rattle.output.specs.Steps.{Words}
use Rattle.renumber.specs.Renumber.{Lists, ends_of, by}
use Rattle.edge.specs.declared.answer.Given.{Given}
use Rattle.edge.specs.Answers.{told, value_or}
use Rattle.renumber.specs.Seen.{Rebuilt}

-- a row that the map has, and whose new edges are words
pub record Known (map : List ℕ) (i : ℕ) : Type 0 where
  pub has : i < length map
  pub small : by map i ≤ max_rows

-- an edge to such a row
pub record MappedEdge (map : List ℕ) (e : ℕ) : Type 0 where
  pub edge : e < none
  pub known : Known map (id_of e)

-- an edge to such a row, or none
abbrev pub Mapped : List ℕ → ℕ → Type 0
Mapped map e = (e ≡ none → ⊥) → Known map (id_of e)

pub record MappedLatch (map : List ℕ) (l : Latch) : Type 0 where
  pub input : Known map l.input
  pub next : Mapped map l.next
  pub init : Mapped map l.init

-- n ids, edges, latches of a list can be mapped, and there is room for them from `at` on
pub record IdsReady (map out : List ℕ) (at : ℕ) (list : List ℕ) (n : ℕ) : Type 0 where
  pub room : at + n ≤ length out
  pub has : n ≤ length list
  pub known : (j : ℕ) → j < n → Known map (get_or list j 0)

pub record EdgesReady (map out : List ℕ) (at : ℕ) (list : List ℕ) (n : ℕ) : Type 0 where
  pub room : at + n ≤ length out
  pub has : n ≤ length list
  pub mapped : (j : ℕ) → j < n → Mapped map (get_or list j 0)

pub record LatchesReady (map out : List ℕ) (at : ℕ) (latches : List ℕ) (n : ℕ) : Type 0 where
  pub room : latch_words * (at + n) ≤ length out
  pub has : latch_words * n ≤ length latches
  pub mapped : (j : ℕ) → j < n → MappedLatch map (latch_at latches j)

pub record EndsReady (by : ℕ) (out : List ℕ) (at : ℕ) (ends : List ℕ) (n : ℕ) : Type 0 where
  pub room : at + n ≤ length out
  pub has : n ≤ length ends
  pub words : Words (ends_of by ends) n

-- all lists
pub record ListsReady (map : List ℕ) (out : Lists) (at : Counts) (from : Lists) (n : Counts) : Type 0 where
  pub latches : LatchesReady map out.latches at.latches from.latches n.latches
  pub constraints : EdgesReady map out.constraints at.constraints from.constraints n.constraints
  pub bads : EdgesReady map out.bads at.bads from.bads n.bads
  pub outputs : EdgesReady map out.outputs at.outputs from.outputs n.outputs
  pub ends : EndsReady at.edges out.ends at.sets from.ends n.sets
  pub edges : EdgesReady map out.edges at.edges from.edges n.edges
  pub fairness : EdgesReady map out.fairness at.fairness from.fairness n.fairness

-- the marks hold m over the used rows
abbrev pub MarksHold : ℕ → (ℕ → ℕ) → List ℕ → Type 0
MarksHold used m marks = (x : ℕ) → x < used → get_or marks x 0 ≡ m x

-- no new number is above the limit of rows
abbrev pub Small : ℕ → (ℕ → ℕ) → Type 0
Small used m = (x : ℕ) → x < used → m x ≤ max_rows

pub record UsedLatch (used : ℕ) (l : Latch) : Type 0 where
  pub input : l.input < used
  pub next : id_of l.next < used
  pub init : (l.init ≡ none) ⊎ (id_of l.init < used)

-- n entries of a list stand there, and are edges to used rows
pub record UsedEdges (used : ℕ) (list : List ℕ) (n : ℕ) : Type 0 where
  pub has : n ≤ length list
  pub below : (j : ℕ) → j < n → id_of (get_or list j 0) < used

-- the lists of a well-formed graph of so many used rows
pub record ListsUsed (used : ℕ) (l : Lists) (n : Counts) : Type 0 where
  pub latches_has : latch_words * n.latches ≤ length l.latches
  pub latches : (j : ℕ) → j < n.latches → UsedLatch used (latch_at l.latches j)
  pub constraints : UsedEdges used l.constraints n.constraints
  pub bads : UsedEdges used l.bads n.bads
  pub outputs : UsedEdges used l.outputs n.outputs
  pub ends_has : n.sets ≤ length l.ends
  pub edges : UsedEdges used l.edges n.edges
  pub fairness : UsedEdges used l.fairness n.fairness
  -- no end is above the number of edges
  pub ends : (j : ℕ) → j < n.sets → get_or l.ends j 0 ≤ n.edges
  pub few : n.edges < 2 ^ 31

-- there is room for n entries more of each list behind those that `at` counts
pub record ListsRoom (l : Lists) (at n : Counts) : Type 0 where
  pub latches : latch_words * (at.latches + n.latches) ≤ length l.latches
  pub constraints : at.constraints + n.constraints ≤ length l.constraints
  pub bads : at.bads + n.bads ≤ length l.bads
  pub outputs : at.outputs + n.outputs ≤ length l.outputs
  pub ends : at.sets + n.sets ≤ length l.ends
  pub edges : at.edges + n.edges ≤ length l.edges
  pub fairness : at.fairness + n.fairness ≤ length l.fairness

-- between the check and the writing: the answer, the counts and the marks. Where it is refused the counts are those that were given.
pub record FoundSeen : Type 0 where
  pub given : Given
  pub counts : Counts
  pub marks : List ℕ

abbrev pub found_seen : Counts → Rebuilt → List ℕ → FoundSeen
found_seen given r marks = record { given = told r; counts = value_or given r; marks = marks }
