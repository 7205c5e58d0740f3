-- What the run and the step mean: as rules for the codes of the rows, and of the circuit that they simulate.
-- Assumes nothing.
use Rattle.std.specs.Prelude.{ℕ, suc, ◌<◌, ◌≡◌, Bool, true, cond, ◌⊎◌, List, [], ◌∷◌, ◌++◌, length, get_or, drop, leb, eqb}
use Rattle.edge.specs.Answers.{done}
use Rattle.edge.specs.Meaning.{edge_value}
use Rattle.rows.specs.Rows.{word0, word1, leaf_at, gate_at}
use Rattle.rows.specs.Value.{value, InCone}
use Rattle.graph.specs.Latches.{latch_at}
use Rattle.graph.specs.Graph.{Lent, lent}
use Rattle.graph.specs.Check.{cleared}
use Rattle.graph.specs.Exactly.{Answers}
use Rattle.ternary_run.specs.Codes.{unknown, Codes}
use Rattle.ternary_run.specs.Run.{input_row, latch_row, next_row, run, next, state_at, frame}
use Rattle.ternary.specs.Rules.{Listed}
use Rattle.ternary.specs.Calls.{arguments_right, written, run_call, Accepted, step_call, step_calls}

-- ---- when it is done, and what then
-- the run is done exactly where everything is as it must be, and then it writes the codes
pub record RunRight (g : Lent) (input state values marks : List ℕ) : Type 0 where
  pub accepted : (run_call g input state values marks).given.number ≡ 0 → Accepted g input state values marks
  pub accepts : Accepted g input state values marks → run_call g input state values marks ≡ record { given = done; values = written g input state values; marks = cleared g.counts.rows marks }
  -- each answer exactly in its case, and the marks; of the step too
  pub answers : Answers (leb g.counts.rows (length values)) (arguments_right g.counts.inputs g.counts.latches input state) true g marks (run_call g input state values marks).given (run_call g input state values marks).marks
  pub step_answers : Answers (leb g.counts.rows (length values)) (arguments_right g.counts.inputs g.counts.latches input state) true g marks (step_call g input state values marks).given (step_call g input state values marks).marks

-- ---- the circuit
abbrev pub code_of : Bool → ℕ
code_of b = cond b 1 0

-- a code says of a truth value that it is unknown, or which it is
abbrev pub Agrees : ℕ → Bool → Type 0
Agrees c b = (c ≡ unknown) ⊎ (c ≡ code_of b)

-- the first n of the list are known
abbrev pub Known : ℕ → List ℕ → Type 0
Known n codes = (i : ℕ) → i < n → get_or codes i 0 < 2

-- no orphan is in the cone of row i
abbrev pub NoOrphan : Lent → ℕ → Type 0
NoOrphan g i = (j : ℕ) → InCone g.rows j i → leaf_at g.rows j ≡ true → Listed g j

-- `leaf` chooses a truth value for every leaf, by the codes of inputs and latches
pub record Chosen (g : Lent) (input state : List ℕ) (leaf : ℕ → Bool) : Type 0 where
  pub inputs : (i : ℕ) → i < g.counts.inputs → Agrees (get_or input i 0) (leaf (input_row g.inputs i))
  pub latches : (i : ℕ) → i < g.counts.latches → Agrees (get_or state i 0) (leaf (latch_row g.latches i))

-- What is known is right, whatever the unknown leaves are; and where inputs and state are known, so is every row that hangs on no orphan.
pub record Means (g : Lent) (input state : List ℕ) (leaf : ℕ → Bool) : Type 0 where
  pub sound : (i : ℕ) → i < g.counts.rows → Agrees (get_or (run g input state) i 0) (value g.rows leaf i)
  pub sound_next : (i : ℕ) → i < g.counts.latches → Agrees (get_or (next g input state) i 0) (edge_value (value g.rows leaf) (latch_at g.latches i).next)
  pub exact : Known g.counts.inputs input → Known g.counts.latches state → (i : ℕ) → i < g.counts.rows → NoOrphan g i
      → get_or (run g input state) i 0 ≡ code_of (value g.rows leaf i)
  pub exact_next : Known g.counts.inputs input → Known g.counts.latches state → (i : ℕ) → i < g.counts.latches → NoOrphan g (next_row g.latches i)
      → get_or (next g input state) i 0 ≡ code_of (edge_value (value g.rows leaf) (latch_at g.latches i).next)

-- ---- frame by frame
-- a trace of the circuit: `leaf k` chooses the leaves in frame k, and there each latch has the value of its next in the frame before
pub record Trace (g : Lent) (input : ℕ → List ℕ) (state : List ℕ) (leaf : ℕ → ℕ → Bool) : Type 0 where
  pub inputs : (k i : ℕ) → i < g.counts.inputs → Agrees (get_or (input k) i 0) (leaf k (input_row g.inputs i))
  pub start : (i : ℕ) → i < g.counts.latches → Agrees (get_or state i 0) (leaf 0 (latch_row g.latches i))
  pub steps : (k i : ℕ) → i < g.counts.latches → leaf (suc k) (latch_row g.latches i) ≡ edge_value (value g.rows (leaf k)) (latch_at g.latches i).next

-- all inputs and the first state are known, and no next hangs on an orphan
pub record AllKnown (g : Lent) (input : ℕ → List ℕ) (state : List ℕ) : Type 0 where
  pub inputs : (k : ℕ) → Known g.counts.inputs (input k)
  pub start : Known g.counts.latches state
  pub nexts : (i : ℕ) → i < g.counts.latches → NoOrphan g (next_row g.latches i)

-- the same in every frame
pub record Frames (g : Lent) (input : ℕ → List ℕ) (state : List ℕ) (leaf : ℕ → ℕ → Bool) : Type 0 where
  pub sound : (k i : ℕ) → i < g.counts.rows → Agrees (get_or (frame g input state k) i 0) (value g.rows (leaf k) i)
  pub sound_state : (k i : ℕ) → i < g.counts.latches → Agrees (get_or (state_at g input state k) i 0) (leaf k (latch_row g.latches i))
  pub exact : AllKnown g input state → (k i : ℕ) → i < g.counts.rows → NoOrphan g i → get_or (frame g input state k) i 0 ≡ code_of (value g.rows (leaf k) i)
  pub exact_state : AllKnown g input state → (k i : ℕ) → i < g.counts.latches → get_or (state_at g input state k) i 0 ≡ code_of (leaf k (latch_row g.latches i))

-- the truth value that frame k gives row x, where it is known
abbrev pub truths : Lent → (ℕ → List ℕ) → List ℕ → ℕ → ℕ → Bool
truths g input state k x = eqb (get_or (frame g input state k) x 0) 1

-- where all is known there is a trace: the frames are one
pub record Traced (g : Lent) (input : ℕ → List ℕ) (state : List ℕ) : Type 0 where
  pub traces : AllKnown g input state → Trace g input state (truths g input state)

-- where no leaf is an orphan, no row hangs on one
pub record Whole (g : Lent) : Type 0 where
  pub hangs : ((j : ℕ) → j < g.counts.rows → leaf_at g.rows j ≡ true → Listed g j) → (i : ℕ) → i < g.counts.rows → NoOrphan g i

-- ---- call after call
-- step calls, each on what the one before left, are all done, and run the frames
pub record Steps (g : Lent) (input : ℕ → List ℕ) (state values marks : List ℕ) : Type 0 where
  pub given : (k : ℕ) → (step_calls g input state values marks k).given ≡ done
  pub states : (k : ℕ) → (step_calls g input state values marks k).state ≡ state_at g input state k
  pub values_after : (k : ℕ) → (step_calls g input state values marks (suc k)).values ≡ frame g input state k ++ drop g.counts.rows values
  pub marks_after : (k : ℕ) → (step_calls g input state values marks (suc k)).marks ≡ cleared g.counts.rows marks

-- every input vector has one code an input
pub record Inputs (g : Lent) (input : ℕ → List ℕ) : Type 0 where
  pub long : (k : ℕ) → length (input k) ≡ g.counts.inputs
  pub codes : (k : ℕ) → Codes g.counts.inputs (input k)

-- ---- M7: "a gate (2,3) over an unknown leaf is unknown, though `new_and_node` folds it"
abbrev pub m7 : Lent
m7 =
    lent (4294967294 ∷ 0 ∷ 4294967295 ∷ 0 ∷ 2 ∷ 3 ∷ []) (1 ∷ []) [] [] [] [] [] [] []
    (record { rows = 3; inputs = 1; latches = 0; constraints = 0; bads = 0; outputs = 0; sets = 0; edges = 0; fairness = 0 })

pub record M7 : Type 0 where
  pub table : run m7 (unknown ∷ []) [] ≡ 0 ∷ unknown ∷ unknown ∷ []
  pub any_graph : (g : Lent) (input state : List ℕ) (i : ℕ) → i < g.counts.rows → gate_at g.rows i ≡ true → word0 g.rows i ≡ 2 → word1 g.rows i ≡ 3
      → get_or (run g input state) 1 0 ≡ unknown → get_or (run g input state) i 0 ≡ unknown
