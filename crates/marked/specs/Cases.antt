-- A marked case: a call with all that it is lent, and what is to be seen after it.
-- Assumes nothing.
use Rattle.std.specs.Prelude.{ℕ, ◌≡◌, List, [], ◌∷◌, ◌++◌, Bool, false}
use Rattle.edge.specs.declared.answer.Given.{Given}
use Rattle.graph.specs.declared.Counts.{Counts}
use Rattle.graph.specs.Graph.{Lent}
use Rattle.sulandiro_words.specs.Words.{count_words}
use Rattle.build_leaves.specs.Calls.{Seen as BuiltSeen}
use Rattle.build_nodes.specs.Nodes.{pair_call, eq_call}
use Rattle.ternary.specs.Calls.{RunSeen, run_call}
use Rattle.cnf.specs.Call.{CnfSeen, cnf_call}
use Rattle.renumber.specs.Seen.{RebuiltSeen}
use Rattle.reencode.specs.Call.{reencode_call}
use Rattle.unroll.specs.Unroll.{unroll_call}

-- ---- the calls, each with what it is lent in the order of its own parameters
pub data Call : Type 0 where
  -- `build::new_and_node` and `build::new_eq_node`: rows, counts, two edges
  new_and : List ℕ → Counts → ℕ → ℕ → Call
  new_eq : List ℕ → Counts → ℕ → ℕ → Call
  -- `ternary::ternary_simulate`: a graph, the codes of inputs and of latches, the values, the marks
  simulate : Lent → List ℕ → List ℕ → List ℕ → List ℕ → Call
  -- `cnf::cnf`: a graph, shortcuts on or off, the clauses, the marks
  clauses : Lent → Bool → List ℕ → List ℕ → Call
  -- `reencode::reencode`: a graph, the words of the output graph with the counts of the first, the marks
  reencode : Lent → Lent → List ℕ → Call
  -- `unroll::unroll`: the target, `from`, the marks
  unroll : Lent → Lent → List ℕ → Call

-- ---- what is seen: the answer with its place, the numbers that come back, and every list that was lent to be written to, in the order of the call's parameters
pub record Seen : Type 0 where
  pub given : Given
  pub numbers : List ℕ
  pub lists : List (List ℕ)

abbrev pub seen : Given → List ℕ → List (List ℕ) → Seen
seen given numbers lists = record { given = given; numbers = numbers; lists = lists }

-- the lists of a graph
abbrev pub lists_of : Lent → List (List ℕ)
lists_of g =
    g.rows ∷ g.inputs ∷ g.latches ∷ g.constraints ∷ g.bads ∷ g.outputs ∷ g.ends ∷ g.edges ∷ g.fairness ∷ []

-- the counts and the edge; rows
abbrev of_built : BuiltSeen → Seen
of_built s = seen s.given (count_words s.left.counts ++ (s.left.made ∷ [])) (s.left.rows ∷ [])

-- no number; values, marks
abbrev of_run : RunSeen → Seen
of_run s = seen s.given [] (s.values ∷ s.marks ∷ [])

-- how many words; clauses, marks
abbrev of_clauses : CnfSeen → Seen
of_clauses s = seen s.given (s.words ∷ []) (s.clauses ∷ s.marks ∷ [])

-- the counts; the graph that is written, marks
abbrev of_rebuilt : RebuiltSeen → Seen
of_rebuilt s = seen s.given (count_words s.graph.counts) (lists_of s.graph ++ (s.marks ∷ []))

-- by the calls' own definitions
unfoldable pub seen_of : Call → Seen
seen_of (new_and rows n a b) = of_built (pair_call false false rows n a b)
seen_of (new_eq rows n a b) = of_built (eq_call rows n a b)
seen_of (simulate g input state values marks) = of_run (run_call g input state values marks)
seen_of (clauses g shortcuts buffer marks) = of_clauses (cnf_call g shortcuts buffer marks)
seen_of (reencode g out marks) = of_rebuilt (reencode_call g out marks)
seen_of (unroll target from marks) = of_rebuilt (unroll_call target from marks)

-- ---- a row of the table: which of M1 to M13 it is, the call, and what is to be seen
pub record Case : Type 0 where
  pub mark : ℕ
  pub call : Call
  pub expected : Seen

abbrev pub case : ℕ → Call → Seen → Case
case mark call expected = record { mark = mark; call = call; expected = expected }

abbrev pub CaseHolds : Case → Type 0
CaseHolds c = seen_of c.call ≡ c.expected

-- each case of the list holds
abbrev pub EachHolds : List Case → Type 0
EachHolds [] = Unit {0}
EachHolds (c ∷ cs) = CaseHolds c × EachHolds cs
