-- What the calls answer and write.
-- Assumes nothing.
use Rattle.std.specs.Prelude.{ℕ, zero, suc, ◌≤◌, ◌≡◌, List, ◌++◌, Bool, cond, ◌&&◌, length, get_or, drop, eqb, ltb, leb, Result}
use Rattle.std.proofs.Common.{ap}
use Rattle.edge.specs.declared.answer.Refusal.{Refusal}
use Rattle.edge.specs.declared.answer.Given.{Given}
use Rattle.edge.specs.Answers.{done, bad_sizes, bad_argument, told, value_or, answer_known, told_injective, or_else, determined}
use Rattle.edge.specs.Edges.{id_of}
use Rattle.rows.specs.Reading.{if_done}
use Rattle.graph.specs.Leaves.{used_edge}
use Rattle.graph.specs.Graph.{Lent, sizes_right, Sized}
use Rattle.graph.specs.Check.{contents, cleared}
use Rattle.graph.specs.WellFormed.{WellFormed}
use Rattle.ternary_run.specs.Codes.{edge3, Codes, all_codes}
use Rattle.ternary_run.specs.Run.{run, next}

-- ---- the run and the step
-- no answer 1: the graph's sizes are right, and neither marks nor value buffers are "shorter than the used rows"
abbrev pub sizes_fit : Lent → List ℕ → List ℕ → Bool
sizes_fit g values marks = leb g.counts.rows (length values) && sizes_right g (length marks)

-- no "wrong lengths", no "code above 2 in inputs, states"
unfoldable pub arguments_right : ℕ → ℕ → List ℕ → List ℕ → Bool
arguments_right inputs latches input state = eqb (length input) inputs && eqb (length state) latches && all_codes input && all_codes state

-- 2 and 3, then 4
unfoldable pub simulate_answer : Lent → List ℕ → List ℕ → Given
simulate_answer g input state = or_else (contents g) (cond (arguments_right g.counts.inputs g.counts.latches input state) done bad_argument)

-- every used row's code; "words beyond what a call says it writes stay as they were"
abbrev pub written : Lent → List ℕ → List ℕ → List ℕ → List ℕ
written g input state values = run g input state ++ drop g.counts.rows values

pub record RunSeen : Type 0 where
  pub given : Given
  pub values : List ℕ
  pub marks : List ℕ

abbrev pub run_seen : Result Unit Refusal → List ℕ → List ℕ → RunSeen
run_seen r values marks = record { given = told r; values = values; marks = marks }

unfoldable pub run_call : Lent → List ℕ → List ℕ → List ℕ → List ℕ → RunSeen
run_call g input state values marks =
    cond (sizes_fit g values marks)
    (record { given = simulate_answer g input state; values = if_done (simulate_answer g input state) (written g input state values) values; marks = cleared g.counts.rows marks })
    (record { given = bad_sizes; values = values; marks = marks })

-- when the run and the step are done
pub record Accepted (g : Lent) (input state values marks : List ℕ) : Type 0 where
  pub sized : Sized g (length marks)
  pub room : g.counts.rows ≤ length values
  pub formed : WellFormed g
  pub input_long : length input ≡ g.counts.inputs
  pub state_long : length state ≡ g.counts.latches
  pub input_codes : Codes g.counts.inputs input
  pub state_codes : Codes g.counts.latches state

pub record StepSeen : Type 0 where
  pub given : Given
  pub state : List ℕ
  pub values : List ℕ
  pub marks : List ℕ

abbrev pub step_seen : Result Unit Refusal → List ℕ → List ℕ → List ℕ → StepSeen
step_seen r state values marks = record { given = told r; state = state; values = values; marks = marks }

-- the step is the run, "then each latch takes its next's value"
unfoldable pub step_call : Lent → List ℕ → List ℕ → List ℕ → List ℕ → StepSeen
step_call g input state values marks =
    let s = run_call g input state values marks in
    record { given = s.given; state = if_done s.given (next g input state) state; values = s.values; marks = s.marks }

-- k steps, one call after the other, where step j has the input `input j`: what is there after the last
unfoldable pub step_calls : Lent → (ℕ → List ℕ) → List ℕ → List ℕ → List ℕ → ℕ → StepSeen
step_calls g input state values marks zero = record { given = done; state = state; values = values; marks = marks }
step_calls g input state values marks (suc k) =
    let s = step_calls g input state values marks k in
    step_call g (input k) s.state s.values s.marks

-- ---- the value of an edge
pub record ValueSeen : Type 0 where
  pub given : Given
  pub value : ℕ

abbrev pub value_seen : Result ℕ Refusal → ValueSeen
value_seen r = record { given = told r; value = value_or 0 r }

-- 1 for the values, then 4 for "`value` of an edge not used" and "a code above 2 in .. the one byte that `value` reads"
unfoldable pub value_given : List ℕ → ℕ → ℕ → Given
value_given values used e =
    cond (ltb 0 used && leb used (length values)) (cond (used_edge used e && ltb (get_or values (id_of e) 0) 3) done bad_argument) bad_sizes

unfoldable pub value_call : List ℕ → ℕ → ℕ → ValueSeen
value_call values used e = record { given = value_given values used e; value = if_done (value_given values used e) (edge3 values e) 0 }

-- ---- any two results that a promise allows are equal, call by call
pub ternary_simulate_determined : (g : Lent) (input state values marks : List ℕ) (r s : Result Unit Refusal) (v w m n : List ℕ)
    → run_seen r v m ≡ run_call g input state values marks → run_seen s w n ≡ run_call g input state values marks → (r ≡ s) × (v ≡ w) × (m ≡ n)
ternary_simulate_determined g input state values marks r s v w m n p q =
    let t = determined (run_call g input state values) marks (run_seen r v m) (run_seen s w n) p q in
    (told_injective r s (ap (λ (x : RunSeen). x.given) t), ap (λ (x : RunSeen). x.values) t, ap (λ (x : RunSeen). x.marks) t)

pub simulate_determined : (g : Lent) (input state values marks : List ℕ) (r s : Result Unit Refusal) (a b v w m n : List ℕ)
    → step_seen r a v m ≡ step_call g input state values marks → step_seen s b w n ≡ step_call g input state values marks → (r ≡ s) × (a ≡ b) × (v ≡ w) × (m ≡ n)
simulate_determined g input state values marks r s a b v w m n p q =
    let t = determined (step_call g input state values) marks (step_seen r a v m) (step_seen s b w n) p q in
    (told_injective r s (ap (λ (x : StepSeen). x.given) t), ap (λ (x : StepSeen). x.state) t, ap (λ (x : StepSeen). x.values) t, ap (λ (x : StepSeen). x.marks) t)

pub value_determined : (values : List ℕ) (used e : ℕ) (r s : Result ℕ Refusal) → value_seen r ≡ value_call values used e → value_seen s ≡ value_call values used e → r ≡ s
value_determined values used e r s p q =
    let t = determined (value_call values used) e (value_seen r) (value_seen s) p q in
    answer_known 0 r s (ap (λ (x : ValueSeen). x.given) t) (ap (λ (x : ValueSeen). x.value) t)
