-- What `cnf` answers and writes.
-- Assumes nothing.
use Rattle.std.specs.Prelude.{ℕ, ◌≡◌, List, ◌++◌, Bool, cond, length, drop, leb, Result}
use Rattle.std.proofs.Common.{ap}
use Rattle.edge.specs.declared.answer.Refusal.{Refusal}
use Rattle.edge.specs.declared.answer.Given.{Given}
use Rattle.edge.specs.Answers.{done, no_room, told, value_or, answer_known, or_else, determined}
use Rattle.rows.specs.Reading.{if_done}
use Rattle.graph.specs.Graph.{Lent}
use Rattle.graph.specs.Check.{check_call}
use Rattle.gate_clauses.specs.Shapes.{words}
use Rattle.cnf.specs.Clauses.{cnf_of}

-- 1, 2 and 3 as `check` gives them, then 5: "clause words still free are fewer than the call needs"
unfoldable pub cnf_answer : Lent → Bool → ℕ → List ℕ → Given
cnf_answer g shortcuts room marks = or_else (check_call g marks).given (cond (leb (length (words (cnf_of shortcuts g))) room) done no_room)

pub record CnfSeen : Type 0 where
  pub given : Given
  pub words : ℕ
  pub clauses : List ℕ
  pub marks : List ℕ

abbrev pub cnf_seen : Result ℕ Refusal → List ℕ → List ℕ → CnfSeen
cnf_seen r clauses marks = record { given = told r; words = value_or 0 r; clauses = clauses; marks = marks }

-- the words of the clauses, and "words beyond what a call says it writes stay as they were"
abbrev pub written_over : List ℕ → List ℕ → List ℕ
written_over ws buffer = ws ++ drop (length ws) buffer

-- the number of words, and the words; "a refusal changes no row, list, output or state"; the marks are as `check` leaves them
unfoldable pub cnf_call : Lent → Bool → List ℕ → List ℕ → CnfSeen
cnf_call g shortcuts clauses marks =
    let given = cnf_answer g shortcuts (length clauses) marks in
    let ws = words (cnf_of shortcuts g) in
    record {
      given = given;
      words = if_done given (length ws) 0;
      clauses = if_done given (written_over ws clauses) clauses;
      marks = (check_call g marks).marks;
    }

-- any two results that the promise allows are equal
pub cnf_determined : (g : Lent) (shortcuts : Bool) (clauses marks : List ℕ) (r s : Result ℕ Refusal) (a b m n : List ℕ)
    → cnf_seen r a m ≡ cnf_call g shortcuts clauses marks → cnf_seen s b n ≡ cnf_call g shortcuts clauses marks → (r ≡ s) × (a ≡ b) × (m ≡ n)
cnf_determined g shortcuts clauses marks r s a b m n p q =
    let t = determined (cnf_call g shortcuts clauses) marks (cnf_seen r a m) (cnf_seen s b n) p q in
    (answer_known 0 r s (ap (λ (x : CnfSeen). x.given) t) (ap (λ (x : CnfSeen). x.words) t), ap (λ (x : CnfSeen). x.clauses) t, ap (λ (x : CnfSeen). x.marks) t)
