-- What the clauses mean, and what the call is held to.
-- Assumes nothing.
use Rattle.std.specs.Prelude.{ℕ, ◌+◌, ◌*◌, ◌≤◌, ◌<◌, ◌≡◌, Bool, true, false, ◌&&◌, ◌||◌, List, [], ◌∷◌, length, get_or, take, drop, leb, Result}
use Rattle.edge.specs.declared.answer.Refusal.{Refusal}
use Rattle.edge.specs.Answers.{done, no_room, told, value_or}
use Rattle.edge.specs.Meaning.{edge_value}
use Rattle.rows.specs.Rows.{leaf_at}
use Rattle.rows.specs.Value.{value}
use Rattle.graph.specs.Count.{gates_below}
use Rattle.graph.specs.Graph.{Lent, Sized}
use Rattle.graph.specs.WellFormed.{WellFormed}
use Rattle.graph.specs.Exactly.{Answers}
use Rattle.root_marks.specs.Roots.{roots_of}
use Rattle.gate_clauses.specs.Shapes.{words}
use Rattle.cnf.specs.Clauses.{cnf_of}
use Rattle.cnf.specs.Decode.{decoded}
use Rattle.cnf.specs.Call.{cnf_seen, cnf_call}

-- an assignment v gives every row a value: some literal of the clause is true
unfoldable pub holds : (ℕ → Bool) → List ℕ → Bool
holds v [] = false
holds v (l ∷ ls) = edge_value v l || holds v ls

-- every clause is met
unfoldable pub meets : (ℕ → Bool) → List (List ℕ) → Bool
meets v [] = true
meets v (c ∷ cs) = holds v c && meets v cs

-- an assignment that takes the leaves' values from a choice and meets the clauses
pub record Extension (g : Lent) (clauses : List (List ℕ)) (leaf : ℕ → Bool) : Type 0 where
  pub assignment : ℕ → Bool
  pub agrees : (i : ℕ) → i < g.counts.rows → leaf_at g.rows i ≡ true → assignment i ≡ leaf i
  pub met : meets assignment clauses ≡ true

-- the clauses say what the circuit computes: they ask nothing of the leaves, and they fix every root
pub record Translates (g : Lent) (clauses : List (List ℕ)) : Type 0 where
  pub extends : (leaf : ℕ → Bool) → Extension g clauses leaf
  pub forced : (v : ℕ → Bool) → meets v clauses ≡ true
      → (k : ℕ) → k < length (roots_of g) → edge_value v (get_or (roots_of g) k 0) ≡ edge_value (value g.rows v) (get_or (roots_of g) k 0)

-- the buffer afterwards, so many words of which are clauses
pub record Translated (g : Lent) (clauses : List ℕ) (count : ℕ) (after : List ℕ) : Type 0 where
  pub translates : Translates g (decoded (take count after))
  -- "So at most 2 + 16·gates words"
  pub few : count ≤ 2 + 16 * gates_below g.rows g.counts.rows
  pub fits : count ≤ length clauses
  -- "words beyond what a call says it writes stay as they were"
  pub beyond : drop count after ≡ drop count clauses

-- what is lent to the call is right
pub record CnfLent (g : Lent) (shortcuts : Bool) (clauses marks : List ℕ) : Type 0 where
  pub sized : Sized g (length marks)
  pub well_formed : WellFormed g
  pub room : length (words (cnf_of shortcuts g)) ≤ length clauses

-- `cnf` is done exactly where what is lent is right, and 5 exactly where only room is missing. Of any result that the promise allows, done means translated.
pub record CnfRight (g : Lent) (shortcuts : Bool) (clauses marks : List ℕ) : Type 0 where
  pub accepts : CnfLent g shortcuts clauses marks → (cnf_call g shortcuts clauses marks).given ≡ done
  pub accepted : (cnf_call g shortcuts clauses marks).given.number ≡ 0 → CnfLent g shortcuts clauses marks
  -- each answer exactly in its case, and the marks
  pub answers : Answers true true (leb (length (words (cnf_of shortcuts g))) (length clauses)) g marks (cnf_call g shortcuts clauses marks).given (cnf_call g shortcuts clauses marks).marks
  pub refuses : Sized g (length marks) → WellFormed g → length clauses < length (words (cnf_of shortcuts g)) → (cnf_call g shortcuts clauses marks).given ≡ no_room
  pub refused : (cnf_call g shortcuts clauses marks).given.number ≡ 5 → Sized g (length marks) × WellFormed g × (length clauses < length (words (cnf_of shortcuts g)))
  pub translates : (r : Result ℕ Refusal) (after marks' : List ℕ) → cnf_seen r after marks' ≡ cnf_call g shortcuts clauses marks → (told r).number ≡ 0 → Translated g clauses (value_or 0 r) after
