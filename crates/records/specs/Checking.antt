-- The check of a graph whose latches are records.
-- Assumes nothing.
use Rattle.std.specs.Prelude.{ℕ, ◌≡◌, List, Result}
use Rattle.std.proofs.Common.{ap}
use Rattle.edge.specs.declared.answer.Refusal.{Refusal}
use Rattle.edge.specs.Answers.{bad_sizes, told_injective}
use Rattle.graph.specs.Graph.{Lent, lent}
use Rattle.graph.specs.declared.latch.Latch.{Latch}
use Rattle.graph.specs.Check.{CheckSeen, check_seen, check_call}
use Rattle.records.specs.Working.{worked, on_records, worked_determined}

-- a graph with other words as its latches
abbrev pub with_words : Lent → List ℕ → Lent
with_words g latches = lent g.rows g.inputs latches g.constraints g.bads g.outputs g.ends g.edges g.fairness g.counts

-- the flat call, with the latches' words last: those that the graph lends are not looked at
abbrev pub check_with : Lent → List ℕ → List ℕ → CheckSeen
check_with g marks latches = check_call (with_words g latches) marks

-- where the work words are too few: 1, "when they are untouched"
abbrev pub check_refused : List ℕ → CheckSeen
check_refused marks = record { given = bad_sizes; marks = marks }

-- any two results that the promise allows are equal
pub check_determined : (t : List Latch) (words : List ℕ) (call : List ℕ → CheckSeen) (refused : CheckSeen) (r s : Result Unit Refusal) (m n x y : List ℕ)
    → worked (check_seen r m) x ≡ on_records t words call refused → worked (check_seen s n) y ≡ on_records t words call refused → (r ≡ s) × (m ≡ n) × (x ≡ y)
check_determined t words call refused r s m n x y p q =
    let e = worked_determined t words call refused (check_seen r m) (check_seen s n) x y p q in
    (told_injective r s (ap (λ (z : CheckSeen). z.given) e.0), ap (λ (z : CheckSeen). z.marks) e.0, e.1)
