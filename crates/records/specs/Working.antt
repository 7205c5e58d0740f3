-- A flat call for a caller that holds records: their words stand in lent work words while it runs.
-- Assumes nothing.
use Rattle.std.specs.Prelude.{ℕ, ◌≡◌, cond, List, length}
use Rattle.std.proofs.Common.{ap}
use Rattle.edge.specs.Answers.{determined}
use Rattle.graph.specs.declared.latch.Latch.{Latch}
use Rattle.records.specs.Table.{words_of, room_for, wiped}

-- what the flat call leaves to be seen, and the work words
pub record Worked (S : Type 0) : Type 0 where
  pub seen : S
  pub words : List ℕ

abbrev pub worked : {S : Type 0} → S → List ℕ → Worked S
worked s words = record { seen = s; words = words }

-- on the words that the records hold: 1, with nothing touched, where the work words have no room for every record
unfoldable pub on_records : {S : Type 0} → List Latch → List ℕ → (List ℕ → S) → S → Worked S
on_records t words call refused = worked (cond (room_for t words) (call (words_of t)) refused) (wiped (length t) words)

-- any two results that such a promise allows are equal: all that the flat call leaves to be seen, and the work words
pub worked_determined : {S : Type 0} (t : List Latch) (words : List ℕ) (call : List ℕ → S) (refused r s : S) (x y : List ℕ) → worked r x ≡ on_records t words call refused
    → worked s y ≡ on_records t words call refused → (r ≡ s) × (x ≡ y)
worked_determined {S} t words call refused r s x y p q =
    let e = determined (on_records t words call) refused (worked r x) (worked s y) p q in
    (ap (λ (z : Worked S). z.seen) e, ap (λ (z : Worked S). z.words) e)
