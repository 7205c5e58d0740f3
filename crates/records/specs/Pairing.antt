-- A flat call on two graphs for a caller that holds records of both: their words stand in lent work words while it runs.
-- Assumes nothing.
use Rattle.std.specs.Prelude.{ℕ, ◌≡◌, cond, ◌&&◌, List, length}
use Rattle.std.proofs.Common.{ap}
use Rattle.edge.specs.Answers.{determined}
use Rattle.graph.specs.declared.latch.Latch.{Latch}
use Rattle.records.specs.Table.{words_of, room_for, wiped}

-- ---- on records
-- what the flat call leaves to be seen, with the words that the first graph's records hold, and both work words
pub record PairSeen (S : Type 0) : Type 0 where
  pub seen : S
  pub words : List ℕ
  pub words2 : List ℕ

abbrev pub pair_seen : {S : Type 0} → S → List ℕ → List ℕ → PairSeen S
pair_seen s words words2 = record { seen = s; words = words; words2 = words2 }

-- 1, with the graph as it was, where either work words have no room for every record; work words that have room are zero over it afterwards, others untouched
unfoldable pub on_both_records : {S : Type 0} → List Latch → List ℕ → List Latch → List ℕ → (List ℕ → List ℕ → S) → (List ℕ → S) → PairSeen S
on_both_records t words t2 words2 call refused =
    pair_seen (cond (room_for t words && room_for t2 words2) (call (words_of t) (words_of t2)) (refused (words_of t))) (wiped (length t) words) (wiped (length t2) words2)

-- any two results that such a promise allows are equal
pub pair_determined : {S : Type 0} (t : List Latch) (words : List ℕ) (t2 : List Latch) (words2 : List ℕ) (call : List ℕ → List ℕ → S) (refused : List ℕ → S) (r s : S) (v w x y : List ℕ)
    → pair_seen r v x ≡ on_both_records t words t2 words2 call refused → pair_seen s w y ≡ on_both_records t words t2 words2 call refused → (r ≡ s) × (v ≡ w) × (x ≡ y)
pair_determined {S} t words t2 words2 call refused r s v w x y p q =
    let e = determined (on_both_records t words t2 words2 call) refused (pair_seen r v x) (pair_seen s w y) p q in
    (ap (λ (z : PairSeen S). z.seen) e, ap (λ (z : PairSeen S). z.words) e, ap (λ (z : PairSeen S). z.words2) e)
