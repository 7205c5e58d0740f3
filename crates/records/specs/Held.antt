-- A graph whose latches are records, seen with the words that they hold: where the words are fixed, so are the records.
-- Assumes nothing.
use Rattle.std.specs.Prelude.{ℕ, ◌≡◌, refl, List}
use Rattle.std.proofs.Common.{ap}
use Rattle.graph.specs.declared.latch.Latch.{Latch}
use Rattle.graph.specs.Graph.{Lent}
use Rattle.renumber.specs.Seen.{Rebuilt, RebuiltSeen, rebuilt_seen, SameRebuilt, rebuilt_determined}
use Rattle.records.specs.Table.{words_of, same_table}
use Rattle.records.specs.Checking.{with_words}
use Rattle.records.specs.Pairing.{pair_seen, on_both_records, pair_determined}

-- the graph g with the records u as its latches
abbrev pub held : Lent → List Latch → Lent
held g u = with_words g (words_of u)

-- where two such graphs are equal, so are the records
pub held_same : (g h : Lent) (u v : List Latch) → held g u ≡ held h v → u ≡ v
held_same g h u v e = same_table u v (ap (λ (z : Lent). z.latches) e)

-- any two results that a promise on the records of two graphs allows are equal, of a call that rebuilds the first of them: the answer, every word and record with the counts, the marks and the
-- work words
pub rebuilt_pair_determined :
    (t : List Latch) (words : List ℕ) (t2 : List Latch) (words2 : List ℕ) (call : List ℕ → List ℕ → RebuiltSeen) (refused : List ℕ → RebuiltSeen) (r s : Rebuilt) (g h : Lent) (u v : List Latch)
    (m n x y x2 y2 : List ℕ)
    → pair_seen (rebuilt_seen r (held g u) m) x x2 ≡ on_both_records t words t2 words2 call refused → pair_seen (rebuilt_seen s (held h v) n) y y2 ≡ on_both_records t words t2 words2 call refused
    → SameRebuilt r (held g u) m s (held h v) n × (u ≡ v) × (x ≡ y) × (x2 ≡ y2)
rebuilt_pair_determined t words t2 words2 call refused r s g h u v m n x y x2 y2 p q =
    let e = pair_determined t words t2 words2 call refused (rebuilt_seen r (held g u) m) (rebuilt_seen s (held h v) n) x y x2 y2 p q in
    let d = rebuilt_determined (λ (z : RebuiltSeen). z) (rebuilt_seen s (held h v) n) r s (held g u) (held h v) m n e.0 refl in
    (d, held_same g h u v d.1, e.1, e.2)
