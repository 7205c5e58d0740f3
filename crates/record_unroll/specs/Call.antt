-- Unrolling for callers whose latches are records.
-- Assumes nothing.
use Rattle.std.specs.Prelude.{ℕ, ◌≡◌, List}
use Rattle.edge.specs.Answers.{bad_sizes}
use Rattle.graph.specs.declared.latch.Latch.{Latch}
use Rattle.graph.specs.Graph.{Lent}
use Rattle.renumber.specs.Seen.{Rebuilt, RebuiltSeen, rebuilt_seen, SameRebuilt}
use Rattle.unroll.specs.Unroll.{unroll_call}
use Rattle.records.specs.Checking.{with_words}
use Rattle.records.specs.Held.{held, rebuilt_pair_determined}
use Rattle.records.specs.Pairing.{pair_seen, on_both_records}

-- the flat call, with the latches' words of both graphs last: those that the graphs lend are not looked at
abbrev pub unroll_with : Lent → Lent → List ℕ → List ℕ → List ℕ → RebuiltSeen
unroll_with a b marks latches latches2 = unroll_call (with_words a latches) (with_words b latches2) marks

-- where the work words of either graph are too few: 1, and the graph and the marks are as they were
abbrev pub unroll_refused : Lent → List ℕ → List ℕ → RebuiltSeen
unroll_refused a marks latches = record { given = bad_sizes; graph = with_words a latches; marks = marks }

-- any two results that the promise allows are equal: the answer, every word and record with the counts, the marks and the work words
pub unroll_determined :
    (t : List Latch) (words : List ℕ) (t2 : List Latch) (words2 : List ℕ) (call : List ℕ → List ℕ → RebuiltSeen) (refused : List ℕ → RebuiltSeen) (r s : Rebuilt) (g h : Lent) (u v : List Latch)
    (m n x y x2 y2 : List ℕ)
    → pair_seen (rebuilt_seen r (held g u) m) x x2 ≡ on_both_records t words t2 words2 call refused → pair_seen (rebuilt_seen s (held h v) n) y y2 ≡ on_both_records t words t2 words2 call refused
    → SameRebuilt r (held g u) m s (held h v) n × (u ≡ v) × (x ≡ y) × (x2 ≡ y2)
unroll_determined = rebuilt_pair_determined
