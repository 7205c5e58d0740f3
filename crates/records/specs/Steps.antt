-- What only the proofs need: what a step asks of its caller, and what its functions count on the way.
-- Assumes nothing.
use Rattle.std.specs.Prelude.{ℕ, cond, ◌&&◌, List, leb}
use Rattle.graph.specs.Latches.{latches_lent}
use Rattle.records.specs.Table.{front, behind, wiped}
use Rattle.records.specs.Working.{Worked, worked}

-- ---- on work words
-- what the flat call leaves to be seen, with the first latches as those of its graph, and the words behind them
pub record Fronted (S : Type 0) : Type 0 where
  pub seen : S
  pub behind : List ℕ

abbrev pub fronted : {S : Type 0} → S → List ℕ → Fronted S
fronted s behind = record { seen = s; behind = behind }

unfoldable pub on_both : {S : Type 0} → ℕ → List ℕ → ℕ → List ℕ → (List ℕ → List ℕ → S) → (List ℕ → S) → Fronted S
on_both n words m words2 call refused =
    fronted (cond (leb n (latches_lent words) && leb m (latches_lent words2)) (call (front n words) (front m words2)) (refused (front n words))) (behind n words)

-- on the first n latches of the work words: where they are not so many, they are untouched and nothing else is done; else they are zero afterwards
unfoldable pub on_words : {S : Type 0} → ℕ → List ℕ → (List ℕ → S) → S → Worked S
on_words n words call refused = worked (cond (leb n (latches_lent words)) (call (front n words)) refused) (wiped n words)
