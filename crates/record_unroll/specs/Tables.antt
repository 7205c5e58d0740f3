-- A flat call on two graphs, made through local tables of latch records.
-- Assumes nothing.
use Rattle.std.specs.Prelude.{ℕ, cond, ◌&&◌, List}
use Rattle.records.specs.Table.{wiped}
use Rattle.records.specs.Local.{table_size, holds}
use Rattle.records.specs.Pairing.{PairSeen, pair_seen}

-- of latches that fill the tables: the flat call itself; 1, with the graph as it was, where either work words have no room for a table. Work words that have room are zero over it
-- afterwards, others untouched
unfoldable pub on_full : {S : Type 0} → List ℕ → List ℕ → List ℕ → List ℕ → (List ℕ → List ℕ → S) → (List ℕ → S) → PairSeen S
on_full latches words latches2 words2 call refused =
    pair_seen (cond (holds words && holds words2) (call latches latches2) (refused latches)) (wiped table_size words) (wiped table_size words2)
