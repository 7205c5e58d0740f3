-- What a reader wants of the bridge: of latches that fill the tables it is the call on records, and with room the flat call.
-- Assumes nothing.
use Rattle.std.specs.Prelude.{ℕ, ◌≡◌, true, List}
use Rattle.records.specs.Entries.{latch_call, next_call}
use Rattle.records.specs.Table.{words_of}
use Rattle.records.specs.Local.{held, full, holds}
use Rattle.records.specs.Pairing.{on_both_records}
use Rattle.records.specs.Working.{on_records}
use Rattle.record_bridge.specs.Bridge.{entry_call, on_table, on_tables}

-- one record: what `set_next` leaves of the records that the words hold, and what `latch_at` then reads
pub record EntryRight (latches : List ℕ) (i next : ℕ) (fills : full latches ≡ true) : Type 0 where
  pub read : (entry_call latches i next).found ≡ latch_call (next_call (held latches) i next).table i
  pub left : (entry_call latches i next).latches ≡ words_of (next_call (held latches) i next).table

-- a call that reads one graph
pub record ReadRight {S : Type 0} (call : List ℕ → S) (refused : S) (latches words : List ℕ) (fills : full latches ≡ true) : Type 0 where
  pub records : on_table latches words call refused ≡ on_records (held latches) words call refused
  pub flat : holds words ≡ true → (on_table latches words call refused).seen ≡ call latches

-- a call on two graphs
pub record BridgeRight {S : Type 0} (call : List ℕ → List ℕ → S) (refused : List ℕ → S) (latches words latches2 words2 : List ℕ) (fills : full latches ≡ true) (fills2 : full latches2 ≡ true) : Type 0 where
  -- of latches that fill the tables, what the call on records promises on the records that the words hold
  pub records : on_tables latches words latches2 words2 call refused ≡ on_both_records (held latches) words (held latches2) words2 call refused
  -- and with room for a table in both work words it is the flat call, to the word
  pub flat : holds words ≡ true → holds words2 ≡ true → (on_tables latches words latches2 words2 call refused).seen ≡ call latches latches2
