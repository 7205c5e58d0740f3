-- What a reader wants of records: they and their words hold the same latches, both ways.
-- Assumes nothing.
use Rattle.std.specs.Prelude.{ℕ, ◌*◌, ◌≡◌, true, List, length, get_or, take}
use Rattle.graph.specs.declared.latch.Latch.{Latch}
use Rattle.graph.specs.Latches.{latch_words, latches_lent, latch_at}
use Rattle.records.specs.Table.{words_of, room_for, nexts_back, records_back, no_latch, with_next}
use Rattle.records.specs.Entries.{there}

pub record RecordsRight (t : List Latch) : Type 0 where
  -- latch i of the words is record i, also past the end, and the words lend as many latches as there are records
  pub latch : (i : ℕ) → latch_at (words_of t) i ≡ get_or t i no_latch
  pub lent : latches_lent (words_of t) ≡ length t
  -- two tables with the same words are the same
  pub same : (u : List Latch) → words_of t ≡ words_of u → t ≡ u
  -- nexts back: record i has the next of latch i of the words, input and init as they were; and from its own words nothing changes
  pub next : (words : List ℕ) (i : ℕ) → room_for t words ≡ true → there t i ≡ true → get_or (nexts_back t words) i no_latch ≡ with_next (get_or t i no_latch) (latch_at words i).next
  pub kept : (words : List ℕ) → length (nexts_back t words) ≡ length t
  pub round : nexts_back t (words_of t) ≡ t
  -- whole records back: they hold the first words
  pub all : (words : List ℕ) → room_for t words ≡ true → words_of (records_back t words) ≡ take (latch_words * length t) words
