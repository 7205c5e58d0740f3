-- Any flat call, for a caller that holds records: `to_words`, the call on the front of the work words, `records_back` or `nexts_back`, and `wipe`. That is the call on the records.
-- Assumes nothing.
use Rattle.std.specs.Prelude.{ℕ, ◌≡◌, true, List, length}
use Rattle.graph.specs.declared.latch.Latch.{Latch}
use Rattle.graph.specs.Latches.{latch_at}
use Rattle.records.specs.Table.{words_of, room_for, front, behind, laid_out, wiped, take_next, nexts_back, records_back}

-- what a call that was lent the first n latches of the work words leaves of them: these latches, and the words behind as they were
pub record Leaves (n : ℕ) (words after latches : List ℕ) : Type 0 where
  pub long : length after ≡ length words
  pub lent : front n after ≡ latches
  pub rest : behind n after ≡ behind n words

-- y holds the latches of x but for their nexts
abbrev pub NextsAlone : List ℕ → List ℕ → Type 0
NextsAlone x y = (j : ℕ) → take_next (latch_at x j) (latch_at y j) ≡ latch_at y j

-- `call` is any flat call on the latches' words, with all else that it is lent; `latches` are those that it leaves, of a call that only reads the same again
pub record CallRight {S : Type 0} (call : List ℕ → S) (latches : S → List ℕ) (t : List Latch) (words : List ℕ) (room : room_for t words ≡ true) : Type 0 where
  -- on the front of the work words it is the call on the words that the records hold
  pub called : call (front (length t) (laid_out t words)) ≡ call (words_of t)
  -- the records taken back hold the latches that this leaves; the nexts alone are enough where it changes nothing else of them
  pub back : (after : List ℕ) → Leaves (length t) (laid_out t words) after (latches (call (front (length t) (laid_out t words)))) → words_of (records_back t after) ≡ latches (call (words_of t))
  pub nexts : (after : List ℕ) → Leaves (length t) (laid_out t words) after (latches (call (front (length t) (laid_out t words))))
      → NextsAlone (words_of t) (latches (call (words_of t))) → words_of (nexts_back t after) ≡ latches (call (words_of t))
  -- wiped, the work words are as if no record had stood in them
  pub clean : (after : List ℕ) → Leaves (length t) (laid_out t words) after (latches (call (front (length t) (laid_out t words)))) → wiped (length t) after ≡ wiped (length t) words
