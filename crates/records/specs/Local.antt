-- A local table of records, for callers that hold flat words: the latches are read into it, and a call is made on it.
-- Assumes nothing.
use Rattle.std.specs.Prelude.{ℕ, ◌*◌, ◌≡◌, Bool, List, length, replicate, eqb, leb, Result}
use Rattle.std.proofs.Common.{ap}
use Rattle.edge.specs.declared.answer.Refusal.{Refusal}
use Rattle.edge.specs.Answers.{determined, answer_known}
use Rattle.graph.specs.declared.latch.Latch.{Latch}
use Rattle.graph.specs.Latches.{latch_words, latches_lent}
use Rattle.records.specs.Table.{no_latch, laid_out, records_back}
use Rattle.records.specs.Entries.{LatchSeen, found_seen, latch_call, next_call}

-- how many records a table has
abbrev pub table_size : ℕ
table_size = 16

-- a table before it is read, and the records that the words hold: of words that lend fewer latches, none is read
abbrev pub empty : List Latch
empty = replicate table_size no_latch

abbrev pub held : List ℕ → List Latch
held words = records_back empty words

-- the words lend a table of latches, and nothing behind it
abbrev pub full : List ℕ → Bool
full words = eqb (length words) (latch_words * table_size)

-- work words have room for a table
abbrev pub holds : List ℕ → Bool
holds words = leb table_size (latches_lent words)

-- ---- a next written in a table and the record read again: what was read, and the words that are left
pub record EntrySeen : Type 0 where
  pub found : LatchSeen
  pub latches : List ℕ

abbrev pub entry_seen : Result Latch Refusal → List ℕ → EntrySeen
entry_seen r latches = record { found = found_seen r; latches = latches }

unfoldable pub next_through : List ℕ → ℕ → ℕ → EntrySeen
next_through latches i next = let t = (next_call (held latches) i next).table in record { found = latch_call t i; latches = laid_out t latches }

-- any two results that a promise of this kind allows are equal
pub entry_determined : (call : List ℕ → EntrySeen) (latches : List ℕ) (r s : Result Latch Refusal) (x y : List ℕ) → entry_seen r x ≡ call latches → entry_seen s y ≡ call latches → (r ≡ s) × (x ≡ y)
entry_determined call latches r s x y p q =
    let e = determined call latches (entry_seen r x) (entry_seen s y) p q in
    (answer_known no_latch r s (ap (λ (z : EntrySeen). z.found.given) e) (ap (λ (z : EntrySeen). z.found.latch) e), ap (λ (z : EntrySeen). z.latches) e)
