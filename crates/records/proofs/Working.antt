-- A flat call on work words is the call on the words that the records hold.
-- Assumes nothing.
use Prim.Native.Nat.{ℕ, ◌*◌, ◌≤◌, ◌<◌}
use mathlib.Core.Path.{◌≡◌, refl, ap, ◌∙◌}
use mathlib.Core.Bool.{Bool, true, false, cond}
use mathlib.Core.List.{List}
use lib.ListN.{length, take}
use borrow.Author.Tests.{le-leb, lt-leb}
use Rattle.graph.specs.declared.latch.Latch.{Latch}
use Rattle.graph.specs.Latches.{latch_words, latches_lent}
use Rattle.graph.specs.Check.{cleared}
use Rattle.records.specs.Table.{words_of, room_for, front, laid_out, wiped}
use Rattle.records.specs.Working.{worked, on_records}
use Rattle.records.specs.Steps.{on_words}
use Rattle.records.proofs.Calling.{laid_length, laid_wiped, room_like, call_right}

module _ {S : Type 0} (call : List ℕ → S) (refused : S) where
  -- ---- on work words
  pub too_few : (n : ℕ) (words : List ℕ) → latches_lent words < n → worked refused words ≡ on_words n words call refused
  unfolding on_words wiped
  too_few n words h = rw (lt-leb n (latches_lent words) h)

  pub done_on : (n : ℕ) (words after : List ℕ) (s : S) → n ≤ latches_lent words → s ≡ call (take (latch_words * n) words) → after ≡ cleared (latch_words * n) words
      → worked s after ≡ on_words n words call refused
  unfolding on_words wiped
  done_on n words after s h e f = rw (le-leb n (latches_lent words) h, e, f)

  -- ---- on records
  module _ (t : List Latch) (words : List ℕ) where
    abbrev Seen : Bool → S
    Seen b = cond b (call (front (length t) (laid_out t words))) refused

    seen : (b : Bool) → room_for t words ≡ b → Seen b ≡ cond b (call (words_of t)) refused
    seen true e = (call_right call (λ _. words_of t) t words e).called
    seen false e = refl

    pub on_records_lem : on_words (length t) (laid_out t words) call refused ≡ on_records t words call refused
    unfolding on_words on_records
    on_records_lem = λ j. worked ((ap Seen (room_like t (laid_out t words) words (laid_length t words)) ∙ seen (room_for t words) refl) j) (laid_wiped t words j)
