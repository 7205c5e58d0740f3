-- Any flat call on work words is the call on the words that the records hold.
-- Assumes nothing.
use Prim.Native.Nat.{ℕ, ◌*◌, ◌≤◌, ◌/◌}
use native.Mathlib.Omega.{arith}
use mathlib.Core.Path.{◌≡◌, refl, sym, ap, subst, ◌∙◌}
use mathlib.Core.Bool.{Bool, true, false, cond}
use mathlib.Core.List.{List, ◌++◌}
use lib.ListN.{length, replicate, length-append, length-drop}
use lib.Seq.{take_at, drop_at}
use lib.Dec.{leb}
use borrow.Author.Tests.{leb-true}
use Rattle.graph.specs.declared.latch.Latch.{Latch}
use Rattle.graph.specs.Latches.{latch_words, latches_lent}
use Rattle.graph.specs.Check.{cleared}
use Rattle.records.specs.Table.{words_of, room_for, front, behind, laid_out, wiped, nexts_back, records_back}
use Rattle.records.specs.Calling.{Leaves, NextsAlone, CallRight}
use Rattle.records.proofs.Laying.{words_length}
use Rattle.records.proofs.Meaning.{all_back, nexts_all}

-- ---- the records' words in the work words
module _ (t : List Latch) (words : List ℕ) where
  laid_is : room_for t words ≡ true → laid_out t words ≡ words_of t ++ behind (length t) words
  unfolding laid_out
  laid_is e = rw e

  pub laid_same : room_for t words ≡ false → laid_out t words ≡ words
  unfolding laid_out
  laid_same e = rw e

  pub laid_length : length (laid_out t words) ≡ length words
  unfolding laid_out
  laid_length = by_test (room_for t words) refl
    where
      by_test : (b : Bool) → room_for t words ≡ b → length (cond b (words_of t ++ behind (length t) words) words) ≡ length words
      by_test true e =
          let h : length t ≤ latches_lent words = leb-true (length t) (latches_lent words) e in
          length-append (words_of t) (behind (length t) words) ∙ (omega (arith, h, words_length t, length-drop (latch_words * length t) words))
      by_test false e = refl

  pub laid_front : room_for t words ≡ true → front (length t) (laid_out t words) ≡ words_of t
  laid_front e = ap (front (length t)) (laid_is e) ∙ take_at (words_of t) (behind (length t) words) (latch_words * length t) (words_length t)

  pub laid_behind : room_for t words ≡ true → behind (length t) (laid_out t words) ≡ behind (length t) words
  laid_behind e = ap (behind (length t)) (laid_is e) ∙ drop_at (words_of t) (behind (length t) words) (latch_words * length t) (words_length t)

  -- wiped, they are as if they had never been laid out
  pub laid_wiped : wiped (length t) (laid_out t words) ≡ wiped (length t) words
  unfolding wiped
  laid_wiped = by_test (room_for t words) refl
    where
      by_test :
          (b : Bool) → room_for t words ≡ b → cond (leb (length t) (latches_lent (laid_out t words))) (cleared (latch_words * length t) (laid_out t words)) (laid_out t words) ≡ cond
          (leb (length t) (latches_lent words)) (cleared (latch_words * length t) words) words
      by_test true e = rw (laid_length, e) (ap (λ (z : List ℕ). replicate (latch_words * length t) 0 ++ z) (laid_behind e))
      by_test false e = rw (laid_length, e) (laid_same e)

-- as long as the words, so the same room
pub room_like : (t : List Latch) (x y : List ℕ) → length x ≡ length y → room_for t x ≡ room_for t y
room_like t x y e = ap (λ (k : ℕ). leb (length t) (k / latch_words)) e

wiped_room : (t : List Latch) (x : List ℕ) → room_for t x ≡ true → wiped (length t) x ≡ replicate (latch_words * length t) 0 ++ behind (length t) x
unfolding wiped
wiped_room t x e = rw e

-- ---- the call
module _ {S : Type 0} (call : List ℕ → S) (latches : S → List ℕ) (t : List Latch) (words : List ℕ) (room : room_for t words ≡ true) where
  is_called : call (front (length t) (laid_out t words)) ≡ call (words_of t)
  is_called = ap call (laid_front t words room)

  module _ (after : List ℕ) (left : Leaves (length t) (laid_out t words) after (latches (call (front (length t) (laid_out t words))))) where
    has_room_lem : room_for t after ≡ true
    has_room_lem = room_like t after words (left.long ∙ laid_length t words) ∙ room

    all_taken_lem : words_of (records_back t after) ≡ latches (call (words_of t))
    all_taken_lem = all_back t after has_room_lem ∙ (left.lent ∙ ap latches is_called)

    nexts_taken : NextsAlone (words_of t) (latches (call (words_of t))) → words_of (nexts_back t after) ≡ latches (call (words_of t))
    nexts_taken alone = ap words_of (nexts_all t after has_room_lem (subst (NextsAlone (words_of t)) (sym (left.lent ∙ ap latches is_called)) alone)) ∙ all_taken_lem

    is_clean : wiped (length t) after ≡ wiped (length t) words
    is_clean =
        wiped_room t after has_room_lem
        ∙ (ap (λ (z : List ℕ). replicate (latch_words * length t) 0 ++ z) (left.rest ∙ laid_behind t words room) ∙ sym (wiped_room t words room))

  pub call_right : CallRight call latches t words room
  call_right = record { called = is_called; back = all_taken_lem; nexts = nexts_taken; clean = is_clean }
