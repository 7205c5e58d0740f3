-- A flat call on two graphs in work words is the call on the words that the records of both hold.
-- Assumes nothing.
use Prim.Native.Nat.{ℕ, ◌*◌, ◌≤◌, ◌<◌}
use native.Mathlib.Omega.{arith}
use mathlib.Core.Path.{◌≡◌, refl, sym, ap, subst, ◌∙◌}
use mathlib.Core.Bool.{Bool, true, false, cond, ◌&&◌}
use mathlib.Core.List.{List, ◌++◌}
use lib.ListN.{length, length-append, length-drop, take-append-drop}
use lib.Seq.{take_at, drop_at}
use borrow.Author.Tests.{le-leb, lt-leb}
use Rattle.graph.specs.declared.latch.Latch.{Latch}
use Rattle.graph.specs.Latches.{latch_words, latches_lent}
use Rattle.records.specs.Table.{words_of, room_for, front, behind, laid_out, wiped, take_next, nexts_back}
use Rattle.records.specs.Calling.{Leaves, NextsAlone, CallRight}
use Rattle.records.specs.Steps.{Fronted, fronted, on_both}
use Rattle.records.specs.Pairing.{pair_seen, on_both_records}
use Rattle.records.proofs.Calling.{laid_same, laid_length, laid_front, laid_wiped, room_like, call_right}
use Rattle.records.proofs.Meaning.{back_stays}

-- ---- the call on work words
module _ {S : Type 0} (call : List ℕ → List ℕ → S) (refused : List ℕ → S) (n : ℕ) (words : List ℕ) (m : ℕ) (words2 : List ℕ) where
  pub too_few_first : latches_lent words < n → fronted (refused (front n words)) (behind n words) ≡ on_both n words m words2 call refused
  unfolding on_both
  too_few_first h = rw (lt-leb n (latches_lent words) h)

  pub too_few_second : n ≤ latches_lent words → latches_lent words2 < m → fronted (refused (front n words)) (behind n words) ≡ on_both n words m words2 call refused
  unfolding on_both
  too_few_second h k = rw (le-leb n (latches_lent words) h, lt-leb m (latches_lent words2) k)

  -- the first latches were lent, and came back in front of the rest
  pub done_both : n ≤ latches_lent words → m ≤ latches_lent words2 → (seen : List ℕ → S) (l : List ℕ) → length (l ++ behind n words) ≡ length words → seen l ≡ call (front n words) (front m words2)
      → fronted (seen (front n (l ++ behind n words))) (behind n (l ++ behind n words)) ≡ on_both n words m words2 call refused
  unfolding on_both
  done_both a b seen l k f =
      let h : length l ≡ latch_words * n = omega (arith, a, k, length-append l (behind n words), length-drop (latch_words * n) words) in
      let t : front n (l ++ behind n words) ≡ l = take_at l (behind n words) (latch_words * n) h in
      let d : behind n (l ++ behind n words) ≡ behind n words = drop_at l (behind n words) (latch_words * n) h in
      rw (le-leb n (latches_lent words) a, le-leb m (latches_lent words2) b) (λ j. fronted ((ap seen t ∙ f) j) (d j))

-- ---- on records. `seen` is what is left to be seen with other latches, and `get` and `put` are the latches of that; of the latches the call changes the nexts alone
module _ {S : Type 0} (call : List ℕ → List ℕ → S) (refused seen : List ℕ → S) (get : S → List ℕ) (put : S → List ℕ → S)
    (get_seen : (l : List ℕ) → get (seen l) ≡ l) (get_refused : (l : List ℕ) → get (refused l) ≡ l)
    (put_seen : (l m : List ℕ) → put (seen l) m ≡ seen m) (put_refused : (l m : List ℕ) → put (refused l) m ≡ refused m)
    (keeps : (x y : List ℕ) → NextsAlone x (get (call x y)))
    (t : List Latch) (words : List ℕ) (t2 : List Latch) (words2 : List ℕ) (after : List ℕ)
    (called : fronted (seen (front (length t) after)) (behind (length t) after) ≡ on_both (length t) (laid_out t words) (length t2) (laid_out t2 words2) call refused)
    (long : length after ≡ length words) where
  abbrev laid : List ℕ
  laid = front (length t) (laid_out t words)

  abbrev Test : Bool → Bool → S
  Test a b = cond (a && b) (call laid (front (length t2) (laid_out t2 words2))) (refused laid)

  tested : seen (front (length t) after) ≡ Test (room_for t words) (room_for t2 words2)
  unfolding on_both
  tested = ap (λ (z : Fronted S). z.seen) called ∙ (λ j. Test (room_like t (laid_out t words) words (laid_length t words) j) (room_like t2 (laid_out t2 words2) words2 (laid_length t2 words2) j))

  kept : behind (length t) after ≡ behind (length t) (laid_out t words)
  unfolding on_both
  kept = ap (λ (z : Fronted S). z.behind) called

  -- ---- with room for the first graph's records: a call on their words, by the room for the second's
  abbrev either : Bool → List ℕ → S
  either b x = cond b (call x (words_of t2)) (refused x)

  module _ (room : room_for t words ≡ true) where
    with_room : (b : Bool) → room_for t2 words2 ≡ b → seen (front (length t) after) ≡ either b laid
    with_room true e = tested ∙ ((λ j. Test (room j) (e j)) ∙ ap (call laid) (laid_front t2 words2 e))
    with_room false e = tested ∙ (λ j. Test (room j) (e j))

    abbrev second : Bool
    second = room_for t2 words2

    left : Leaves (length t) (laid_out t words) after (get (either second laid))
    left = record { long = long ∙ sym (laid_length t words); lent = sym (get_seen (front (length t) after)) ∙ ap get (with_room second refl); rest = kept }

    right : CallRight (either second) get t words room
    right = call_right (either second) get t words room

    alone : (b : Bool) → NextsAlone (words_of t) (get (either b (words_of t)))
    alone true = keeps (words_of t) (words_of t2)
    alone false = subst (NextsAlone (words_of t)) (sym (get_refused (words_of t))) (λ j. refl)

    seen_with : seen (words_of (nexts_back t after)) ≡ either second (words_of t)
    seen_with =
        ap seen (right.nexts after left (alone second) ∙ (ap get (sym right.called) ∙ sym left.lent))
        ∙ (with_room second refl ∙ right.called)

  -- ---- without: the graph, its records and the work words are as they were
  module _ (none : room_for t words ≡ false) where
    refused_at : seen (front (length t) after) ≡ refused (front (length t) words)
    refused_at = tested ∙ ((λ j. Test (none j) (room_for t2 words2)) ∙ ap (λ (z : List ℕ). refused (front (length t) z)) (laid_same t words none))

    untouched : after ≡ words
    untouched =
        let f : front (length t) after ≡ front (length t) words = sym (get_seen (front (length t) after)) ∙ (ap get refused_at ∙ get_refused (front (length t) words)) in
        let g : behind (length t) after ≡ behind (length t) words = kept ∙ ap (behind (length t)) (laid_same t words none) in
        sym (take-append-drop (latch_words * length t) after) ∙ ((λ j. f j ++ g j) ∙ take-append-drop (latch_words * length t) words)

    seen_without : seen (words_of (nexts_back t after)) ≡ refused (words_of t)
    seen_without =
        ap (λ (u : List Latch). seen (words_of u)) (back_stays take_next t after (room_like t after words long ∙ none))
        ∙ (sym (put_seen (front (length t) after) (words_of t)) ∙ (ap (λ (s : S). put s (words_of t)) refused_at ∙ put_refused (front (length t) words) (words_of t)))

  seen_right_lem : (a : Bool) → room_for t words ≡ a → seen (words_of (nexts_back t after)) ≡ cond (a && room_for t2 words2) (call (words_of t) (words_of t2)) (refused (words_of t))
  seen_right_lem true e = seen_with e
  seen_right_lem false e = seen_without e

  words_right : (a : Bool) → room_for t words ≡ a → wiped (length t) after ≡ wiped (length t) words
  words_right true e = (right e).clean after (left e)
  words_right false e = ap (wiped (length t)) (untouched e)

  pub on_both_nexts : (t' : List Latch) → t' ≡ nexts_back t after
      → pair_seen (seen (words_of t')) (wiped (length t) after) (wiped (length t2) (laid_out t2 words2)) ≡ on_both_records t words t2 words2 call refused
  unfolding on_both_records
  on_both_nexts t' e =
      ap (λ (u : List Latch). pair_seen (seen (words_of u)) (wiped (length t) after) (wiped (length t2) (laid_out t2 words2))) e
      ∙ (λ j. pair_seen (seen_right_lem (room_for t words) refl j) (words_right (room_for t words) refl j) (laid_wiped t2 words2 j))
