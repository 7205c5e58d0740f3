-- Records and their words hold the same latches, both ways.
-- Assumes nothing.
use Prim.Native.Nat.{ℕ, suc, ◌+◌, ◌*◌, ◌≤◌, ◌<◌}
use native.Mathlib.Omega.{arith}
use mathlib.Core.Path.{◌≡◌, refl, sym, ap, ◌∙◌}
use mathlib.Core.Bool.{Bool, true, false, cond}
use mathlib.Core.List.{List, [], ◌∷◌}
use lib.ListN.{length, get_or, take, drop}
use lib.Seq.{ext_get_or, drop-cons}
use borrow.Author.Tests.{ltb-true, leb-true, lt-ltb}
use Rattle.graph.specs.declared.latch.Latch.{Latch}
use Rattle.graph.specs.Latches.{latch_words, latches_lent, latch_at}
use Rattle.records.specs.Table.{words_of, same_table, room_for, take_next, all_taken, back_from, back, nexts_back, records_back, no_latch}
use Rattle.records.specs.Entries.{there}
use Rattle.records.specs.Calling.{NextsAlone}
use Rattle.records.specs.Meaning.{RecordsRight}
use Rattle.records.proofs.Laying.{thrice, words_length, latch_of_words}
use Rattle.records.proofs.Nexting.{back_length, back_at}

lends : (t : List Latch) → latches_lent (words_of t) ≡ length t
lends t = omega (arith, words_length t)

module _ (f : Latch → Latch → Latch) (t : List Latch) (words : List ℕ) where
  pub back_kept : length (back f t words) ≡ length t
  unfolding back
  back_kept = by_test (room_for t words)
    where
      by_test : (b : Bool) → length (cond b (back_from f 0 t words) t) ≡ length t
      by_test true = back_length f words 0 t
      by_test false = refl

  from_at : (i : ℕ) → i < length t → get_or (back_from f 0 t words) i no_latch ≡ f (get_or t i no_latch) (latch_at words i)
  from_at i h = let e : 0 + i ≡ i = omega arith in back_at f words 0 t i h ∙ ap (λ (k : ℕ). f (get_or t i no_latch) (latch_at words k)) e

  back_next : (i : ℕ) → room_for t words ≡ true → there t i ≡ true → get_or (back f t words) i no_latch ≡ f (get_or t i no_latch) (latch_at words i)
  unfolding back
  back_next i room h = rw room (from_at i (ltb-true i (length t) h))

-- without room the records stay
pub back_stays : (f : Latch → Latch → Latch) (t : List Latch) (words : List ℕ) → room_for t words ≡ false → back f t words ≡ t
unfolding back
back_stays f t words e = rw e

-- where what is taken of a record's own words is the record, nothing changes
own_back : (f : Latch → Latch → Latch) → ((l : Latch) → f l l ≡ l) → (t : List Latch) → back f t (words_of t) ≡ t
unfolding back
own_back f own t = by_test (room_for t (words_of t))
  where
    by_test : (b : Bool) → cond b (back_from f 0 t (words_of t)) t ≡ t
    by_test true =
        ext_get_or no_latch (back_from f 0 t (words_of t)) t (back_length f (words_of t) 0 t)
        (λ i h. let k : i < length t = rw (sym (back_length f (words_of t) 0 t)) h in
        from_at f t (words_of t) i k ∙ (ap (f (get_or t i no_latch)) (latch_of_words t i) ∙ own (get_or t i no_latch)))
    by_test false = refl

-- all of the words' latches taken: the records hold the first words
read_back :
    (words : List ℕ) (t : List Latch) (k : ℕ) → latch_words * (k + length t) ≤ length words → words_of (back_from all_taken k t words) ≡ take (latch_words * length t)
    (drop (latch_words * k) words)
read_back words [] k h = refl
read_back words (l ∷ t) k h =
    let at : ℕ = latch_words * k in
    let e : at + 1 ≡ suc at = omega arith in
    let f : at + 2 ≡ suc (suc at) = omega arith in
    let three : drop at words ≡ get_or words at 0 ∷ (get_or words (suc at) 0 ∷ (get_or words (suc (suc at)) 0 ∷ drop (suc (suc (suc at))) words)) = drop-cons words at 0 (omega (arith, h)) ∙
    ap (λ (z : List ℕ). get_or words at 0 ∷ z)
    (drop-cons words (suc at) 0 (omega (arith, h)) ∙ ap (λ (z : List ℕ). get_or words (suc at) 0 ∷ z) (drop-cons words (suc (suc at)) 0 (omega (arith, h)))) in
    (λ j. get_or words at 0 ∷ (get_or words (e j) 0 ∷ (get_or words (f j) 0 ∷ read_back words t (suc k) (omega (arith, h)) j))) ∙ ap
    (λ (n : ℕ). get_or words at 0 ∷ (get_or words (suc at) 0 ∷ (get_or words (suc (suc at)) 0 ∷ take (latch_words * length t) (drop n words)))) (thrice k) ∙ sym
    (ap (λ (n : ℕ). take n (drop at words)) (thrice (length t)) ∙ ap (take (suc (suc (suc (latch_words * length t))))) three)

pub all_back : (t : List Latch) (words : List ℕ) → room_for t words ≡ true → words_of (records_back t words) ≡ take (latch_words * length t) words
unfolding back
all_back t words room = let h : length t ≤ latches_lent words = leb-true (length t) (latches_lent words) room in rw room (read_back words t 0 (omega (arith, h)))

-- ---- nexts alone
-- where nothing but nexts differs, nexts back is all back
pub nexts_all : (t : List Latch) (words : List ℕ) → room_for t words ≡ true → NextsAlone (words_of t) (take (latch_words * length t) words) → nexts_back t words ≡ records_back t words
nexts_all t words room alone =
    let u = records_back t words in
    let n : length (nexts_back t words) ≡ length u = back_kept take_next t words ∙ sym (back_kept all_taken t words) in
    let same : (j : ℕ) → take_next (get_or t j no_latch) (get_or u j no_latch) ≡ get_or u j no_latch = λ j. (λ k. take_next (sym (latch_of_words t j) k) (sym (latch_of_words u j) k)) ∙
    (ap (λ (z : List ℕ). take_next (latch_at (words_of t) j) (latch_at z j)) (all_back t words room) ∙
    (alone j ∙ (ap (λ (z : List ℕ). latch_at z j) (sym (all_back t words room)) ∙ latch_of_words u j))) in
    ext_get_or no_latch (nexts_back t words) u n
    (λ j h. let b : there t j ≡ true = lt-ltb j (length t) (rw (sym (back_kept take_next t words)) h) in back_next take_next t words j room b ∙
    (ap (take_next (get_or t j no_latch)) (sym (back_next all_taken t words j room b)) ∙ same j))

pub records_right : (t : List Latch) → RecordsRight t
records_right t = record {
  latch = latch_of_words t;
  lent = lends t;
  same = same_table t;
  next = λ words i. back_next take_next t words i;
  kept = λ words. back_kept take_next t words;
  round = own_back take_next (λ l. refl) t;
  all = all_back t;
}
