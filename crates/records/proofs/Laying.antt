-- Records written one by one as words are the words that the records hold; and those words give the records back.
-- Assumes nothing.
use Prim.Native.Nat.{ℕ, zero, suc, ◌+◌, ◌*◌, ◌≤◌, ◌<◌}
use native.Mathlib.Omega.{arith}
use native.Mathlib.Nat.{le_refl}
use mathlib.Core.Path.{◌≡◌, refl, sym, ap, ◌∙◌}
use mathlib.Core.List.{List, [], ◌∷◌, ◌++◌}
use lib.ListN.{length, get_or, set, drop}
use lib.Seq.{sets, sets-eq, drop-cons, drop-length}
use borrow.Author.Tests.{le-leb, lt-leb}
use Rattle.graph.specs.declared.latch.Latch.{Latch}
use Rattle.graph.specs.Latches.{latch_words, latches_lent, latch_at, latch_set}
use Rattle.records.specs.Table.{words_of, laid_out, no_latch}

-- ---- the words that records hold
pub thrice : (i : ℕ) → latch_words * suc i ≡ suc (suc (suc (latch_words * i)))
thrice i = omega arith

pub words_length : (t : List Latch) → length (words_of t) ≡ latch_words * length t
words_length [] = refl
words_length (l ∷ t) = ap (λ (n : ℕ). suc (suc (suc n))) (words_length t) ∙ sym (thrice (length t))

-- latch i of the words is record i
pub latch_of_words : (t : List Latch) (i : ℕ) → latch_at (words_of t) i ≡ get_or t i no_latch
latch_of_words [] i = refl
latch_of_words (l ∷ t) zero = refl
latch_of_words (l ∷ t) (suc i) =
    let e : latch_words * suc i + 1 ≡ suc (suc (suc (latch_words * i + 1))) = omega arith in
    let f : latch_words * suc i + 2 ≡ suc (suc (suc (latch_words * i + 2))) = omega arith in
    (λ j. record { input = get_or (words_of (l ∷ t)) (thrice i j) 0; next = get_or (words_of (l ∷ t)) (e j) 0; init = get_or (words_of (l ∷ t)) (f j) 0 }) ∙ latch_of_words t i

-- a latch put among the records is that latch put among their words
pub words_set : (t : List Latch) (i : ℕ) (l : Latch) → words_of (set t i l) ≡ latch_set (words_of t) i l
unfolding latch_set
words_set [] i l = refl
words_set (m ∷ t) zero l = refl
words_set (m ∷ t) (suc i) l =
    let e : latch_words * suc i + 1 ≡ suc (suc (suc (latch_words * i + 1))) = omega arith in
    let f : latch_words * suc i + 2 ≡ suc (suc (suc (latch_words * i + 2))) = omega arith in
    ap (λ (w : List ℕ). m.input ∷ (m.next ∷ (m.init ∷ w))) (words_set t i l)
    ∙ sym (λ j. set (set (set (words_of (m ∷ t)) (thrice i j) l.input) (e j) l.next) (f j) l.init)

-- ---- the copy
module _ (t : List Latch) (words : List ℕ) where
  -- the words after i records
  abbrev pub sofar : ℕ → List ℕ
  sofar zero = words
  sofar (suc i) = latch_set (sofar i) i (get_or t i no_latch)

-- records written from latch i on
abbrev written : List Latch → List ℕ → ℕ → List ℕ
written [] words i = words
written (l ∷ t) words i = written t (latch_set words i l) (suc i)

left : (t : List Latch) (words : List ℕ) (i : ℕ) → i ≤ length t → written (drop i t) (sofar t words i) i ≡ written t words 0
left t words zero h = refl
left t words (suc i) h = ap (λ (r : List Latch). written r (sofar t words i) i) (sym (drop-cons t i no_latch h)) ∙ left t words i (omega (arith, h))

as_stores : (t : List Latch) (words : List ℕ) (i : ℕ) → written t words i ≡ sets words (latch_words * i) (words_of t)
unfolding latch_set
as_stores [] words i = refl
as_stores (l ∷ t) words i =
    as_stores t (latch_set words i l) (suc i)
    ∙ ap (λ (k : ℕ). sets (latch_set words i l) k (words_of t)) (thrice i)
    ∙ ap (λ (x : List ℕ). sets x (suc (suc (suc (latch_words * i)))) (words_of t)) stores
  where
    stores : latch_set words i l ≡ set (set (set words (latch_words * i) l.input) (suc (latch_words * i)) l.next) (suc (suc (latch_words * i))) l.init
    stores = let e : latch_words * i + 1 ≡ suc (latch_words * i) = omega arith in
        let f : latch_words * i + 2 ≡ suc (suc (latch_words * i)) = omega arith in rw (e, f)

-- all of them
module _ (t : List Latch) (words : List ℕ) (room : length t ≤ latches_lent words) where
  fits : latch_words * length t ≤ length words
  fits = omega (arith, room)

  pub sofar_all : sofar t words (length t) ≡ words_of t ++ drop (latch_words * length t) words
  sofar_all =
      let n : 0 + length (words_of t) ≡ latch_words * length t = omega (arith, words_length t) in
      ap (λ (r : List Latch). written r (sofar t words (length t)) (length t)) (sym (drop-length t))
      ∙ left t words (length t) (le_refl (length t))
      ∙ as_stores t words 0
      ∙ sets-eq (words_of t) words 0 (omega (arith, words_length t, fits))
      ∙ ap (λ (k : ℕ). words_of t ++ drop k words) n

-- with the room for all of them, and without
module _ (t : List Latch) (words : List ℕ) where
  pub all_laid : length t ≤ latches_lent words → sofar t words (length t) ≡ laid_out t words
  unfolding laid_out
  all_laid h = rw (le-leb (length t) (latches_lent words) h) (sofar_all t words h)

  pub none_laid : latches_lent words < length t → words ≡ laid_out t words
  unfolding laid_out
  none_laid h = rw (lt-leb (length t) (latches_lent words) h)
