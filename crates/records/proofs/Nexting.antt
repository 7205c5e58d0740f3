-- Records written one by one from the words are what is defined.
-- Assumes nothing.
use Prim.Native.Nat.{ℕ, zero, suc, ◌+◌, ◌≤◌, ◌<◌}
use native.Mathlib.Omega.{arith}
use native.Mathlib.Nat.{le_refl, not-suc-le-zero, le_of_suc-le-suc}
use mathlib.Core.Path.{◌≡◌, refl, sym, ap, ◌∙◌}
use mathlib.Core.List.{List, [], ◌∷◌, ◌++◌, append-nil}
use lib.ListN.{length, get_or, set, take, drop}
use lib.Seq.{drop-cons, drop-length, take-suc, take_all, length-take-le, append_snoc, set_at, get_or_at}
use borrow.Author.Tests.{le-leb, lt-leb}
use Rattle.graph.specs.declared.latch.Latch.{Latch}
use Rattle.graph.specs.Latches.{latches_lent, latch_at}
use Rattle.records.specs.Table.{back_from, back, no_latch}

module _ (f : Latch → Latch → Latch) (words : List ℕ) where
  -- ---- what is defined, record by record
  pub back_length : (k : ℕ) (t : List Latch) → length (back_from f k t words) ≡ length t
  back_length k [] = refl
  back_length k (l ∷ t) = ap suc (back_length (suc k) t)

  pub back_at : (k : ℕ) (t : List Latch) (i : ℕ) → i < length t → get_or (back_from f k t words) i no_latch ≡ f (get_or t i no_latch) (latch_at words (k + i))
  back_at k [] i h = absurd (not-suc-le-zero h)
  back_at k (l ∷ t) zero h = let e : k ≡ k + 0 = omega arith in ap (λ (n : ℕ). f l (latch_at words n)) e
  back_at k (l ∷ t) (suc i) h =
      let e : suc k + i ≡ k + suc i = omega arith in
      back_at (suc k) t i (le_of_suc-le-suc h) ∙ ap (λ (n : ℕ). f (get_or t i no_latch) (latch_at words n)) e

  -- ---- the copy
  module _ (t : List Latch) where
    -- the records after i turns
    abbrev pub sofar : ℕ → List Latch
    sofar zero = t
    sofar (suc i) = set (sofar i) i (f (get_or (sofar i) i no_latch) (latch_at words i))

    whole : List Latch
    whole = back_from f 0 t words

    sofar_is : (i : ℕ) → i ≤ length t → sofar i ≡ take i whole ++ drop i t
    unfolding whole
    sofar_is zero h = refl
    sofar_is (suc i) h =
        let front : length (take i whole) ≡ i = length-take-le i whole (rw (back_length 0 t) (omega (arith, h))) in
        let apart : sofar i ≡ take i whole ++ (get_or t i no_latch ∷ drop (suc i) t) = sofar_is i (omega (arith, h)) ∙ ap (λ (z : List Latch). take i whole ++ z) (drop-cons t i no_latch h)
        in
        let old : get_or (sofar i) i no_latch ≡ get_or t i no_latch = ap (λ (z : List Latch). get_or z i no_latch) apart ∙ get_or_at (take i whole) (get_or t i no_latch) (drop (suc i) t)
        no_latch i front in
        let n : 0 + i ≡ i = omega arith in
        let new : f (get_or (sofar i) i no_latch) (latch_at words i) ≡ get_or whole i no_latch = ap (λ (l : Latch). f l (latch_at words i)) old ∙ sym
        (back_at 0 t i h ∙ ap (λ (k : ℕ). f (get_or t i no_latch) (latch_at words k)) n) in
        ap (λ (z : List Latch). set z i (f (get_or (sofar i) i no_latch) (latch_at words i))) apart ∙ set_at (take i whole) (get_or t i no_latch) (drop (suc i) t)
        (f (get_or (sofar i) i no_latch) (latch_at words i)) i front ∙ ap (λ (l : Latch). take i whole ++ (l ∷ drop (suc i) t)) new ∙ sym
        (append_snoc (take i whole) (get_or whole i no_latch) (drop (suc i) t)) ∙ ap (λ (z : List Latch). z ++ drop (suc i) t) (sym (take-suc whole i no_latch (rw (back_length 0 t) h)))

    sofar_all : sofar (length t) ≡ back_from f 0 t words
    unfolding whole
    sofar_all =
        sofar_is (length t) (le_refl (length t))
        ∙ ap (λ (z : List Latch). take (length t) whole ++ z) (drop-length t)
        ∙ append-nil (take (length t) whole)
        ∙ take_all (length t) whole (rw (back_length 0 t) (le_refl (length t)))

    -- with a latch for every record, and without
    pub all_back_lem : length t ≤ latches_lent words → sofar (length t) ≡ back f t words
    unfolding back
    all_back_lem h = rw (le-leb (length t) (latches_lent words) h) sofar_all

    pub none_back : latches_lent words < length t → t ≡ back f t words
    unfolding back
    none_back h = rw (lt-leb (length t) (latches_lent words) h)
