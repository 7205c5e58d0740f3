-- Laws of the test for the same first rows and the same latch inputs.
-- Assumes nothing.
use Prim.Native.Nat.{ℕ, zero, suc, ◌+◌, ◌*◌, ◌≤◌, ◌<◌}
use native.Mathlib.Omega.{arith}
use mathlib.Core.Path.{◌≡◌, refl, sym, ap, ◌∙◌}
use mathlib.Core.Bool.{Bool, true, false, cond, ◌&&◌}
use mathlib.Core.List.{List}
use lib.ListN.{length, get_or, take}
use lib.Seq.{length-take-le}
use lib.Dec.{leb, eqb}
use borrow.Author.Tests.{leb-true, le-leb, eqb-true, eq-eqb}
use Rattle.std.specs.Prelude.{Option, Some, None, is_none}
use Rattle.std.specs.List.{list_all, range_with_len}
use Rattle.std.specs.Cmp.Lexicographic.{pointwise}
use Rattle.std.proofs.lemmas.Bool.Decides.{same_from_decides}
use Rattle.std.proofs.lemmas.List.{get_or-take, ext_get_or}
use Rattle.std.proofs.lemmas.Slice.Eq.{bytes_eq-Decides}
use Rattle.edge.proofs.Tests.{both, both_true, false_true}
use Rattle.graph.specs.Search.{first_bad}
use Rattle.graph.specs.Latches.{latch_at, latch_inputs}
use Rattle.graph.specs.Graph.{Lent, Sized}
use Rattle.graph.proofs.Latches.{same_inputs}
use Rattle.graph.proofs.Searching.{all_good, nothing_bad}
use Rattle.frame.specs.Call.{SameStart}
use Rattle.frame.proofs.Ready.{as_many, same_input}
use Rattle.unroll.specs.Unroll.{same_word, same_latch, start_is, same_start}

-- ---- nothing is found exactly where all are good
all_are : (good : ℕ → Bool) (n : ℕ) → is_none (first_bad good 0 n) ≡ true → (j : ℕ) → j < n → good j ≡ true
all_are good n = go (first_bad good 0 n) refl
  where
    go : (f : Option ℕ) → first_bad good 0 n ≡ f → is_none f ≡ true → (j : ℕ) → j < n → good j ≡ true
    go (Some i) e h = absurd (false_true h)
    go None e h = λ j l. all_good good n 0 e j (omega arith) (omega arith)

found_none : (good : ℕ → Bool) (n : ℕ) → ((j : ℕ) → j < n → good j ≡ true) → is_none (first_bad good 0 n) ≡ true
found_none good n h = ap is_none (nothing_bad good n 0 (λ j k l. h j (omega arith)))

-- ---- the library's tests of all places, and of two lists
all_told : (good : ℕ → Bool) (n i : ℕ) → list_all good (range_with_len i n) ≡ is_none (first_bad good i n)
unfolding first_bad
all_told good zero i = refl
all_told good (suc n) i = go (good i) (all_told good n (i + 1))
  where
    go : (t : Bool) → list_all good (range_with_len (i + 1) n) ≡ is_none (first_bad good (i + 1) n)
        → t && list_all good (range_with_len (i + 1) n) ≡ is_none (cond t (first_bad good (i + 1) n) (Some i))
    go true e = e
    go false e = refl

words_told : (x y : List ℕ) (n : ℕ) → n ≤ length x → n ≤ length y → pointwise eqb (take n x) (take n y) ≡ is_none (first_bad (same_word x y) 0 n)
words_told x y n h k = same_from_decides _ _ (bytes_eq-Decides (take n x) (take n y)) (equal, same)
  where
    long : (l : List ℕ) → n ≤ length l → length (take n l) ≡ n
    long l h = length-take-le n l h

    equal : is_none (first_bad (same_word x y) 0 n) ≡ true → take n x ≡ take n y
    equal t =
        ext_get_or 0 (take n x) (take n y) (long x h ∙ sym (long y k))
        (λ j l.
        let m : j < n = omega (arith, long x h) in
        get_or-take n x j 0 m ∙ (eqb-true (get_or x j 0) (get_or y j 0) (all_are (same_word x y) n t j m) ∙ sym (get_or-take n y j 0 m)))

    same : take n x ≡ take n y → is_none (first_bad (same_word x y) 0 n) ≡ true
    same e =
        found_none (same_word x y) n
        (λ j l. eq-eqb (get_or x j 0) (get_or y j 0) (sym (get_or-take n x j 0 l) ∙ (ap (λ (t : List ℕ). get_or t j 0) e ∙ get_or-take n y j 0 l)))

module _ (a b : Lent) where
  pub start_same : same_start a b ≡ true → SameStart a b
  unfolding start_is
  start_same h =
      let words = first_bad (same_word a.rows b.rows) 0 (2 * b.counts.rows) in
      let latches = first_bad (same_latch a.latches b.latches) 0 b.counts.latches in
      let t = both {a = leb b.counts.rows a.counts.rows && eqb a.counts.latches b.counts.latches} {b = is_none words && is_none latches} h in
      let u = both {a = leb b.counts.rows a.counts.rows} {b = eqb a.counts.latches b.counts.latches} t.0 in
      let v = both {a = is_none words} {b = is_none latches} t.1 in
      record {
        more = leb-true b.counts.rows a.counts.rows u.0;
        rows = λ k l. eqb-true (get_or a.rows k 0) (get_or b.rows k 0) (all_are (same_word a.rows b.rows) (2 * b.counts.rows) v.0 k l);
        latches = ap (latch_inputs a.latches) (eqb-true a.counts.latches b.counts.latches u.1) ∙ same_inputs a.latches b.latches b.counts.latches
            (λ j l. eqb-true (latch_at a.latches j).input (latch_at b.latches j).input (all_are (same_latch a.latches b.latches) b.counts.latches v.1 j l));
      }

  pub same_start_lem : SameStart a b → same_start a b ≡ true
  unfolding start_is
  same_start_lem s =
      both_true
      (both_true (le-leb b.counts.rows a.counts.rows s.more) (eq-eqb a.counts.latches b.counts.latches (as_many a b s)))
      (both_true
      (found_none (same_word a.rows b.rows) (2 * b.counts.rows) (λ k l. eq-eqb (get_or a.rows k 0) (get_or b.rows k 0) (s.rows k l)))
      (found_none (same_latch a.latches b.latches) b.counts.latches (λ j l. eq-eqb (latch_at a.latches j).input (latch_at b.latches j).input (same_input a b s j l))))

-- ---- tests in a row: the first that fails is the last that is asked
pub asked : {t v x : Bool} → t ≡ true → v ≡ x → v ≡ t && x
asked e p = rw e p

pub not_asked : {t v : Bool} (x : Bool) → t ≡ false → v ≡ t → v ≡ t && x
not_asked x e p = rw e (p ∙ e)

fails_early : (d w x : Bool) → d && w ≡ false → false ≡ d && (w && x)
fails_early true true x e = absurd (false_true (sym e))
fails_early true false x e = refl
fails_early false w x e = refl

module _ (a b : Lent) (s : Sized a a.counts.rows) (t : Sized b b.counts.rows) {v u : Bool} (p : v ≡ leb b.counts.rows a.counts.rows && eqb a.counts.latches b.counts.latches)
    (q : u ≡ v && pointwise eqb (take (2 * b.counts.rows) a.rows) (take (2 * b.counts.rows) b.rows)) where
  abbrev counts : Bool
  counts = leb b.counts.rows a.counts.rows && eqb a.counts.latches b.counts.latches

  abbrev words : Bool
  words = is_none (first_bad (same_word a.rows b.rows) 0 (2 * b.counts.rows))

  abbrev latches : Bool
  latches = is_none (first_bad (same_latch a.latches b.latches) 0 b.counts.latches)

  tests : u ≡ counts && words
  tests = q ∙ rw p (go (leb b.counts.rows a.counts.rows) refl)
    where
      go : (d : Bool) → leb b.counts.rows a.counts.rows ≡ d
          → (d && eqb a.counts.latches b.counts.latches) && pointwise eqb (take (2 * b.counts.rows) a.rows) (take (2 * b.counts.rows) b.rows)
          ≡ (d && eqb a.counts.latches b.counts.latches) && words
      go true e =
          let l = leb-true b.counts.rows a.counts.rows e in
          ap (λ (x : Bool). eqb a.counts.latches b.counts.latches && x)
          (words_told a.rows b.rows (2 * b.counts.rows) (omega (arith, l, s.rows.fit.within)) (omega (arith, t.rows.fit.within)))
      go false e = refl

  pub start_short : u ≡ false → u ≡ same_start a b
  unfolding start_is
  start_short h = h ∙ fails_early counts words latches (sym tests ∙ h)

  pub start_long : u ≡ true → {l : Bool} → l ≡ list_all (same_latch a.latches b.latches) (range_with_len 0 b.counts.latches) → l ≡ same_start a b
  unfolding start_is
  start_long h w =
      let k = both {a = counts} {b = words} (sym tests ∙ h) in
      w ∙ (all_told (same_latch a.latches b.latches) b.counts.latches 0 ∙ rw (k.0, k.1))
