-- Laws of the search for the first bad place.
-- Assumes nothing.
use Prim.Native.Nat.{ℕ, zero, suc, ◌+◌, ◌-◌, ◌≤◌, ◌<◌}
use native.Mathlib.Omega.{arith}
use native.Mathlib.Nat.{eq-or-lt_of_le}
use mathlib.Core.Path.{◌≡◌, refl, sym, ap}
use mathlib.Core.Bool.{Bool, true, false, cond, not}
use mathlib.Core.Logic.{⊎_elim}
use mathlib.Core.List.{List}
use lib.ListN.{length, get_or}
use borrow.Author.Tests.{lt-ltb, le-ltb}
use Rattle.std.specs.Prelude.{Option, Some, None, position}
use Rattle.std.proofs.lemmas.List.Sums.{position_or_len_is}
use Rattle.graph.specs.Search.{first_bad}

-- ---- a loop that counts i up to n
module _ (good : ℕ → Bool) (i n : ℕ) where
  pub ended : n ≤ i → first_bad good i (n - i) ≡ None
  unfolding first_bad
  ended l = let e : n - i ≡ 0 = omega arith in rw e

  module _ (l : i < n) where
    step : n - i ≡ suc (n - (i + 1))
    step = omega arith

    pub stops : good i ≡ false → first_bad good i (n - i) ≡ Some i
    unfolding first_bad
    stops e = rw (step, e)

    pub goes_on : good i ≡ true → first_bad good i (n - i) ≡ first_bad good (i + 1) (n - (i + 1))
    unfolding first_bad
    goes_on e = rw (step, e)

-- ---- a search is the same where each place is judged the same
pub same_search : (good good' : ℕ → Bool) (n i : ℕ) → ((j : ℕ) → i ≤ j → j < i + n → good j ≡ good' j) → first_bad good i n ≡ first_bad good' i n
unfolding first_bad
same_search good good' zero i all = refl
same_search good good' (suc n) i all =
    rw (all i (omega arith) (omega arith), same_search good good' n (i + 1) (λ j l h. all j (omega arith) (omega arith))) refl

-- ---- what was found
pub at_nothing : {i : ℕ} → Some i ≡ None → ⊥
at_nothing e = let z : ◌≡◌ {A = ℕ} 0 1 = cc in omega arith

at_same : {i j : ℕ} → Some i ≡ Some j → i ≡ j
at_same e = cc

-- place j is the first bad one of those from i on
pub record First (good : ℕ → Bool) (i n j : ℕ) : Type 0 where
  pub from : i ≤ j
  pub below : j < i + n
  pub bad : good j ≡ false
  pub before : (k : ℕ) → i ≤ k → k < j → good k ≡ true

module _ (good : ℕ → Bool) where
  -- where nothing was found, every place is good
  pub all_good : (n i : ℕ) → first_bad good i n ≡ None → (j : ℕ) → i ≤ j → j < i + n → good j ≡ true
  unfolding first_bad
  all_good zero i e j l h = absurd (omega arith)
  all_good (suc n) i e j l h = go (good i) refl e (λ e' l'. all_good n (i + 1) e' j l' (omega arith))
    where
      go : (t : Bool) → good i ≡ t → cond t (first_bad good (i + 1) n) (Some i) ≡ None → (first_bad good (i + 1) n ≡ None → i + 1 ≤ j → good j ≡ true) → good j ≡ true
      go true g e later = ⊎_elim (λ q. rw (← q) g) (λ lt. later e (omega arith)) (eq-or-lt_of_le l)
      go false g e later = absurd (at_nothing e)

  -- where something was found, it is the first bad one
  pub is_first : (n i j : ℕ) → first_bad good i n ≡ Some j → First good i n j
  unfolding first_bad
  is_first zero i j e = absurd (at_nothing (sym e))
  is_first (suc n) i j e = go (good i) refl e (is_first n (i + 1) j)
    where
      more : good i ≡ true → First good (i + 1) n j → First good i (suc n) j
      more g f =
          record {
            from = omega (arith, f.from);
            below = omega (arith, f.below);
            bad = f.bad;
            before = λ k l h. ⊎_elim (λ q. rw (← q) g) (λ lt. f.before k (omega arith) h) (eq-or-lt_of_le l);
          }

      go : (t : Bool) → good i ≡ t → cond t (first_bad good (i + 1) n) (Some i) ≡ Some j → (first_bad good (i + 1) n ≡ Some j → First good (i + 1) n j) → First good i (suc n) j
      go true g e later = more g (later e)
      go false g e later =
          let q = at_same e in
          record { from = omega arith; below = omega arith; bad = rw (← q) g; before = λ k l h. absurd (omega arith) }

  -- and the other way round
  pub nothing_bad : (n i : ℕ) → ((j : ℕ) → i ≤ j → j < i + n → good j ≡ true) → first_bad good i n ≡ None
  unfolding first_bad
  nothing_bad zero i all = refl
  nothing_bad (suc n) i all = rw (all i (omega arith) (omega arith)) (nothing_bad n (i + 1) (λ j l h. all j (omega arith) (omega arith)))

  pub first_is : (n i j : ℕ) → First good i n j → first_bad good i n ≡ Some j
  unfolding first_bad
  first_is zero i j f = absurd (omega (arith, f.from, f.below))
  first_is (suc n) i j f = ⊎_elim here (λ l. later l (first_is n (i + 1) j (rest l))) (eq-or-lt_of_le f.from)
    where
      rest : i < j → First good (i + 1) n j
      rest l = record { from = omega arith; below = omega (arith, f.below); bad = f.bad; before = λ k m h. f.before k (omega arith) h }

      here : i ≡ j → cond (good i) (first_bad good (i + 1) n) (Some i) ≡ Some j
      here q = rw (q, f.bad)

      later : i < j → first_bad good (i + 1) n ≡ Some j → cond (good i) (first_bad good (i + 1) n) (Some i) ≡ Some j
      later l e = rw (f.before i (omega arith) l) e

-- the library's search through a list is the same
pub position_search : (good : ℕ → Bool) (xs : List ℕ) → position (λ (x : ℕ). not (good x)) xs ≡ first_bad (λ (i : ℕ). good (get_or xs i 0)) 0 (length xs)
position_search good xs = go (first_bad test 0 (length xs)) refl
  where
    test : ℕ → Bool
    test i = good (get_or xs i 0)

    bad : ℕ → Bool
    bad x = not (good x)

    go : (o : Option ℕ) → first_bad test 0 (length xs) ≡ o → position bad xs ≡ o
    go (Some i) e =
        let f = is_first test (length xs) 0 i e in
        let below : i < length xs = omega (arith, f.below) in
        let at = position_or_len_is bad xs i 0 (omega arith) (λ k l. ap not (f.before k (omega arith) l)) (λ l. ap not f.bad) in
        rw (at, lt-ltb i (length xs) below) refl
    go None e =
        let all = all_good test (length xs) 0 e in
        let at = position_or_len_is bad xs (length xs) 0 (omega arith) (λ k l. ap not (all k (omega arith) (omega arith))) (λ l. absurd (omega arith)) in
        rw (at, le-ltb (length xs) (length xs) (omega arith)) refl
