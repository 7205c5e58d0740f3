-- Laws of counting.
-- Assumes nothing.
use Prim.Native.Nat.{ℕ, zero, suc, ◌+◌, ◌≤◌, ◌<◌}
use native.Mathlib.Omega.{arith}
use native.Mathlib.Nat.{eq-or-lt_of_le}
use native.Mathlib.Numerals.{add-one}
use mathlib.Core.Path.{◌≡◌, refl, sym, ap, ◌∙◌}
use mathlib.Core.Bool.{Bool, true, false, cond, ◌&&◌, ◌||◌}
use mathlib.Core.Logic.{⊎_elim}
use mathlib.Core.List.{List, [], ◌∷◌}
use lib.ListN.{length, get_or}
use lib.Dec.{eqb}
use borrow.Author.Tests.{eqb-true, eq-eqb, ne_eqb}
use Rattle.edge.proofs.Tests.{false_true, lt_or_le}
use Rattle.graph.specs.Leaves.{member}
use Rattle.graph.specs.Count.{count_below}

-- ---- a turn of a loop that counts
pub count_more : (p : ℕ → Bool) (i : ℕ) → count_below p (i + 1) ≡ cond (p i) (count_below p i + 1) (count_below p i)
unfolding count_below
count_more p i = let e : i + 1 ≡ suc i = add-one i in ap (count_below p) e

module _ (p : ℕ → Bool) where
  pub count_within : (n : ℕ) → count_below p n ≤ n
  unfolding count_below
  count_within zero = omega arith
  count_within (suc n) = go (p n) (count_within n)
    where
      go : (t : Bool) → count_below p n ≤ n → cond t (count_below p n + 1) (count_below p n) ≤ suc n
      go true h = omega arith
      go false h = omega arith

module _ (p : ℕ → Bool) (i : ℕ) {k : ℕ} (e : k ≡ count_below p i) where
  pub count_taken : {k' : ℕ} → p i ≡ true → k' ≡ k + 1 → k' ≡ count_below p (i + 1)
  count_taken t q = q ∙ rw (count_more p i, t, e)

  pub count_left : {k' : ℕ} → p i ≡ false → k' ≡ k → k' ≡ count_below p (i + 1)
  count_left t q = q ∙ rw (count_more p i, t, e)

  pub count_small : k ≤ i
  count_small = omega (arith, count_within p i)

module _ (p : ℕ → Bool) where
  pub count_rises : (n i : ℕ) → i ≤ n → count_below p i ≤ count_below p n
  unfolding count_below
  count_rises zero i l = let e : i ≡ 0 = omega arith in rw e (omega arith)
  count_rises (suc n) i l =
      ⊎_elim
      (λ (e : i ≡ suc n). rw e (omega arith))
      (λ (h : i < suc n). go (p n) (count_rises n i (omega arith)))
      (eq-or-lt_of_le l)
    where
      go : (t : Bool) → count_below p i ≤ count_below p n → count_below p i ≤ cond t (count_below p n + 1) (count_below p n)
      go true h = omega arith
      go false h = omega arith

  -- such a number is counted
  pub count_past : (n i : ℕ) → i < n → p i ≡ true → count_below p i < count_below p n
  unfolding count_below
  count_past n i l e =
      let m : count_below p (i + 1) ≡ count_below p i + 1 = count_more p i ∙ rw e in
      omega (arith, count_rises n (i + 1) (omega arith))

  -- each number is counted once
  pub count_apart : (i j : ℕ) → p i ≡ true → p j ≡ true → count_below p i ≡ count_below p j → i ≡ j
  count_apart i j a b e =
      ⊎_elim (λ (l : i < j). absurd (omega (arith, count_past j i l a)))
      (λ (h : j ≤ i). ⊎_elim (λ (q : j ≡ i). sym q) (λ (l : j < i). absurd (omega (arith, count_past i j l b))) (eq-or-lt_of_le h)) (lt_or_le i j)

  -- none is counted exactly if none is such
  pub none_counted : (n : ℕ) → count_below p n ≡ 0 → (i : ℕ) → i < n → p i ≡ false
  none_counted n z i l = go (p i) refl
    where
      go : (t : Bool) → p i ≡ t → t ≡ false
      go true e = absurd (omega (arith, count_past n i l e))
      go false e = refl

  pub count_none : (n : ℕ) → ((i : ℕ) → i < n → p i ≡ false) → count_below p n ≡ 0
  unfolding count_below
  count_none zero h = refl
  count_none (suc n) h = rw (h n (omega arith)) (count_none n (λ i l. h i (omega arith)))

-- none below f is such, and all from f on are
pub count_from : (p : ℕ → Bool) (f n : ℕ) → f ≤ n → ((i : ℕ) → i < f → p i ≡ false) → ((i : ℕ) → f ≤ i → i < n → p i ≡ true) → f + count_below p n ≡ n
unfolding count_below
count_from p f zero l low high = omega arith
count_from p f (suc n) l low high =
    ⊎_elim
    (λ (e : f ≡ suc n). let z = count_none p (suc n) (λ i h. low i (omega arith)) in omega (arith, e, z))
    (λ (h : f < suc n). let c : f + count_below p n ≡ n = count_from p f n (omega arith) low (λ i a b. high i a (omega arith)) in rw (high n (omega arith) (omega arith)) (omega arith))
    (eq-or-lt_of_le l)

-- the number that k such numbers stand before
pub record Counted (p : ℕ → Bool) (n k : ℕ) : Type 0 where
  pub at : ℕ
  pub within : at < n
  pub such : p at ≡ true
  pub count : count_below p at ≡ k

pub counted : (p : ℕ → Bool) (n k : ℕ) → k < count_below p n → Counted p n k
unfolding count_below
counted p zero k l = absurd (omega arith)
counted p (suc n) k l = go (p n) refl l (counted p n k)
  where
    more : Counted p n k → Counted p (suc n) k
    more c = record { at = c.at; within = omega (arith, c.within); such = c.such; count = c.count }

    go : (t : Bool) → p n ≡ t → k < cond t (count_below p n + 1) (count_below p n) → (k < count_below p n → Counted p n k) → Counted p (suc n) k
    go true e l before =
        ⊎_elim
        (λ (q : suc k ≡ count_below p n + 1). record { at = n; within = omega arith; such = e; count = omega arith })
        (λ (h : suc k < count_below p n + 1). more (before (omega arith)))
        (eq-or-lt_of_le l)
    go false e l before = more (before l)

-- ---- two kinds
pub count_same : (p q : ℕ → Bool) (n : ℕ) → ((i : ℕ) → i < n → p i ≡ q i) → count_below p n ≡ count_below q n
unfolding count_below
count_same p q zero h = refl
count_same p q (suc n) h = rw (h n (omega arith), count_same p q n (λ i l. h i (omega arith)))

-- a kind that is either of two, and never both
pub count_either : (p q r : ℕ → Bool) (n : ℕ) → ((i : ℕ) → i < n → r i ≡ p i || q i) → ((i : ℕ) → i < n → p i && q i ≡ false) → count_below r n ≡ count_below p n + count_below q n
unfolding count_below
count_either p q r zero h d = refl
count_either p q r (suc n) h d = rw (h n (omega arith)) (go (p n) (q n) (d n (omega arith)) (count_either p q r n (λ i l. h i (omega arith)) (λ i l. d i (omega arith))))
  where
    go : (a b : Bool) → a && b ≡ false → count_below r n ≡ count_below p n + count_below q n
        → cond (a || b) (count_below r n + 1) (count_below r n) ≡ cond a (count_below p n + 1) (count_below p n) + cond b (count_below q n + 1) (count_below q n)
    go true true e h = absurd (false_true (sym e))
    go true false e h = omega arith
    go false true e h = omega arith
    go false false e h = omega arith

-- ---- the members of a list without repeats
count_one : (n y : ℕ) → y < n → count_below (λ (x : ℕ). eqb x y) n ≡ 1
unfolding count_below
count_one zero y l = absurd (omega arith)
count_one (suc n) y l =
    ⊎_elim
    (λ (e : suc y ≡ suc n). let q : n ≡ y = omega arith in rw (eq-eqb n y q, count_none (λ (x : ℕ). eqb x y) n (λ i h. ne_eqb i y (λ (z : i ≡ y). absurd (omega arith)))))
    (λ (h : suc y < suc n). rw (ne_eqb n y (λ (z : n ≡ y). absurd (omega arith)), count_one n y (omega arith)))
    (eq-or-lt_of_le l)

not_in : (x : ℕ) (l : List ℕ) → ((k : ℕ) → k < length l → get_or l k 0 ≡ x → ⊥) → member x l ≡ false
unfolding member
not_in x [] h = refl
not_in x (y ∷ l) h = rw (ne_eqb x y (λ (e : x ≡ y). h 0 (omega arith) (sym e))) (not_in x l (λ k m. h (suc k) (omega arith)))

pub count_members : (n : ℕ) (l : List ℕ) → ((k : ℕ) → k < length l → get_or l k 0 < n) → ((i j : ℕ) → i < j → j < length l → get_or l i 0 ≡ get_or l j 0 → ⊥)
    → count_below (λ (x : ℕ). member x l) n ≡ length l
unfolding member
count_members n [] h d = count_none (λ (x : ℕ). false) n (λ i l. refl)
count_members n (y ∷ l) h d =
    count_either (λ (x : ℕ). eqb x y) (λ (x : ℕ). member x l) (λ (x : ℕ). eqb x y || member x l) n (λ i k. refl) (λ i k. apart i (eqb i y) refl)
    ∙ rw (count_one n y (h 0 (omega arith)), count_members n l (λ k m. h (suc k) (omega arith)) (λ i j a b. d (suc i) (suc j) (omega arith) (omega arith))) (omega arith)
  where
    apart : (i : ℕ) (t : Bool) → eqb i y ≡ t → t && member i l ≡ false
    apart i true e = let q = eqb-true i y e in rw q (not_in y l (λ k m z. d 0 (suc k) (omega arith) (omega arith) (sym z)))
    apart i false e = refl
