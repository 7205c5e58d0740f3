-- Laws of the list of listed ids: each is free where it stands exactly if none is there twice.
-- Assumes nothing.
use Prim.Native.Nat.{ℕ, zero, suc, ◌+◌, ◌≤◌, ◌<◌}
use native.Mathlib.Omega.{arith}
use native.Mathlib.Nat.{eq-or-lt_of_le}
use mathlib.Core.Path.{◌≡◌, refl, sym, ap, ◌∙◌}
use mathlib.Core.Bool.{Bool, true, false, not, ◌&&◌}
use mathlib.Core.Logic.{⊎_elim}
use mathlib.Core.List.{List, [], ◌∷◌, ◌++◌}
use lib.ListN.{length, get_or, take, length-append, get_or-append}
use lib.Seq.{length-take-le, take_all, take-append-le, take-append-add, get_or-append-add, get_or_at, get_or-take, take-take}
use lib.Dec.{ltb, eqb}
use borrow.Author.Tests.{ltb-true, lt-ltb, eqb-true, eq-eqb, not-true}
use Rattle.edge.proofs.Tests.{both, either, or_right, false_true}
use Rattle.rows.specs.Rows.{leaf_at}
use Rattle.graph.specs.Latches.{latch_at, latch_inputs}
use Rattle.graph.specs.Leaves.{member, free_leaf}

-- ---- members by their place
-- x stands at a place of l
pub record Stands (x : ℕ) (l : List ℕ) : Type 0 where
  pub at : ℕ
  pub within : at < length l
  pub same : get_or l at 0 ≡ x

pub stands : (x : ℕ) (l : List ℕ) → member x l ≡ true → Stands x l
unfolding member
stands x [] h = absurd (false_true h)
stands x (y ∷ l) h = ⊎_elim (λ e. here (eqb-true x y e)) (λ m. there (stands x l m)) (either {a = eqb x y} h)
  where
    here : x ≡ y → Stands x (y ∷ l)
    here e = record { at = 0; within = omega arith; same = sym e }

    there : Stands x l → Stands x (y ∷ l)
    there s = record { at = suc s.at; within = omega (arith, s.within); same = s.same }

pub is_member : (l : List ℕ) (k : ℕ) → k < length l → member (get_or l k 0) l ≡ true
unfolding member
is_member [] k h = absurd (omega arith)
is_member (y ∷ l) zero h = rw (eq-eqb y y refl)
is_member (y ∷ l) (suc k) h = or_right (eqb (get_or l k 0) y) (is_member l k (omega arith))

-- what stands at j is not among those before it exactly if it differs from each of them
module _ (l : List ℕ) (j : ℕ) where
  pub new_differs : member (get_or l j 0) (take j l) ≡ false → j ≤ length l → (i : ℕ) → i < j → get_or l i 0 ≡ get_or l j 0 → ⊥
  new_differs new h i lt e =
      let k : i < length (take j l) = rw (length-take-le j l h) lt in
      let m = is_member (take j l) i k in
      let q : get_or (take j l) i 0 ≡ get_or l j 0 = get_or-take j l i 0 lt ∙ e in
      false_true (sym new ∙ (rw q at m))

  pub differs_new : j ≤ length l → ((i : ℕ) → i < j → get_or l i 0 ≡ get_or l j 0 → ⊥) → member (get_or l j 0) (take j l) ≡ false
  differs_new h all = go (member (get_or l j 0) (take j l)) refl
    where
      hit : Stands (get_or l j 0) (take j l) → ⊥
      hit s =
          let lt : s.at < j = omega (arith, s.within, length-take-le j l h) in
          all s.at lt (sym (get_or-take j l s.at 0 lt) ∙ s.same)

      go : (b : Bool) → member (get_or l j 0) (take j l) ≡ b → b ≡ false
      go true e = absurd (hit (stands (get_or l j 0) (take j l) e))
      go false e = refl

-- ---- the latches' inputs
module _ (latches : List ℕ) where
  pub inputs_long : (m : ℕ) → length (latch_inputs latches m) ≡ m
  unfolding latch_inputs
  inputs_long zero = refl
  inputs_long (suc m) = simp (length-append, inputs_long m) (omega arith)

  inputs_at : (m i : ℕ) → i < m → get_or (latch_inputs latches m) i 0 ≡ (latch_at latches i).input
  unfolding latch_inputs
  inputs_at zero i l = absurd (omega arith)
  inputs_at (suc m) i l =
      ⊎_elim
      (λ (e : suc i ≡ suc m). let q : i ≡ m = omega arith in rw q (get_or_at (latch_inputs latches m) (latch_at latches m).input [] 0 m (inputs_long m)))
      (λ (lt : suc i < suc m). get_or-append (latch_inputs latches m) ((latch_at latches m).input ∷ []) 0 i (rw (inputs_long m) (omega arith)) ∙ inputs_at m i (omega arith))
      (eq-or-lt_of_le l)

  inputs_take : (m i : ℕ) → i ≤ m → take i (latch_inputs latches m) ≡ latch_inputs latches i
  unfolding latch_inputs
  inputs_take zero i l = let e : i ≡ 0 = omega arith in rw e
  inputs_take (suc m) i l =
      ⊎_elim
      (λ (e : i ≡ suc m). rw e (take_all (suc m) (latch_inputs latches m ++ ((latch_at latches m).input ∷ [])) (simp (length-append, inputs_long m) (omega arith))))
      (λ (lt : i < suc m). take-append-le i (latch_inputs latches m) ((latch_at latches m).input ∷ []) (rw (inputs_long m) (omega arith)) ∙ inputs_take m i (omega arith))
      (eq-or-lt_of_le l)

-- ---- the listed ids: n inputs, then m latch inputs
module _ (inputs : List ℕ) (n : ℕ) (latches : List ℕ) (m : ℕ) (h : n ≤ length inputs) where
  abbrev all : List ℕ
  all = take n inputs ++ latch_inputs latches m

  pub all_long : length all ≡ n + m
  all_long = simp (length-append, length-take-le n inputs h, inputs_long latches m)

  pub input_at : (i : ℕ) → i < n → get_or all i 0 ≡ get_or inputs i 0
  input_at i l = get_or-append (take n inputs) (latch_inputs latches m) 0 i (rw (length-take-le n inputs h) l) ∙ get_or-take n inputs i 0 l

  pub input_before : (i : ℕ) → i < n → take i all ≡ take i inputs
  input_before i l = take-append-le i (take n inputs) (latch_inputs latches m) (rw (length-take-le n inputs h) (omega arith)) ∙ take-take i n inputs (omega arith)

  pub latch_at_lem : (i : ℕ) → i < m → get_or all (n + i) 0 ≡ (latch_at latches i).input
  latch_at_lem i l =
      ap (λ (k : ℕ). get_or all (k + i) 0) (sym (length-take-le n inputs h))
      ∙ (get_or-append-add (take n inputs) (latch_inputs latches m) i 0 ∙ inputs_at latches m i l)

  pub latch_before : (i : ℕ) → i ≤ m → take (n + i) all ≡ take n inputs ++ latch_inputs latches i
  latch_before i l =
      ap (λ (k : ℕ). take (k + i) all) (sym (length-take-le n inputs h))
      ∙ (take-append-add (take n inputs) (latch_inputs latches m) i ∙ ap (λ (t : List ℕ). take n inputs ++ t) (inputs_take latches m i l))

-- ---- a free leaf is a used leaf that is not among those before it
pub record Free (rows : List ℕ) (used : ℕ) (before : List ℕ) (x : ℕ) : Type 0 where
  pub used_row_lem : x < used
  pub leaf : leaf_at rows x ≡ true
  pub new : member x before ≡ false

pub free : (rows : List ℕ) (used : ℕ) (before : List ℕ) (x : ℕ) → free_leaf rows used before x ≡ true → Free rows used before x
unfolding free_leaf
free rows used before x h =
    let t = both {a = ltb x used && leaf_at rows x} {b = not (member x before)} h in
    let u = both {a = ltb x used} {b = leaf_at rows x} t.0 in
    record { used_row_lem = ltb-true x used u.0; leaf = u.1; new = not-true (member x before) t.1 }

pub is_free : (rows : List ℕ) (used : ℕ) (before : List ℕ) (x : ℕ) → x < used → leaf_at rows x ≡ true → member x before ≡ false → free_leaf rows used before x ≡ true
unfolding free_leaf
is_free rows used before x l leaf new = rw (lt-ltb x used l, leaf, new)
