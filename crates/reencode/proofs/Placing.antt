-- Laws of the numbers of listed leaves, and of the marks that hold them.
-- Assumes nothing.
use Prim.Native.Nat.{ℕ, zero, suc, ◌+◌, ◌≤◌, ◌<◌}
use native.Mathlib.Omega.{arith}
use native.Mathlib.Nat.{eq-or-lt_of_le}
use native.Mathlib.Numerals.{add-one}
use mathlib.Core.Path.{◌≡◌, refl, sym, ap, ◌∙◌}
use mathlib.Core.Bool.{Bool, true, false, cond, ◌||◌}
use mathlib.Core.Logic.{⊎_elim}
use mathlib.Core.List.{List, [], ◌∷◌}
use lib.ListN.{length, get_or, set, drop, length-set}
use lib.Seq.{drop-set-lt, get_or-set_same, get_or-set_other}
use lib.Dec.{eqb}
use borrow.Author.Tests.{eq-eqb, ne_eqb}
use Rattle.edge.proofs.Tests.{false_true}
use Rattle.graph.specs.Leaves.{member}
use Rattle.graph.proofs.Listed.{Stands, stands, is_member}
use Rattle.renumber.specs.Steps.{MarksHold}
use Rattle.reencode.specs.Numbers.{place_from, place_in}
use Rattle.reencode.specs.Steps.{placed}

-- ---- marks
pub placed_length : (marks : List ℕ) (id : ℕ → ℕ) (k n : ℕ) → length (placed marks id k n) ≡ length marks
unfolding placed
placed_length marks id k zero = refl
placed_length marks id k (suc n) = length-set (placed marks id k n) (id n) (k + n) ∙ placed_length marks id k n

-- a turn of the loop
pub placed_turn : (marks : List ℕ) (id : ℕ → ℕ) (k j : ℕ) {now : List ℕ} {x v : ℕ} → now ≡ placed marks id k j → x ≡ id j → v ≡ k + j → set now x v ≡ placed marks id k (j + 1)
unfolding placed
placed_turn marks id k j e p w = let s : j + 1 ≡ suc j = add-one j in rw (e, p, w) (ap (λ (i : ℕ). placed marks id k i) (sym s))

-- rows that agree
pub placed_same : (marks : List ℕ) (f g : ℕ → ℕ) (k n : ℕ) → ((j : ℕ) → j < n → f j ≡ g j) → placed marks f k n ≡ placed marks g k n
unfolding placed
placed_same marks f g k zero h = refl
placed_same marks f g k (suc n) h = rw (placed_same marks f g k n (λ j l. h j (omega arith)), h n (omega arith))

-- n rows, then m more
pub placed_split : (marks : List ℕ) (id : ℕ → ℕ) (k n m : ℕ) → placed (placed marks id k n) (λ (j : ℕ). id (n + j)) (k + n) m ≡ placed marks id k (n + m)
unfolding placed
placed_split marks id k n zero = let e : n + 0 ≡ n = omega arith in rw e
placed_split marks id k n (suc m) = let e : k + n + m ≡ k + (n + m) = omega arith in let s : n + suc m ≡ suc (n + m) = omega arith in rw (placed_split marks id k n m, e, s)

-- marks of other rows stay
pub placed_other : (marks : List ℕ) (id : ℕ → ℕ) (k n x : ℕ) → ((j : ℕ) → j < n → x ≡ id j → ⊥) → get_or (placed marks id k n) x 0 ≡ get_or marks x 0
unfolding placed
placed_other marks id k zero x h = refl
placed_other marks id k (suc n) x h =
    get_or-set_other (placed marks id k n) (id n) x (k + n) 0 (h n (omega arith)) ∙ placed_other marks id k n x (λ j l. h j (omega arith))

-- the mark of row id j, where no row is placed twice
pub placed_at : (marks : List ℕ) (id : ℕ → ℕ) (k n j : ℕ) → j < n → id j < length marks → ((i : ℕ) → j < i → i < n → id j ≡ id i → ⊥) → get_or (placed marks id k n) (id j) 0 ≡ k + j
unfolding placed
placed_at marks id k zero j l u d = absurd (omega arith)
placed_at marks id k (suc n) j l u d =
    ⊎_elim
    (λ (e : suc j ≡ suc n). let q : j ≡ n = omega arith in rw (← q) (get_or-set_same (placed marks id k j) (id j) (k + j) 0 (omega (arith, placed_length marks id k j))))
    (λ (h : suc j < suc n). get_or-set_other (placed marks id k n) (id n) (id j) (k + n) 0 (d n (omega arith) (omega arith)) ∙ placed_at marks id k n j (omega arith) u (λ i a b. d i a (omega arith)))
    (eq-or-lt_of_le l)

pub placed_beyond : (used : ℕ) (marks : List ℕ) (id : ℕ → ℕ) (k n : ℕ) → ((j : ℕ) → j < n → id j < used) → drop used (placed marks id k n) ≡ drop used marks
unfolding placed
placed_beyond used marks id k zero h = refl
placed_beyond used marks id k (suc n) h = drop-set-lt used (placed marks id k n) (id n) (k + n) (h n (omega arith)) ∙ placed_beyond used marks id k n (λ j l. h j (omega arith))

-- ---- places
pub place_none : (k : ℕ) (l : List ℕ) (x : ℕ) → member x l ≡ false → place_from k l x ≡ 0
unfolding place_from member
place_none k [] x h = refl
place_none k (y ∷ ys) x h = go (eqb x y) h (place_none (k + 1) ys x)
  where
    go : (t : Bool) → t || member x ys ≡ false → (member x ys ≡ false → place_from (k + 1) ys x ≡ 0) → cond t k (place_from (k + 1) ys x) ≡ 0
    go true h r = absurd (false_true (sym h))
    go false h r = r h

-- the place of entry j, where no entry stands twice
pub place_at : (k : ℕ) (l : List ℕ) (j : ℕ) → j < length l → ((i : ℕ) → i < j → get_or l i 0 ≡ get_or l j 0 → ⊥) → place_from k l (get_or l j 0) ≡ k + j
unfolding place_from
place_at k [] j u d = absurd (omega arith)
place_at k (y ∷ l) zero u d = rw (eq-eqb y y refl) (omega arith)
place_at k (y ∷ l) (suc j) u d =
    rw (ne_eqb (get_or l j 0) y (λ (e : get_or l j 0 ≡ y). d 0 (omega arith) (sym e))) (place_at (k + 1) l j (omega arith) (λ i h. d (suc i) (omega arith)) ∙ omega arith)

pub place_bound : (k : ℕ) (l : List ℕ) (x : ℕ) → place_from k l x ≤ k + length l
unfolding place_from
place_bound k [] x = omega arith
place_bound k (y ∷ ys) x = go (eqb x y) (place_bound (k + 1) ys x)
  where
    go : (t : Bool) → place_from (k + 1) ys x ≤ k + 1 + length ys → cond t k (place_from (k + 1) ys x) ≤ k + suc (length ys)
    go true h = omega arith
    go false h = omega arith

-- ---- the marks hold the places
module _ (used : ℕ) (marks list : List ℕ) (long : used ≤ length marks) (zeros : MarksHold used (λ (_ : ℕ). 0) marks) (within : (j : ℕ) → j < length list → get_or list j 0 < used)
    (once : (i j : ℕ) → i < j → j < length list → get_or list i 0 ≡ get_or list j 0 → ⊥) where
  pub places_hold : MarksHold used (place_in list) (placed marks (λ (j : ℕ). get_or list j 0) 1 (length list))
  places_hold x l = go (member x list) refl
    where
      at : Stands x list → get_or (placed marks (λ (j : ℕ). get_or list j 0) 1 (length list)) x 0 ≡ place_in list x
      at s =
          let j = s.at in
          let p = placed_at marks (λ (j : ℕ). get_or list j 0) 1 (length list) j s.within (omega (arith, within j s.within)) (λ i a b. once j i a b) in
          let q = place_at 1 list j s.within (λ i a. once i j a s.within) in
          rw (← s.same) (p ∙ sym q)

      go : (t : Bool) → member x list ≡ t → get_or (placed marks (λ (j : ℕ). get_or list j 0) 1 (length list)) x 0 ≡ place_in list x
      go true e = at (stands x list e)
      go false e =
          placed_other marks (λ (j : ℕ). get_or list j 0) 1 (length list) x (λ j h q. false_true (sym e ∙ (ap (λ (y : ℕ). member y list) q ∙ is_member list j h)))
          ∙ (zeros x l ∙ sym (place_none 1 list x e))
