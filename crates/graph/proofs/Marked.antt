-- Laws of the marks: they say which leaves are listed.
-- Assumes nothing.
use Prim.Native.Nat.{ℕ, ◌+◌, ◌≤◌, ◌<◌}
use native.Mathlib.Omega.{arith}
use native.Mathlib.Numerals.{add-one}
use mathlib.Core.Path.{◌≡◌, refl, sym, ap, ◌∙◌}
use mathlib.Core.Bool.{Bool, true, false, cond, not, ◌&&◌, ◌||◌, or-false, or-true, or_assoc}
use mathlib.Core.List.{List, [], ◌∷◌, ◌++◌, append_assoc}
use lib.ListN.{length, get_or, set, take, drop, replicate, length-replicate, get_or-append, get_or-replicate}
use lib.Seq.{drop_at, take-suc, drop-set-lt, get_or-set_same, get_or-set_other}
use lib.Dec.{ltb, eqb}
use borrow.Author.Tests.{ltb-true, eqb-true, eqb-false}
use Rattle.edge.proofs.Tests.{both}
use Rattle.rows.specs.Rows.{leaf_at}
use Rattle.graph.specs.Latches.{latch_at, latch_inputs}
use Rattle.graph.specs.Leaves.{member, free_leaf, Marks}
use Rattle.graph.specs.Steps.{unmarked_leaf}
use Rattle.graph.specs.Check.{cleared}

member_snoc : (x y : ℕ) (l : List ℕ) → member x (l ++ (y ∷ [])) ≡ member x l || eqb x y
unfolding member
member_snoc x y [] = or-false (eqb x y)
member_snoc x y (z ∷ l) = rw (member_snoc x y l, or_assoc (eqb x z) (member x l) (eqb x y))

pub take_more : (l : List ℕ) (i : ℕ) → i < length l → take (i + 1) l ≡ take i l ++ (get_or l i 0 ∷ [])
take_more l i h = rw (add-one, take-suc l i 0)

pub inputs_more : (inputs latches : List ℕ) (i : ℕ) → inputs ++ latch_inputs latches (i + 1) ≡ (inputs ++ latch_inputs latches i) ++ ((latch_at latches i).input ∷ [])
unfolding latch_inputs
inputs_more inputs latches i = rw (add-one, append_assoc inputs (latch_inputs latches i) ((latch_at latches i).input ∷ []))

-- cleared marks list no row
pub marks_none : (used : ℕ) (marks : List ℕ) → Marks used [] (cleared used marks)
unfolding member
marks_none used marks x l =
    let h : x < length (replicate {A = ℕ} used 0) = rw (length-replicate {A = ℕ} used 0) l in
    rw (get_or-append (replicate used 0) (drop used marks) 0 x h, get_or-replicate {A = ℕ} used x 0 0 l)

-- row x is claimed, or not
module _ (rows : List ℕ) (used x : ℕ) (old new : List ℕ) (r : Bool) (e : r ≡ unmarked_leaf rows used old x) (w : new ≡ cond r (set old x 1) old) where
  taken : r ≡ true → x < used
  unfolding unmarked_leaf
  taken t = ltb-true _ _ (both {a = ltb x used} {b = leaf_at rows x} (both {a = ltb x used && leaf_at rows x} {b = eqb (get_or old x 0) 0} (sym e ∙ t)).0).0

  pub claim_beyond : drop used new ≡ drop used old
  claim_beyond = rw w (go r taken)
    where
      go : (t : Bool) → (t ≡ true → x < used) → drop used (cond t (set old x 1) old) ≡ drop used old
      go true l = drop-set-lt used old x 1 (l refl)
      go false l = refl

  module _ (listed : List ℕ) (marks : Marks used listed old) where
    pub claim_free : r ≡ free_leaf rows used listed x
    unfolding unmarked_leaf free_leaf
    claim_free = e ∙ go (ltb x used) refl
      where
        go : (t : Bool) → ltb x used ≡ t → t && leaf_at rows x && eqb (get_or old x 0) 0 ≡ t && leaf_at rows x && not (member x listed)
        go true h = rw (marks x (ltb-true x used h))
        go false h = refl

    pub claim_marks : {listed' : List ℕ} → listed' ≡ listed ++ (x ∷ []) → used ≤ length old → r ≡ true → Marks used listed' new
    claim_marks q long t y l = rw (q, w, t, member_snoc y x listed) (go (eqb y x) refl)
      where
        go : (b : Bool) → eqb y x ≡ b → eqb (get_or (set old x 1) y 0) 0 ≡ not (member y listed || b)
        go true h = let q = eqb-true y x h in rw (q, get_or-set_same old x 1 0 (omega (arith, taken t)), or-true)
        go false h = rw (get_or-set_other old x y 1 0 (eqb-false y x h), or-false, marks y l)

-- clearing again, after only cleared marks were changed
pub cleared_again : (used : ℕ) (old new : List ℕ) → drop used new ≡ drop used (cleared used old) → cleared used new ≡ cleared used old
cleared_again used old new e =
    ap (λ (l : List ℕ). replicate used 0 ++ l) (e ∙ drop_at (replicate used 0) (drop used old) used (length-replicate {A = ℕ} used 0))
