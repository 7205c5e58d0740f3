-- Laws of rows and gates, as they are added.
-- Assumes nothing.
use Prim.Native.Nat.{ℕ, zero, suc, ◌+◌, ◌-◌, ◌*◌, ◌≤◌, ◌<◌}
use native.Mathlib.Omega.{arith}
use native.Mathlib.Numerals.{add-one}
use native.Mathlib.Nat.{le_of_eq}
use mathlib.Core.Path.{◌≡◌, refl, sym, ap, ◌∙◌}
use mathlib.Core.Bool.{Bool, true, false, cond}
use mathlib.Core.List.{List, [], ◌∷◌, ◌++◌, append-nil}
use lib.ListN.{length, set, take, drop, length-drop, length-set, drop_of_length-le}
use lib.Seq.{take_all}
use lib.Dec.{leb, eqb}
use borrow.Rule.Slice.PartMut.{put_mid, mid_of}
use borrow.Author.Tests.{le-leb, lt-leb, eq-eqb, ne_eqb}
use Rattle.edge.specs.Edges.{id_of, complement}
use Rattle.edge.proofs.Meaning.{complement_parts}
use Rattle.std.specs.Prelude.{Option, Some, None}
use Rattle.gates.specs.Gates.{State, state, row_added, first, second, add_gate, folded, or_gate, add_and, add_step, step, steps}

-- ---- the row writer, over the part of the rows that is free
two_set : (n a b : ℕ) (xs : List ℕ) → take n xs ++ set (set (drop n xs) 0 a) 1 b ≡ set (set xs n a) (suc n) b
two_set zero a b xs = refl
two_set (suc n) a b [] = refl
two_set (suc n) a b (x ∷ xs) = ap (λ (l : List ℕ). x ∷ l) (two_set n a b xs)

tail_lent : (n : ℕ) (xs : List ℕ) → mid_of n (length xs - n) xs ≡ drop n xs
tail_lent n xs = take_all (length xs - n) (drop n xs) (le_of_eq (length-drop n xs))

tail_back : (n : ℕ) (xs ys : List ℕ) → put_mid n (length xs - n) xs ys ≡ take n xs ++ ys
tail_back n xs ys =
    ap (λ (z : List ℕ). take n xs ++ (ys ++ z)) (drop_of_length-le (drop n xs) (le_of_eq (length-drop n xs)))
    ∙ ap (λ (z : List ℕ). take n xs ++ z) (append-nil ys)

module _ (rows : List ℕ) (used a b : ℕ) where
  pub row_full : length rows < 2 * used + 2 → rows ≡ row_added rows used a b
  unfolding row_added
  row_full l = rw (lt-leb (2 * used + 2) (length rows) l)

  module _ (l : 2 * used + 2 ≤ length rows) where
    pub row_there : row_added rows used a b ≡ set (set rows (2 * used) a) (2 * used + 1) b
    unfolding row_added
    row_there = rw (le-leb (2 * used + 2) (length rows) l)

    pub row_written : (free : List ℕ) → free ≡ set (set (mid_of (2 * used) (length rows - 2 * used) rows) 0 a) 1 b
        → put_mid (2 * used) (length rows - 2 * used) rows free ≡ row_added rows used a b
    row_written free e =
        let n = 2 * used in
        tail_back n rows free ∙ ap (λ (z : List ℕ). take n rows ++ z) (e ∙ ap (λ (z : List ℕ). set (set z 0 a) 1 b) (tail_lent n rows))
        ∙ (rw add-one (two_set n a b rows) ∙ sym row_there)

  -- no row changes how many words there are
  pub row_long : length (row_added rows used a b) ≡ length rows
  unfolding row_added
  row_long = go (leb (2 * used + 2) (length rows))
    where
      go : (t : Bool) → length (cond t (set (set rows (2 * used) a) (2 * used + 1) b) rows) ≡ length rows
      go true = length-set (set rows (2 * used) a) (2 * used + 1) b ∙ length-set rows (2 * used) a
      go false = refl

pub gate_added_lem : (rows : List ℕ) (used a b : ℕ) {o : ℕ × ℕ} (now : List ℕ) → o ≡ (first a b, second a b) → now ≡ row_added rows used o.0 o.1
    → state now (used + 1) (2 * used) ≡ add_gate rows used a b
unfolding add_gate
gate_added_lem rows used a b now p e = rw (e, p)

-- ---- folding, of edges in order
pub fold_true : (a b : ℕ) → a ≡ 1 → Some b ≡ folded a b
unfolding folded
fold_true a b e = rw (eq-eqb a 1 e)

pub fold_false : (a b : ℕ) → a < 2 → (a ≡ 1 → ⊥) → Some 0 ≡ folded a b
unfolding folded
fold_false a b l h = let e : a ≡ 0 = omega arith in rw (ne_eqb a 1 h, eq-eqb a 0 e)

module _ (a b : ℕ) (s : id_of a ≤ id_of b) (l : 2 ≤ a) where
  no_constants : (f : Option ℕ) → f ≡ cond (eqb a b) (Some a) (cond (eqb a (complement b)) (Some 0) None) → f ≡ folded a b
  unfolding folded
  no_constants f e =
      let h : a ≡ 1 → ⊥ = λ (z : a ≡ 1). omega arith in
      let i : a ≡ 0 → ⊥ = λ (z : a ≡ 0). omega arith in
      let j : b ≡ 1 → ⊥ = λ (z : b ≡ 1). omega arith in
      let k : b ≡ 0 → ⊥ = λ (z : b ≡ 0). omega arith in
      rw (ne_eqb a 1 h, ne_eqb a 0 i, ne_eqb b 1 j, ne_eqb b 0 k) e

  pub fold_same : a ≡ b → Some a ≡ folded a b
  fold_same e = no_constants (Some a) (rw (eq-eqb a b e))

  pub fold_opposite : id_of a ≡ id_of b → (a ≡ b → ⊥) → Some 0 ≡ folded a b
  fold_opposite e h =
      let parts = complement_parts b in
      let q : a ≡ complement b = omega arith in
      no_constants (Some 0) (rw (ne_eqb a b h, eq-eqb a (complement b) q))

  pub fold_gate : (id_of a ≡ id_of b → ⊥) → None ≡ folded a b
  fold_gate h =
      let parts = complement_parts b in
      let m : a ≡ b → ⊥ = λ (z : a ≡ b). omega arith in
      let q : a ≡ complement b → ⊥ = λ (z : a ≡ complement b). omega arith in
      no_constants None (rw (ne_eqb a b m, ne_eqb a (complement b) q))

module _ (rows : List ℕ) (used a b : ℕ) {o : ℕ × ℕ} {f : Option ℕ} (p : o ≡ (first a b, second a b)) (q : f ≡ folded o.0 o.1) where
  fold : folded (first a b) (second a b) ≡ f
  fold = let r = sym q in rw p at r

  pub and_to : {e : ℕ} → f ≡ Some e → state rows used e ≡ add_and rows used a b
  unfolding add_and
  and_to t = rw (fold, t)

  pub and_gate : f ≡ None → add_gate rows used a b ≡ add_and rows used a b
  unfolding add_and
  and_gate t = rw (fold, t)

-- ---- one step: it takes at most one row, changes no length, and what it takes and builds hangs on the edges alone
pub record Like (x y : State) : Type 0 where
  pub used : x.used ≡ y.used
  pub edge : x.edge ≡ y.edge

pub record Sized (rows : List ℕ) (used n : ℕ) (s : State) : Type 0 where
  pub more : used ≤ s.used
  pub most : s.used ≤ used + n
  pub long : length s.rows ≡ length rows

gate_sized : (rows : List ℕ) (used a b : ℕ) → Sized rows used 1 (add_gate rows used a b)
unfolding add_gate
gate_sized rows used a b = record { more = omega arith; most = omega arith; long = row_long rows used (first a b) (second a b) }

pub and_sized : (rows : List ℕ) (used a b : ℕ) → Sized rows used 1 (add_and rows used a b)
unfolding add_and
and_sized rows used a b = go (folded (first a b) (second a b))
  where
    go : (f : Option ℕ) → Sized rows used 1 (or_gate f rows used (add_gate rows used a b))
    go (Some e) = record { more = omega arith; most = omega arith; long = refl }
    go None = gate_sized rows used a b

pub step_sized : (trivial : Bool) (rows : List ℕ) (used a b : ℕ) → Sized rows used 1 (add_step trivial rows used a b)
unfolding add_step
step_sized true rows used a b = gate_sized rows used a b
step_sized false rows used a b = and_sized rows used a b

gate_like : (x y : List ℕ) (used a b : ℕ) → Like (add_gate x used a b) (add_gate y used a b)
unfolding add_gate
gate_like x y used a b = record { used = refl; edge = refl }

pub and_like : (x y : List ℕ) (used a b : ℕ) → Like (add_and x used a b) (add_and y used a b)
unfolding add_and
and_like x y used a b = go (folded (first a b) (second a b))
  where
    go : (f : Option ℕ) → Like (or_gate f x used (add_gate x used a b)) (or_gate f y used (add_gate y used a b))
    go (Some e) = record { used = refl; edge = refl }
    go None = gate_like x y used a b

step_like : (trivial : Bool) (x y : List ℕ) (used a b : ℕ) → Like (add_step trivial x used a b) (add_step trivial y used a b)
unfolding add_step
step_like true = gate_like
step_like false = and_like

-- from states that are alike
pub next_like : (trivial : Bool) (s t : State) (e : ℕ) → Like s t → Like (step trivial s e) (step trivial t e)
next_like trivial s t e l = rw (l.used, l.edge) (step_like trivial s.rows t.rows t.used t.edge e)

-- ---- one step after the other
pub steps_sized : (trivial : Bool) (es : List ℕ) (s : State) → Sized s.rows s.used (length es) (steps trivial s es)
unfolding steps
steps_sized trivial [] s = record { more = omega arith; most = omega arith; long = refl }
steps_sized trivial (e ∷ es) s =
    let f = step_sized trivial s.rows s.used s.edge e in
    let g = steps_sized trivial es (step trivial s e) in
    record { more = omega (arith, f.more, g.more); most = omega (arith, f.most, g.most); long = g.long ∙ f.long }

pub steps_like : (trivial : Bool) (es : List ℕ) (s t : State) → Like s t → Like (steps trivial s es) (steps trivial t es)
unfolding steps
steps_like trivial [] s t l = l
steps_like trivial (e ∷ es) s t l = steps_like trivial es (step trivial s e) (step trivial t e) (next_like trivial s t e l)
