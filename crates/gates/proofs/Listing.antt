-- Laws of lists of edges.
-- Assumes nothing.
use Prim.Native.Nat.{ℕ, ◌+◌, ◌≤◌, ◌<◌}
use native.Mathlib.Omega.{arith}
use native.Mathlib.Numerals.{add-one}
use mathlib.Core.Path.{◌≡◌, refl, ap, ◌∙◌}
use mathlib.Core.Bool.{Bool, true, false}
use mathlib.Core.List.{List, [], ◌∷◌}
use lib.ListN.{length, get_or, drop, length-map, drop_of_length-le}
use lib.Seq.{drop-cons}
use Rattle.edge.specs.Edges.{complement, complement_if}
use Rattle.gates.specs.Gates.{State, state, add_and, add_step, step, steps}
use Rattle.gates.specs.Lists.{all_of, signed, turned, list_of, eq_of}
use Rattle.gates.proofs.Building.{Like, Sized, and_sized, and_like, step_sized, steps_sized, steps_like}

-- ---- the loop over a list behind its first edge
module _ (trivial or : Bool) (rows : List ℕ) (used : ℕ) (es : List ℕ) where
  abbrev whole : State
  whole = all_of trivial rows used (signed or es)

  pub none_built : {e : ℕ} → length es ≡ 0 → e ≡ complement_if or 1 → state rows used e ≡ list_of trivial or rows used es
  unfolding list_of all_of
  none_built z p = rw p (go es z)
    where
      go : (xs : List ℕ) → length xs ≡ 0 → state rows used (complement_if or 1) ≡ turned or (all_of trivial rows used (signed or xs))
      go [] z = refl
      go (x ∷ xs) z = absurd (omega arith)

  pub first_built : {x e : ℕ} {xs : List ℕ} → es ≡ x ∷ xs → e ≡ complement_if or x → steps trivial (state rows used e) (signed or xs) ≡ whole
  unfolding all_of
  first_built q p = rw (p, q)

  -- s stands before entry i of the rest
  module _ (rest : List ℕ) (i : ℕ) (s : State) (inv : steps trivial s (signed or (drop i rest)) ≡ whole) where
    pub next_built : i < length rest → {e : ℕ} → e ≡ complement_if or (get_or rest i 0) → (t : State) → t ≡ step trivial s e
        → steps trivial t (signed or (drop (i + 1) rest)) ≡ whole
    unfolding steps
    next_built l p t q = rw (q, p, add-one) (rw (drop-cons rest i 0 l) at inv)

    pub last_built : length rest ≤ i → {e : ℕ} → e ≡ complement_if or s.edge → state s.rows s.used e ≡ list_of trivial or rows used es
    unfolding list_of steps
    last_built l p = rw (p, ← inv, drop_of_length-le rest l)

pub next_sized : (trivial : Bool) (s t : State) (e : ℕ) → t ≡ step trivial s e → Sized s.rows s.used 1 t
next_sized trivial s t e q = rw q (step_sized trivial s.rows s.used s.edge e)

-- ---- what a list takes, and what it takes and builds on other rows
pub list_sized : (trivial or : Bool) (rows : List ℕ) (used : ℕ) (es : List ℕ) → Sized rows used (length es) (list_of trivial or rows used es)
unfolding list_of all_of
list_sized trivial or rows used [] = record { more = omega arith; most = omega arith; long = refl }
list_sized trivial or rows used (e ∷ es) =
    let s = steps_sized trivial (signed or es) (state rows used (complement_if or e)) in
    let n : length (signed or es) ≡ length es = length-map es (complement_if or) in
    record { more = s.more; most = omega (arith, s.most); long = s.long }

all_like : (trivial : Bool) (x y : List ℕ) (used : ℕ) (es : List ℕ) → Like (all_of trivial x used es) (all_of trivial y used es)
unfolding all_of
all_like trivial x y used [] = record { used = refl; edge = refl }
all_like trivial x y used (e ∷ es) = steps_like trivial es (state x used e) (state y used e) (record { used = refl; edge = refl })

pub list_like : (trivial or : Bool) (x y : List ℕ) (used : ℕ) (es : List ℕ) → Like (list_of trivial or x used es) (list_of trivial or y used es)
unfolding list_of
list_like trivial or x y used es =
    let l = all_like trivial x y used (signed or es) in
    record { used = l.used; edge = ap (complement_if or) l.edge }

-- ---- equality
module _ (rows : List ℕ) (used a b : ℕ) (x : State) (e : x ≡ add_and rows used a b) where
  pub and_most : x.used ≤ used + 1
  and_most = rw e (and_sized rows used a b).most

  module _ {m n : ℕ} (p : m ≡ complement a) (q : n ≡ complement b) (y : State) (f : y ≡ add_and x.rows x.used m n) where
    pub eq_most : y.used ≤ used + 2
    eq_most = rw f (omega (arith, (and_sized x.rows x.used m n).most, and_most))

    pub eq_built : list_of false true y.rows y.used (x.edge ∷ (y.edge ∷ [])) ≡ eq_of rows used a b
    unfolding eq_of
    eq_built = rw (f, e, p, q)

pub eq_sized : (rows : List ℕ) (used a b : ℕ) → Sized rows used 4 (eq_of rows used a b)
unfolding eq_of
eq_sized rows used a b =
    let x = add_and rows used a b in
    let y = add_and x.rows x.used (complement a) (complement b) in
    let f = and_sized rows used a b in
    let g = and_sized x.rows x.used (complement a) (complement b) in
    let h = list_sized false true y.rows y.used (x.edge ∷ (y.edge ∷ [])) in
    record { more = omega (arith, f.more, g.more, h.more); most = omega (arith, f.most, g.most, h.most); long = h.long ∙ (g.long ∙ f.long) }

pub eq_like : (v w : List ℕ) (used a b : ℕ) → Like (eq_of v used a b) (eq_of w used a b)
unfolding eq_of
eq_like v w used a b =
    let x = add_and v used a b in
    let x' = add_and w used a b in
    let f = and_like v w used a b in
    let y = add_and x.rows x'.used (complement a) (complement b) in
    let y' = add_and x'.rows x'.used (complement a) (complement b) in
    let g = and_like x.rows x'.rows x'.used (complement a) (complement b) in
    rw (f.used, f.edge, g.used, g.edge) (list_like false true y.rows y'.rows y'.used (x'.edge ∷ (y'.edge ∷ [])))

-- ---- the AND of two edges is the list of the two, and their OR is the complement of the AND of their complements
pub pair_step : (trivial : Bool) (rows : List ℕ) (used a b : ℕ) → list_of trivial false rows used (a ∷ (b ∷ [])) ≡ add_step trivial rows used a b
unfolding list_of all_of steps
pair_step trivial rows used a b = refl

pub pair_or : (rows : List ℕ) (used a b : ℕ) → list_of false true rows used (a ∷ (b ∷ [])) ≡ turned true (add_and rows used (complement a) (complement b))
unfolding list_of all_of steps add_step
pair_or rows used a b = refl
