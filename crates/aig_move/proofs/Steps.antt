-- Laws of the rows that are made.
-- Assumes nothing.
use Prim.Native.Nat.{ℕ, ◌+◌, ◌*◌, ◌≤◌, ◌<◌}
use native.Mathlib.Omega.{arith}
use mathlib.Core.Path.{◌≡◌, refl, ◌∙◌}
use mathlib.Core.Bool.{Bool, false}
use mathlib.Core.List.{List, [], ◌∷◌}
use lib.ListN.{length, get_or, set}
use borrow.Author.Tests.{lt-ltb, le-ltb}
use Rattle.rows.specs.Rows.{none}
use Rattle.gates.specs.Gates.{State, state, row_added, add_and, leaf_added}
use Rattle.gates.specs.Lists.{list_of}
use Rattle.gates.proofs.Building.{Like, Sized, row_long, and_sized, and_like}
use Rattle.gates.proofs.Listing.{list_sized, list_like}
use Rattle.aig_move.specs.Making.{next_of, guard_of, making_of}
use Rattle.aig_move.specs.Moving.{first_set}

-- ---- how many rows are taken, and that no length changes
module _ (rows : List ℕ) (used : ℕ) (constraints : List ℕ) where
  abbrev all : State
  all = list_of false false (leaf_added rows used) (used + 1) constraints

  pub next_sized : Sized rows used (length constraints + 2) (next_of rows used constraints)
  unfolding next_of
  next_sized =
      let f = list_sized false false (leaf_added rows used) (used + 1) constraints in
      let g = and_sized all.rows all.used (2 * used) all.edge in
      record { more = omega (arith, f.more, g.more); most = omega (arith, f.most, g.most); long = g.long ∙ (f.long ∙ row_long rows used none 0) }

pub guard_sized : (rows : List ℕ) (used next : ℕ) (list : List ℕ) → Sized rows used 1 (guard_of rows used next list)
unfolding guard_of
guard_sized rows used next [] = record { more = omega arith; most = omega arith; long = refl }
guard_sized rows used next (e ∷ es) = and_sized rows used next e

-- ---- what is taken and built hangs on the edges alone
next_like : (x y : List ℕ) (used : ℕ) (constraints : List ℕ) → Like (next_of x used constraints) (next_of y used constraints)
unfolding next_of
next_like x y used constraints =
    let a = list_of false false (leaf_added x used) (used + 1) constraints in
    let b = list_of false false (leaf_added y used) (used + 1) constraints in
    let l = list_like false false (leaf_added x used) (leaf_added y used) (used + 1) constraints in
    rw (l.used, l.edge) (and_like a.rows b.rows b.used (2 * used) b.edge)

guard_like : (x y : List ℕ) (used next : ℕ) (list : List ℕ) → Like (guard_of x used next list) (guard_of y used next list)
unfolding guard_of
guard_like x y used next [] = record { used = refl; edge = refl }
guard_like x y used next (e ∷ es) = and_like x y used next e

pub used_like : (x y : List ℕ) (used : ℕ) (constraints bads outputs : List ℕ) → (making_of x used constraints bads outputs).used ≡ (making_of y used constraints bads outputs).used
unfolding making_of
used_like x y used constraints bads outputs =
    let a = next_of x used constraints in
    let b = next_of y used constraints in
    let l = next_like x y used constraints in
    let c = guard_of a.rows b.used b.edge bads in
    let d = guard_of b.rows b.used b.edge bads in
    let m = guard_like a.rows b.rows b.used b.edge bads in
    rw (l.used, l.edge, m.used) (guard_like c.rows d.rows d.used b.edge outputs).used

-- ---- no row is lost
pub making_more : (rows : List ℕ) (used : ℕ) (constraints bads outputs : List ℕ) → used ≤ (making_of rows used constraints bads outputs).used
unfolding making_of
making_more rows used constraints bads outputs =
    let n = next_of rows used constraints in
    let b = guard_of n.rows n.used n.edge bads in
    omega (arith, (next_sized rows used constraints).more, (guard_sized n.rows n.used n.edge bads).more, (guard_sized b.rows b.used n.edge outputs).more)

-- ---- the steps
module _ (rows : List ℕ) (used next : ℕ) (list : List ℕ) where
  pub guard_none : length list ≡ 0 → state rows used 0 ≡ guard_of rows used next list
  unfolding guard_of
  guard_none z = go list z
    where
      go : (l : List ℕ) → length l ≡ 0 → state rows used 0 ≡ guard_of rows used next l
      go [] z = refl
      go (e ∷ es) z = absurd (omega arith)

  pub guard_first : (length list ≡ 0 → ⊥) → add_and rows used next (get_or list 0 0) ≡ guard_of rows used next list
  unfolding guard_of
  guard_first n = go list n
    where
      go : (l : List ℕ) → (length l ≡ 0 → ⊥) → add_and rows used next (get_or l 0 0) ≡ guard_of rows used next l
      go [] n = absurd (n refl)
      go (e ∷ es) n = refl

pub list_most : (trivial or : Bool) (rows : List ℕ) (used : ℕ) (es : List ℕ) (s : State) → s ≡ list_of trivial or rows used es → s.used ≤ used + length es
list_most trivial or rows used es s q = rw q (list_sized trivial or rows used es).most

pub next_built : (rows : List ℕ) (used : ℕ) (constraints : List ℕ) {leafed : List ℕ} → leafed ≡ row_added rows used none 0 → (s : State) → s ≡ list_of false false leafed (used + 1) constraints
    → add_and s.rows s.used (2 * used) s.edge ≡ next_of rows used constraints
unfolding next_of
next_built rows used constraints p s q = rw (q, p)

module _ (rows : List ℕ) (used : ℕ) (constraints bads outputs : List ℕ) (n : State) (p : n ≡ next_of rows used constraints) where
  pub next_most : n.used ≤ used + length constraints + 2
  next_most = rw p (omega (arith, (next_sized rows used constraints).most))

  module _ (b : State) (q : b ≡ guard_of n.rows n.used n.edge bads) where
    pub bad_most : b.used ≤ used + length constraints + 3
    bad_most = rw q (omega (arith, (guard_sized n.rows n.used n.edge bads).most, next_most))

    pub all_made : (o : State) → o ≡ guard_of b.rows b.used n.edge outputs
        → record { rows = o.rows; used = o.used; next = n.edge; bad = b.edge; output = o.edge } ≡ making_of rows used constraints bads outputs
    unfolding making_of
    all_made o r = rw (r, q, p)

-- ---- the first of n entries
module _ (list : List ℕ) (n e : ℕ) where
  pub first_set_lem : 0 < n → set list 0 e ≡ first_set list n e
  unfolding first_set
  first_set_lem l = rw (lt-ltb 0 n l)

  pub none_set : n ≤ 0 → list ≡ first_set list n e
  unfolding first_set
  none_set l = rw (le-ltb 0 n l)
