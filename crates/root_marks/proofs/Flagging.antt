-- Laws of flags: one store, and what a set of rows that is closed under fanins gives.
-- Assumes nothing.
use Prim.Native.Nat.{ℕ, zero, suc, ◌<◌}
use native.Mathlib.Omega.{arith}
use mathlib.Core.Path.{◌≡◌, refl, sym, ap, ◌∙◌}
use mathlib.Core.Logic.{◌⊎◌, inl, inr, ⊎_elim}
use mathlib.Core.Bool.{Bool, cond, not}
use mathlib.Core.List.{List, [], ◌∷◌, append-nil}
use lib.ListN.{length, get_or, set, replicate}
use lib.Seq.{drop-length, ext_get_or}
use Rattle.edge.specs.Edges.{id_of, is_complemented}
use Rattle.edge.specs.Meaning.{edge_value}
use Rattle.rows.specs.Value.{value, InCone}
use Rattle.rows.specs.Value.InCone.{here, by0, by1}
use Rattle.rows.proofs.Value.{local}
use Rattle.graph.specs.Check.{cleared}
use Rattle.root_marks.specs.Flags.{Flagged, Flags, Closed, AgreeOn}

-- ---- one store of a flag
pub set_keeps : (f : List ℕ) (a j : ℕ) → Flagged f j → Flagged (set f a 1) j
set_keeps [] a j h = h
set_keeps (x ∷ f) zero zero h = refl
set_keeps (x ∷ f) zero (suc j) h = h
set_keeps (x ∷ f) (suc a) zero h = h
set_keeps (x ∷ f) (suc a) (suc j) h = set_keeps f a j h

-- the flag at j is as it was, or j is where the flag went
pub set_cases : (f : List ℕ) (a j : ℕ) → ((j ≡ a) × Flagged (set f a 1) j) ⊎ (get_or (set f a 1) j 0 ≡ get_or f j 0)
set_cases [] a j = inr refl
set_cases (x ∷ f) zero zero = inl (refl, refl)
set_cases (x ∷ f) zero (suc j) = inr refl
set_cases (x ∷ f) (suc a) zero = inr refl
set_cases (x ∷ f) (suc a) (suc j) = ⊎_elim (λ p. inl (ap suc p.0, p.1)) (λ e. inr e) (set_cases f a j)

-- ---- clearing
-- a list is cleared whole
pub cleared_all : (l : List ℕ) (n : ℕ) → length l ≡ n → cleared n l ≡ replicate n 0
cleared_all l n e = rw (← e, drop-length l) (append-nil (replicate (length l) 0))

-- ---- flags are 0 or 1
abbrev pub Bits : List ℕ → Type 0
Bits f = (j : ℕ) → (get_or f j 0 ≡ 0) ⊎ Flagged f j

pub zero_at : (n j : ℕ) → get_or {A = ℕ} (replicate n 0) j 0 ≡ 0
zero_at zero j = refl
zero_at (suc n) zero = refl
zero_at (suc n) (suc j) = zero_at n j

pub none_flagged : (n j : ℕ) → Flagged (replicate n 0) j → ⊥
none_flagged n j m = omega (arith, zero_at n j)

pub zero_bits : (n : ℕ) → Bits (replicate n 0)
zero_bits n j = inl (zero_at n j)

pub set_bits : (f : List ℕ) (a : ℕ) → Bits f → Bits (set f a 1)
set_bits f a b j = ⊎_elim (λ p. inr p.1) (λ e. ⊎_elim (λ z. inl (e ∙ z)) (λ m. inr (e ∙ m)) (b j)) (set_cases f a j)

-- a flagged row is one that has a flag
pub flagged_below : (f : List ℕ) (j : ℕ) → Flagged f j → j < length f
flagged_below [] j m = absurd (omega arith)
flagged_below (x ∷ f) zero m = omega arith
flagged_below (x ∷ f) (suc j) m = omega (arith, flagged_below f j m)

-- two lists of flags that flag the same rows are the same
pub same_flags : {used : ℕ} (a b : List ℕ) → Flags used a → Flags used b → ((j : ℕ) → Flagged a j → Flagged b j) → ((j : ℕ) → Flagged b j → Flagged a j) → a ≡ b
same_flags a b p q to from = ext_get_or 0 a b (p.long ∙ sym q.long) (λ j _. at j (p.bits j) (q.bits j))
  where
    at : (j : ℕ) → (get_or a j 0 ≡ 0) ⊎ Flagged a j → (get_or b j 0 ≡ 0) ⊎ Flagged b j → get_or a j 0 ≡ get_or b j 0
    at j (inr m) _ = m ∙ sym (to j m)
    at j (inl z) (inr m) = from j m ∙ sym m
    at j (inl z) (inl y) = z ∙ sym y

-- ---- a closed set of flags
module _ (rows flags : List ℕ) (closed : Closed rows flags) where
  cone_flagged : (j : ℕ) {i : ℕ} → InCone rows j i → Flagged flags i → Flagged flags j
  cone_flagged j here m = m
  cone_flagged j (by0 {i} g r) m = cone_flagged j r (closed i m g).0
  cone_flagged j (by1 {i} g r) m = cone_flagged j r (closed i m g).1

  -- the values of its rows depend only on them
  module _ (other : List ℕ) (leaf leaf' : ℕ → Bool) (agree : AgreeOn flags rows other leaf leaf') where
    pub same_value : (i : ℕ) → Flagged flags i → value rows leaf i ≡ value other leaf' i
    same_value i m = (local rows other leaf leaf').by_cone i (λ j r. agree j (cone_flagged j r m))

-- an edge has the value that its row gives it
pub same_edge : (v w : ℕ → Bool) (e : ℕ) → v (id_of e) ≡ w (id_of e) → edge_value v e ≡ edge_value w e
unfolding edge_value
same_edge v w e p = ap (λ (b : Bool). cond (is_complemented e) (not b) b) p
