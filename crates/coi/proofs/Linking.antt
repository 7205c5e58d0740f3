-- Laws of the marks that say which latch has a row as its input.
-- Assumes nothing.
use Prim.Native.Nat.{ℕ, zero, suc, ◌+◌, ◌-◌, ◌≤◌, ◌<◌}
use native.Mathlib.Omega.{arith}
use native.Mathlib.Numerals.{add-one}
use native.Mathlib.Nat.{eq-or-lt_of_le, le_of_suc-le-suc}
use mathlib.Core.Path.{◌≡◌, refl, sym, ap, fun_ext, ◌∙◌}
use mathlib.Core.Logic.{◌⊎◌, inl, inr}
use mathlib.Core.Bool.{Bool, true, false, cond}
use mathlib.Core.List.{List}
use lib.ListN.{length, get_or, set, replicate, length-replicate}
use lib.Seq.{get_or-set_same, get_or-set_other}
use lib.Dec.{eqb}
use borrow.Author.Tests.{eqb-true, eqb-false}
use Rattle.graph.specs.Latches.{latch_at}
use Rattle.graph.specs.Check.{cleared}
use Rattle.root_marks.proofs.Flagging.{cleared_all, zero_at}
use Rattle.coi.specs.Coi.{latch_of, steps_at, steps, searched}
use Rattle.coi.specs.Steps.{Links, steps_by, Known, CoiReady}

module _ (latches : List ℕ) where
  pub links_none : (marks : List ℕ) (n : ℕ) → marks ≡ replicate n 0 → Links latches 0 marks
  unfolding latch_of
  links_none marks n e = record { holds = λ i. ap (λ (l : List ℕ). get_or l i 0) e ∙ zero_at n i }

  -- latch k is next
  pub links_more : (k : ℕ) (marks : List ℕ) (x : ℕ) → x ≡ (latch_at latches k).input → x < length marks → Links latches k marks → Links latches (k + 1) (set marks x (k + 1))
  unfolding latch_of
  links_more k marks x e l h =
      record { holds = λ i. ap (λ (m : ℕ). get_or (set marks x m) i 0) more ∙ (at i (eqb (latch_at latches k).input i) refl ∙ ap (λ (m : ℕ). latch_of latches m i) (sym more)) }
    where
      more : k + 1 ≡ suc k
      more = add-one k

      at : (i : ℕ) (t : Bool) → eqb (latch_at latches k).input i ≡ t → get_or (set marks x (suc k)) i 0 ≡ cond t (suc k) (latch_of latches k i)
      at i true q = let p : i ≡ x = sym (e ∙ eqb-true _ _ q) in rw (p, get_or-set_same marks x (suc k) 0 l)
      at i false q = get_or-set_other marks x i (suc k) 0 (λ (p : i ≡ x). eqb-false _ _ q (sym (p ∙ e))) ∙ h.holds i

  pub latch_most : (n i : ℕ) → latch_of latches n i ≤ n
  unfolding latch_of
  latch_most zero i = omega arith
  latch_most (suc n) i = go (eqb (latch_at latches n).input i) (latch_most n i)
    where
      go : (t : Bool) → latch_of latches n i ≤ n → cond t (suc n) (latch_of latches n i) ≤ suc n
      go true h = omega arith
      go false h = omega arith

  -- ---- the latch of a row
  pub data Of (n i : ℕ) : ℕ → Type 0 where
    no_latch_lem : Of n i 0
    is_latch : (k : ℕ) → k < n → (latch_at latches k).input ≡ i → Of n i (suc k)

  pub latch_of_lem : (n i : ℕ) → Of n i (latch_of latches n i)
  unfolding latch_of
  latch_of_lem zero i = no_latch_lem
  latch_of_lem (suc n) i = go (eqb (latch_at latches n).input i) refl (latch_of_lem n i)
    where
      more : {at : ℕ} → Of n i at → Of (suc n) i at
      more no_latch_lem = no_latch_lem
      more (is_latch k l e) = is_latch k (omega arith) e

      go : (t : Bool) → eqb (latch_at latches n).input i ≡ t → Of n i (latch_of latches n i) → Of (suc n) i (cond t (suc n) (latch_of latches n i))
      go true e o = is_latch n (omega arith) (eqb-true _ _ e)
      go false e o = more o

  -- where no two latches have one input
  pub latch_found : (n : ℕ) → ((k l : ℕ) → k < l → l < n → (latch_at latches k).input ≡ (latch_at latches l).input → ⊥) → (k : ℕ) → k < n → latch_of latches n (latch_at latches k).input ≡ suc k
  unfolding latch_of
  latch_found zero once k l = absurd (omega arith)
  latch_found (suc n) once k l =
      let before : k < n → latch_of latches n (latch_at latches k).input ≡ suc k = λ (m : k < n). latch_found n (λ a b p q. once a b p (omega arith)) k m in
      go (eqb (latch_at latches n).input (latch_at latches k).input) refl before (eq-or-lt_of_le (le_of_suc-le-suc l))
    where
      go : (t : Bool) → eqb (latch_at latches n).input (latch_at latches k).input ≡ t → (k < n → latch_of latches n (latch_at latches k).input ≡ suc k) → (k ≡ n) ⊎ (k < n)
          → cond t (suc n) (latch_of latches n (latch_at latches k).input) ≡ suc k
      go true e before (inl q) = ap suc (sym q)
      go true e before (inr m) = absurd (once k n m (omega arith) (sym (eqb-true _ _ e)))
      go false e before (inl q) = absurd (eqb-false _ _ e (ap (λ (m : ℕ). (latch_at latches m).input) (sym q)))
      go false e before (inr m) = before m

module _ (rows latches : List ℕ) (n : ℕ) (marks : List ℕ) (h : Links latches n marks) where
  pub known : (used : ℕ) → CoiReady rows latches n used → length marks ≡ used → Known rows latches marks used
  known used r e =
      record {
        some = r.some;
        small = r.small;
        rows_long = r.rows_long;
        marks_long = e;
        latch_there = λ i l. omega (arith, most i, r.latches_known.long);
        next_used = λ i l. r.latches_known.nexts_used (get_or marks i 0 - 1) (omega (arith, most i));
      }
    where
      most : (i : ℕ) → get_or marks i 0 ≤ n
      most i = rw (h.holds i) (latch_most latches n i)

  -- the steps by the marks are those of the definition
  pub searched_same : (used : ℕ) (ids : List ℕ) → searched (steps_by rows latches marks) used ids ≡ searched (steps rows latches n) used ids
  searched_same used ids = ap (λ (next : ℕ → List ℕ). searched next used ids) (fun_ext (λ i. ap (λ (at : ℕ). steps_at rows latches at i) (h.holds i)))

-- ---- zeros
pub zeros_long : (l : List ℕ) (n : ℕ) → l ≡ replicate n 0 → length l ≡ n
zeros_long l n e = ap length e ∙ length-replicate n 0

-- the whole of a list is cleared
pub all_zeros : (l : List ℕ) (n m : ℕ) {after : List ℕ} → after ≡ cleared m l → m ≡ n → length l ≡ n → after ≡ replicate n 0
all_zeros l n m e q long = e ∙ (ap (λ (k : ℕ). cleared k l) q ∙ cleared_all l n long)
