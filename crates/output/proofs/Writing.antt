-- Laws of writing.
-- Assumes nothing.
use Prim.Native.Nat.{ℕ, zero, suc, ◌+◌, ◌≤◌, ◌<◌}
use native.Mathlib.Omega.{arith}
use native.Mathlib.Nat.{eq-or-lt_of_le}
use native.Mathlib.Numerals.{add-one}
use mathlib.Core.Path.{◌≡◌, refl, ap, ◌∙◌}
use mathlib.Core.Logic.{⊎_elim}
use mathlib.Core.List.{List}
use lib.ListN.{length, get_or, set, take, drop, length-set}
use lib.Seq.{get_or-set_same, get_or-set_other, drop-set-lt}
use Rattle.std.proofs.lemmas.List.{get_or-take, length-take-le}
use Rattle.output.specs.Writing.{written, each_of}

pub written_length : (list : List ℕ) (at : ℕ) (f : ℕ → ℕ) (n : ℕ) → length (written list at f n) ≡ length list
unfolding written
written_length list at f zero = refl
written_length list at f (suc n) = length-set (written list at f n) (at + n) (f n) ∙ written_length list at f n

-- a turn of a loop that writes
pub written_turn : (list : List ℕ) (at : ℕ) (f : ℕ → ℕ) (j : ℕ) {now : List ℕ} {v : ℕ} → now ≡ written list at f j → v ≡ f j
    → set now (at + j) v ≡ written list at f (j + 1)
unfolding written
written_turn list at f j e w = rw (add-one, e, w)

-- words that agree
pub written_same : (list : List ℕ) (at : ℕ) (f g : ℕ → ℕ) (n : ℕ) → ((j : ℕ) → j < n → f j ≡ g j) → written list at f n ≡ written list at g n
unfolding written
written_same list at f g zero h = refl
written_same list at f g (suc n) h = rw (written_same list at f g n (λ j l. h j (omega arith)), h n (omega arith))

-- of the first n words of a list
pub each_taken : (out : List ℕ) (at : ℕ) (of : ℕ → ℕ) (list : List ℕ) (n : ℕ) → n ≤ length list
    → written out at (each_of of (take n list)) (length (take n list)) ≡ written out at (each_of of list) n
each_taken out at of list n h =
    rw (length-take-le n list h) (written_same out at (each_of of (take n list)) (each_of of list) n (λ j l. ap of (get_or-take n list j 0 l)))

-- ---- what stands there afterwards
module _ (list : List ℕ) (at : ℕ) (f : ℕ → ℕ) where
  pub written_before : (n k : ℕ) → k < at → get_or (written list at f n) k 0 ≡ get_or list k 0
  unfolding written
  written_before zero k l = refl
  written_before (suc n) k l = get_or-set_other (written list at f n) (at + n) k (f n) 0 (λ e. absurd (omega arith)) ∙ written_before n k l

  pub written_at_lem : (n j : ℕ) → at + n ≤ length list → j < n → get_or (written list at f n) (at + j) 0 ≡ f j
  unfolding written
  written_at_lem zero j r l = absurd (omega arith)
  written_at_lem (suc n) j r l =
      ⊎_elim
      (λ e. let q : j ≡ n = omega arith in rw q (get_or-set_same (written list at f n) (at + n) (f n) 0 (omega (arith, written_length list at f n))))
      (λ h. get_or-set_other (written list at f n) (at + n) (at + j) (f n) 0 (λ e. absurd (omega arith)) ∙ written_at_lem n j (omega arith) (omega arith))
      (eq-or-lt_of_le {n = suc j} {m = suc n} (omega arith))

  pub written_after : (n k : ℕ) → at + n ≤ k → get_or (written list at f n) k 0 ≡ get_or list k 0
  unfolding written
  written_after zero k l = refl
  written_after (suc n) k l = get_or-set_other (written list at f n) (at + n) k (f n) 0 (λ e. absurd (omega arith)) ∙ written_after n k (omega arith)

  pub written_drop : (n k : ℕ) → at + n ≤ k → drop k (written list at f n) ≡ drop k list
  unfolding written
  written_drop zero k l = refl
  written_drop (suc n) k l = drop-set-lt k (written list at f n) (at + n) (f n) (omega arith) ∙ written_drop n k (omega arith)
