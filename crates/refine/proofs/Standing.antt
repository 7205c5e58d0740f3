-- What stands where, once the kept things are written.
-- Assumes nothing.
use Prim.Native.Nat.{ℕ, zero, suc, ◌+◌, ◌*◌, ◌/◌, ◌≤◌, ◌<◌}
use native.Mathlib.Omega.{arith}
use native.Mathlib.Nat.{eq-or-lt_of_le}
use mathlib.Core.Path.{◌≡◌, refl, sym, ap, ◌∙◌}
use mathlib.Core.Bool.{Bool, true, false, cond}
use mathlib.Core.Logic.{◌⊎◌, inl, inr}
use mathlib.Core.List.{List}
use lib.ListN.{length, get_or, set, length-set}
use lib.Seq.{get_or-set_same, get_or-set_other}
use Rattle.edge.proofs.Tests.{false_true}
use Rattle.rows.specs.Sizes.{rows_lent}
use Rattle.rows.specs.Rows.{word0, word1}
use Rattle.graph.specs.Count.{count_below}
use Rattle.graph.proofs.Counting.{count_past}
use Rattle.kept_rows.specs.Keeping.{kept_written, word_put}
use Rattle.kept_rows.specs.Copying.{row_word, row_put, rows_kept}
use Rattle.kept_rows.proofs.Copying.{row_put_length}

-- ---- things of any kind: `size` says how many a list has room for
module _ (p : ℕ → Bool) (put : List ℕ → ℕ → ℕ → List ℕ) (size : List ℕ → ℕ) (same_size : (l : List ℕ) (k i : ℕ) → size (put l k i) ≡ size l) (out : List ℕ) where
  pub kept_size : (n : ℕ) → size (kept_written p put out n) ≡ size out
  unfolding kept_written
  kept_size zero = refl
  kept_size (suc n) = go (p n) (kept_size n)
    where
      go : (t : Bool) → size (kept_written p put out n) ≡ size out → size (cond t (put (kept_written p put out n) (count_below p n) n) (kept_written p put out n)) ≡ size out
      go true e = same_size (kept_written p put out n) (count_below p n) n ∙ e
      go false e = e

  -- `read l k` is what stands at place k
  module _ (read : List ℕ → ℕ → ℕ) (thing : ℕ → ℕ) (here : (l : List ℕ) (k i : ℕ) → k < size l → read (put l k i) k ≡ thing i)
      (other : (l : List ℕ) (k i j : ℕ) → (j ≡ k → ⊥) → read (put l k i) j ≡ read l j) where
    kept_at : (n i : ℕ) → count_below p n ≤ size out → i < n → p i ≡ true → read (kept_written p put out n) (count_below p i) ≡ thing i
    unfolding kept_written count_below
    kept_at zero i room l t = absurd (omega arith)
    kept_at (suc n) i room l t = go (p n) refl room (eq-or-lt_of_le l) (λ (h : i < n) (r : count_below p n ≤ size out). kept_at n i r h t)
      where
        go : (b : Bool) → p n ≡ b → cond b (count_below p n + 1) (count_below p n) ≤ size out → (suc i ≡ suc n) ⊎ (suc i < suc n)
            → (i < n → count_below p n ≤ size out → read (kept_written p put out n) (count_below p i) ≡ thing i)
            → read (cond b (put (kept_written p put out n) (count_below p n) n) (kept_written p put out n)) (count_below p i) ≡ thing i
        go true e r (inl q) before = let z : i ≡ n = omega arith in rw z (here (kept_written p put out n) (count_below p n) n (omega (arith, kept_size n)))
        go true e r (inr h) before =
            let k : i < n = omega arith in
            other (kept_written p put out n) (count_below p n) n (count_below p i) (λ (z : count_below p i ≡ count_below p n). absurd (omega (arith, count_past p n i k t))) ∙ before k (omega arith)
        go false e r (inl q) before = let z : i ≡ n = omega arith in absurd (false_true (sym e ∙ (ap p (sym z) ∙ t)))
        go false e r (inr h) before = before (omega arith) r

-- ---- words
pub words_long : (p : ℕ → Bool) (word : ℕ → ℕ) (out : List ℕ) (n : ℕ) → length (kept_written p (word_put word) out n) ≡ length out
words_long p word out = kept_size p (word_put word) length (λ l k i. length-set l k (word i)) out

pub word_at : (p : ℕ → Bool) (word : ℕ → ℕ) (out : List ℕ) (n i : ℕ) → count_below p n ≤ length out → i < n → p i ≡ true → get_or (kept_written p (word_put word) out n) (count_below p i) 0 ≡ word i
word_at p word out =
    kept_at p (word_put word) length (λ l k i. length-set l k (word i)) out (λ (l : List ℕ) (k : ℕ). get_or l k 0) word
    (λ l k i b. get_or-set_same l k (word i) 0 b) (λ l k i j d. get_or-set_other l k j (word i) 0 d)

-- ---- rows
module _ (p : ℕ → Bool) (m : ℕ → ℕ) (rows out : List ℕ) where
  pub rows_long : (n : ℕ) → length (rows_kept p m rows out n) ≡ length out
  rows_long = kept_size p (row_put m rows) length (row_put_length m rows) out

  same_rows : (l : List ℕ) (k i : ℕ) → rows_lent (row_put m rows l k i) ≡ rows_lent l
  same_rows l k i = ap (λ (x : ℕ). x / 2) (row_put_length m rows l k i)

  abbrev first : ℕ → ℕ
  first i = row_word m rows i (word0 rows i)

  abbrev second : ℕ → ℕ
  second i = row_word m rows i (word1 rows i)

  first_here : (l : List ℕ) (k i : ℕ) → k < rows_lent l → word0 (row_put m rows l k i) k ≡ first i
  unfolding row_put
  first_here l k i b = get_or-set_other (set l (2 * k) (first i)) (2 * k + 1) (2 * k) (second i) 0 (λ e. absurd (omega arith)) ∙ get_or-set_same l (2 * k) (first i) 0 (omega arith)

  second_here : (l : List ℕ) (k i : ℕ) → k < rows_lent l → word1 (row_put m rows l k i) k ≡ second i
  unfolding row_put
  second_here l k i b = get_or-set_same (set l (2 * k) (first i)) (2 * k + 1) (second i) 0 (rw length-set (omega arith))

  first_other : (l : List ℕ) (k i j : ℕ) → (j ≡ k → ⊥) → word0 (row_put m rows l k i) j ≡ word0 l j
  unfolding row_put
  first_other l k i j d =
      get_or-set_other (set l (2 * k) (row_word m rows i (word0 rows i))) (2 * k + 1) (2 * j) (row_word m rows i (word1 rows i)) 0 (λ e. absurd (omega arith))
      ∙ get_or-set_other l (2 * k) (2 * j) (row_word m rows i (word0 rows i)) 0 (λ e. d (omega arith))

  second_other : (l : List ℕ) (k i j : ℕ) → (j ≡ k → ⊥) → word1 (row_put m rows l k i) j ≡ word1 l j
  unfolding row_put
  second_other l k i j d =
      get_or-set_other (set l (2 * k) (row_word m rows i (word0 rows i))) (2 * k + 1) (2 * j + 1) (row_word m rows i (word1 rows i)) 0 (λ e. d (omega arith))
      ∙ get_or-set_other l (2 * k) (2 * j + 1) (row_word m rows i (word0 rows i)) 0 (λ e. absurd (omega arith))

  pub first_at : (n i : ℕ) → count_below p n ≤ rows_lent out → i < n → p i ≡ true → word0 (rows_kept p m rows out n) (count_below p i) ≡ row_word m rows i (word0 rows i)
  first_at = kept_at p (row_put m rows) rows_lent same_rows out word0 first first_here first_other

  pub second_at : (n i : ℕ) → count_below p n ≤ rows_lent out → i < n → p i ≡ true → word1 (rows_kept p m rows out n) (count_below p i) ≡ row_word m rows i (word1 rows i)
  second_at = kept_at p (row_put m rows) rows_lent same_rows out word1 second second_here second_other
