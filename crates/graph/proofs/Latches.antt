-- Laws of the latch table: a latch that is written stands there, and the others stay. How many words a latch has, and where each stands, no other proof knows.
-- Assumes nothing.
use Prim.Native.Nat.{ℕ, zero, suc, ◌+◌, ◌*◌, ◌≤◌, ◌<◌}
use native.Mathlib.Omega.{arith}
use mathlib.Core.Path.{◌≡◌, refl, ◌∙◌}
use mathlib.Core.List.{List}
use lib.ListN.{length, get_or, set, length-set}
use lib.Seq.{get_or-set_same, get_or-set_other}
use Rattle.graph.specs.declared.latch.Latch.{Latch}
use Rattle.graph.specs.Latches.{latch_words, latch_at, latch_set, latch_inputs}

-- ---- one latch is written
module _ (latches : List ℕ) (i : ℕ) (l : Latch) where
  one : List ℕ
  one = set latches (latch_words * i) l.input

  two : List ℕ
  two = set one (latch_words * i + 1) l.next

  one_long : length one ≡ length latches
  unfolding one
  one_long = length-set latches (latch_words * i) l.input

  two_long : length two ≡ length latches
  unfolding two
  two_long = length-set one (latch_words * i + 1) l.next ∙ one_long

  pub latch_set_length : length (latch_set latches i l) ≡ length latches
  unfolding latch_set one two
  latch_set_length = length-set two (latch_words * i + 2) l.init ∙ two_long

  -- another word stays
  other_word : (k : ℕ) → (k ≡ latch_words * i → ⊥) → (k ≡ latch_words * i + 1 → ⊥) → (k ≡ latch_words * i + 2 → ⊥) → get_or (latch_set latches i l) k 0 ≡ get_or latches k 0
  unfolding latch_set one two
  other_word k a b c =
      get_or-set_other two (latch_words * i + 2) k l.init 0 c
      ∙ (get_or-set_other one (latch_words * i + 1) k l.next 0 b ∙ get_or-set_other latches (latch_words * i) k l.input 0 a)

  pub latch_kept : (j : ℕ) → (j ≡ i → ⊥) → latch_at (latch_set latches i l) j ≡ latch_at latches j
  latch_kept j n =
      rw (
        other_word (latch_words * j) (λ e. n (omega arith)) (λ e. absurd (omega arith)) (λ e. absurd (omega arith)),
        other_word (latch_words * j + 1) (λ e. absurd (omega arith)) (λ e. n (omega arith)) (λ e. absurd (omega arith)),
        other_word (latch_words * j + 2) (λ e. absurd (omega arith)) (λ e. absurd (omega arith)) (λ e. n (omega arith)),
      )

  pub latch_set_at : latch_words * (i + 1) ≤ length latches → latch_at (latch_set latches i l) i ≡ l
  unfolding latch_set one two
  latch_set_at r =
      let x : get_or (latch_set latches i l) (latch_words * i) 0 ≡ l.input
      = get_or-set_other two (latch_words * i + 2) (latch_words * i) l.init 0 (λ e. absurd (omega arith))
      ∙ (get_or-set_other one (latch_words * i + 1) (latch_words * i) l.next 0 (λ e. absurd (omega arith)) ∙ get_or-set_same latches (latch_words * i) l.input 0 (omega arith)) in
      let y : get_or (latch_set latches i l) (latch_words * i + 1) 0 ≡ l.next
      = get_or-set_other two (latch_words * i + 2) (latch_words * i + 1) l.init 0 (λ e. absurd (omega arith))
      ∙ get_or-set_same one (latch_words * i + 1) l.next 0 (omega (arith, one_long)) in
      let z : get_or (latch_set latches i l) (latch_words * i + 2) 0 ≡ l.init
      = get_or-set_same two (latch_words * i + 2) l.init 0 (omega (arith, two_long)) in
      rw (x, y, z)

-- ---- tables that agree
-- in the words of n latches
pub same_latches : (n : ℕ) (x y : List ℕ) → ((k : ℕ) → k < latch_words * n → get_or x k 0 ≡ get_or y k 0) → (i : ℕ) → i < n → latch_at x i ≡ latch_at y i
same_latches n x y h i l = rw (h (latch_words * i) (omega arith), h (latch_words * i + 1) (omega arith), h (latch_words * i + 2) (omega arith))

-- in the inputs of n latches
pub same_inputs : (x y : List ℕ) (n : ℕ) → ((i : ℕ) → i < n → (latch_at x i).input ≡ (latch_at y i).input) → latch_inputs x n ≡ latch_inputs y n
unfolding latch_inputs
same_inputs x y zero h = refl
same_inputs x y (suc n) h = rw (same_inputs x y n (λ i l. h i (omega arith)), h n (omega arith))
