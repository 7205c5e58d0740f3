-- Laws of the map at the start, and of the lists under a map.
-- Assumes nothing.
use Prim.Native.Nat.{ℕ, zero, suc, ◌+◌, ◌-◌, ◌*◌, ◌≤◌, ◌<◌}
use native.Mathlib.Omega.{arith}
use native.Mathlib.Nat.{eq-or-lt_of_le}
use native.Mathlib.Numerals.{add-one}
use mathlib.Core.Path.{◌≡◌, refl, ap, ◌∙◌}
use mathlib.Core.Logic.{⊎_elim}
use mathlib.Core.List.{List}
use lib.ListN.{length, get_or, set, replicate, length-set, length-replicate}
use Rattle.edge.specs.Edges.{id_of}
use Rattle.edge.proofs.Tests.{lt_or_le}
use Rattle.rows.specs.Rows.{none}
use Rattle.graph.specs.declared.latch.Latch.{Latch}
use Rattle.graph.specs.Latches.{latch_words, with_next, latch_at, latch_set}
use Rattle.graph.proofs.Latches.{latch_set_length, latch_kept, latch_set_at}
use Rattle.output.specs.Writing.{written}
use Rattle.output.proofs.Writing.{written_before, written_at_lem}
use Rattle.frame.specs.Map.{mapped, nexts_mapped, start_map, mapped_of, next_set, nexts_set}

-- ---- the map at the start
pub nexts_mapped_length : (latches : List ℕ) (n : ℕ) (map : List ℕ) → length (nexts_mapped latches n map) ≡ length map
unfolding nexts_mapped
nexts_mapped_length latches zero map = refl
nexts_mapped_length latches (suc n) map = length-set (nexts_mapped latches n map) (latch_at latches n).input (latch_at latches n).next ∙ nexts_mapped_length latches n map

pub start_length : (latches : List ℕ) (n used : ℕ) → length (start_map latches n used) ≡ used
unfolding start_map
start_length latches n used = nexts_mapped_length latches n (set (replicate used none) 0 0) ∙ (length-set (replicate used none) 0 0 ∙ length-replicate {A = ℕ} used none)

-- a turn of the loop over the latches
pub nexts_mapped_turn : (latches map : List ℕ) (j : ℕ) {now : List ℕ} {l : Latch} → now ≡ nexts_mapped latches j map → l ≡ latch_at latches j
    → set now l.input l.next ≡ nexts_mapped latches (j + 1) map
unfolding nexts_mapped
nexts_mapped_turn latches map j e w = rw (add-one, e, w)

-- ---- the latches
pub nexts_set_length : (map latches from : List ℕ) (n : ℕ) → length (nexts_set map latches from n) ≡ length latches
unfolding nexts_set next_set
nexts_set_length map latches from zero = refl
nexts_set_length map latches from (suc n) =
    latch_set_length (nexts_set map latches from n) n (with_next (latch_at (nexts_set map latches from n) n) (mapped map (latch_at from n).next))
    ∙ nexts_set_length map latches from n

pub nexts_set_turn :
    (map latches from : List ℕ) (j : ℕ) {now after : List ℕ} {l f : Latch} {e : ℕ} → now ≡ nexts_set map latches from j → l ≡ latch_at now j → f ≡ latch_at from j → e ≡ mapped map f.next →
    after ≡ latch_set now j (with_next l e) → after ≡ nexts_set map latches from (j + 1)
unfolding nexts_set next_set
nexts_set_turn map latches from j p q r s w = w ∙ rw (add-one, s, r, q, p)

-- all latches are taken in
pub started : (latches : List ℕ) (used : ℕ) {n j : ℕ} {now first : List ℕ} → now ≡ nexts_mapped latches j (set first 0 0) → first ≡ replicate used none → j ≡ n → now ≡ start_map latches n used
unfolding start_map
started latches used e p q = e ∙ rw (p, q)

-- ---- what stands there afterwards: the first n latches have another next, and nothing else changed
module _ (map latches from : List ℕ) where
  pub nexts_after : (n j : ℕ) → n ≤ j → latch_at (nexts_set map latches from n) j ≡ latch_at latches j
  unfolding nexts_set next_set
  nexts_after zero j l = refl
  nexts_after (suc n) j l =
      latch_kept (nexts_set map latches from n) n (with_next (latch_at (nexts_set map latches from n) n) (mapped map (latch_at from n).next)) j (λ (e : j ≡ n). absurd (omega arith))
      ∙ nexts_after n j (omega arith)

  pub nexts_at : (n j : ℕ) → latch_words * n ≤ length latches → j < n → latch_at (nexts_set map latches from n) j ≡ with_next (latch_at latches j) (mapped map (latch_at from j).next)
  unfolding nexts_set next_set
  nexts_at zero j r l = absurd (omega arith)
  nexts_at (suc n) j r l =
      ⊎_elim
      (λ (e : suc j ≡ suc n).
      let q : j ≡ n = omega arith in
      rw q
      (latch_set_at (nexts_set map latches from n) n (with_next (latch_at (nexts_set map latches from n) n) (mapped map (latch_at from n).next)) (omega (arith, nexts_set_length map latches from n))
      ∙ ap (λ (l : Latch). with_next l (mapped map (latch_at from n).next)) (nexts_after n n (omega arith))))
      (λ (h : suc j < suc n).
      latch_kept (nexts_set map latches from n) n (with_next (latch_at (nexts_set map latches from n) n) (mapped map (latch_at from n).next)) j (λ (e : j ≡ n). absurd (omega arith))
      ∙ nexts_at n j (omega arith) (omega arith))
      (eq-or-lt_of_le l)

-- ---- a list that grew by mapped edges
module _ (map : List ℕ) (rows used : ℕ) (to : (e : ℕ) → id_of e < rows → id_of (mapped map e) < used) where
  pub grown_used : (before from : List ℕ) (at n : ℕ) → at + n ≤ length before → ((j : ℕ) → j < at → id_of (get_or before j 0) < used) → ((j : ℕ) → j < n → id_of (get_or from j 0) < rows)
      → (j : ℕ) → j < at + n → id_of (get_or (written before at (mapped_of map from) n) j 0) < used
  grown_used before from at n room u v j l =
      ⊎_elim
      (λ (h : j < at). rw (written_before before at (mapped_of map from) n j h) (u j h))
      (λ (h : at ≤ j).
      let e : j ≡ at + (j - at) = omega arith in
      let k : j - at < n = omega arith in
      rw (ap (λ (x : ℕ). get_or (written before at (mapped_of map from) n) x 0) e ∙ written_at_lem before at (mapped_of map from) n (j - at) room k) (to (get_or from (j - at) 0) (v (j - at) k)))
      (lt_or_le j at)
