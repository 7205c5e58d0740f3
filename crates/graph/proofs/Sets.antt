-- Laws of justice: where the ends are good, the sets lie one after the other and cover the edges.
-- Assumes nothing.
use Prim.Native.Nat.{ℕ, zero, suc, ◌+◌, ◌-◌, ◌≤◌, ◌<◌}
use native.Mathlib.Omega.{arith}
use native.Mathlib.Numerals.{add-one}
use native.Mathlib.Nat.{eq-or-lt_of_le}
use mathlib.Core.Path.{◌≡◌, refl}
use mathlib.Core.Bool.{Bool, true, not, ◌&&◌, ◌||◌}
use mathlib.Core.Logic.{⊎_elim}
use mathlib.Core.List.{List, [], ◌∷◌}
use lib.ListN.{get_or}
use lib.Dec.{ltb, leb, eqb}
use borrow.Author.Tests.{leb-true, leb-false, eqb-true, eq-eqb, ne_eqb, le-leb, lt-leb, lt-ltb}
use Rattle.edge.proofs.Tests.{both, lt_or_le}
use Rattle.std.specs.Prelude.{Option, Some, None, unwrap_or}
use Rattle.std.specs.Bool.{then_some}
use Rattle.graph.specs.Search.{first_bad}
use Rattle.graph.specs.Justice.{start, end_is, good_end, set_of}
use Rattle.graph.specs.Sets.{InSet}
use Rattle.graph.specs.Stages.{found, entry_found, first_fault}
use Rattle.graph.specs.Check.{no_set_stage, end_stage, set_stage, justice_stages}
use Rattle.graph.proofs.Searching.{all_good, is_first, first_is, nothing_bad}
use Rattle.graph.proofs.Stages.{stage_goes}

pub start_next : (ends : List ℕ) (s : ℕ) → start ends (s + 1) ≡ get_or ends s 0
start_next ends s = rw add-one

-- what a good end is
pub record End (sets edges s before end : ℕ) : Type 0 where
  pub rises : before ≤ end
  pub within : end ≤ edges
  pub last : s + 1 ≡ sets → end ≡ edges

pub end_is_lem : (sets edges s before end : ℕ) → end_is sets edges s before end ≡ true → End sets edges s before end
unfolding end_is
end_is_lem sets edges s before end h =
    let t = both {a = leb before end && leb end edges} {b = not (eqb (s + 1) sets) || eqb end edges} h in
    let u = both {a = leb before end} {b = leb end edges} t.0 in
    record {
      rises = leb-true _ _ u.0;
      within = leb-true _ _ u.1;
      last = λ (q : s + 1 ≡ sets). eqb-true end edges (rw (eq-eqb (s + 1) sets q) at t.1);
    }

module _ (ends : List ℕ) (sets n : ℕ) (good : first_bad (good_end ends sets n) 0 sets ≡ None) where
  pub end_at : (s : ℕ) → s < sets → End sets n s (start ends s) (get_or ends s 0)
  end_at s l = end_is_lem sets n s (start ends s) (get_or ends s 0) (all_good (good_end ends sets n) sets 0 good s (omega arith) (omega arith))

  -- the ends before a set are not above its start
  ends_before : (s r : ℕ) → r < s → s ≤ sets → get_or ends r 0 ≤ start ends s
  ends_before zero r l h = absurd (omega arith)
  ends_before (suc s) r l h =
      ⊎_elim
      (λ (q : suc r ≡ suc s). let e : r ≡ s = omega arith in rw e (omega arith))
      (λ lt. omega (arith, ends_before s r (omega arith) (omega arith), (end_at s (omega arith)).rises))
      (eq-or-lt_of_le l)

  -- an edge inside set s is in set s
  pub set_of_lem : (s k : ℕ) → s < sets → start ends s ≤ k → k < get_or ends s 0 → set_of ends sets k ≡ s
  unfolding set_of
  set_of_lem s k l from h =
      let first = first_is (λ (r : ℕ). leb (get_or ends r 0) k) sets 0 s
      (record {
        from = omega arith;
        below = omega arith;
        bad = lt-leb (get_or ends s 0) k h;
        before = λ r m b. le-leb (get_or ends r 0) k (omega (arith, ends_before s r b (omega arith)));
      }) in
      rw first

  -- after the last set come no more edges
  pub covered : (s : ℕ) → 0 < sets → s ≡ sets → start ends s ≡ n
  covered zero p q = absurd (omega arith)
  covered (suc s) p q = (end_at s (omega arith)).last (omega arith)

-- ---- where all ends are good, every edge lies in the set that is named
module _ (ends : List ℕ) (sets n k : ℕ) (good : first_bad (good_end ends sets n) 0 sets ≡ None) (l : k < n) where
  abbrev ended : ℕ → Bool
  ended s = leb (get_or ends s 0) k

  -- a set starts at or below k where the one before it ends so
  starts : (s : ℕ) → ((r : ℕ) → 0 ≤ r → r < s → ended r ≡ true) → start ends s ≤ k
  starts zero before = omega arith
  starts (suc s) before = leb-true (get_or ends s 0) k (before s (omega arith) (omega arith))

  -- the last set does not end at or below k
  not_all : 0 < sets → first_bad ended 0 sets ≡ None → ⊥
  not_all p e =
      let s = sets - 1 in
      let h = leb-true (get_or ends s 0) k (all_good ended sets 0 e s (omega arith) (omega arith)) in
      omega (arith, (end_at ends sets n good s (omega arith)).last (omega arith))

  pub in_set : 0 < sets → InSet ends sets k (set_of ends sets k)
  unfolding set_of
  in_set p = go (first_bad ended 0 sets) refl
    where
      go : (f : Option ℕ) → first_bad ended 0 sets ≡ f → InSet ends sets k (unwrap_or f sets)
      go (Some s) e =
          let f = is_first ended sets 0 s e in
          record { a_set = omega (arith, f.below); from = starts s f.before; below = leb-false (get_or ends s 0) k f.bad }
      go None e = absurd (not_all p e)

-- ---- the three stages of justice
module _ (used : ℕ) (ends : List ℕ) (sets : ℕ) (edges : List ℕ) (n : ℕ) where
  pub no_sets : sets ≡ 0 → entry_found 6 (then_some (ltb 0 n) 0) ≡ first_fault (justice_stages used ends sets edges n)
  unfolding first_fault first_bad
  no_sets e = ⊎_elim some none (lt_or_le 0 n)
    where
      some : 0 < n → entry_found 6 (then_some (ltb 0 n) 0) ≡ first_fault (justice_stages used ends sets edges n)
      some l =
          let z : n ≡ 0 → ⊥ = λ q. absurd (omega arith) in
          rw (lt-ltb 0 n l, e, ne_eqb n 0 z) refl

      none : n ≤ 0 → entry_found 6 (then_some (ltb 0 n) 0) ≡ first_fault (justice_stages used ends sets edges n)
      none l = let z : n ≡ 0 = omega arith in rw (z, e) refl

  pub some_sets : (sets ≡ 0 → ⊥) → first_fault (justice_stages used ends sets edges n) ≡ first_fault (end_stage ends sets n ∷ (set_stage used ends sets edges n ∷ []))
  some_sets f =
      let l : 0 < sets = ⊎_elim (λ p. p) (λ (q : sets ≤ 0). absurd (f (omega arith))) (lt_or_le 0 sets) in
      stage_goes (no_set_stage sets n) (end_stage ends sets n ∷ (set_stage used ends sets edges n ∷ [])) (passed l)
    where
      passed : 0 < sets → found (no_set_stage sets n) ≡ None
      passed l = nothing_bad (λ (_ : ℕ). ltb 0 sets || eqb n 0) 1 0 (λ j a b. rw (lt-ltb 0 sets l))
