-- Laws of the walk: its steps, its turns, and where it starts.
-- Assumes nothing.
use Prim.Native.Nat.{ℕ, zero, suc, ◌+◌, ◌-◌, ◌≤◌, ◌<◌}
use native.Mathlib.Omega.{arith}
use native.Mathlib.Numerals.{add-one}
use mathlib.Core.Path.{◌≡◌, refl, sym, ap, subst, ◌∙◌}
use mathlib.Core.Bool.{Bool, true, false, cond}
use mathlib.Core.List.{List, [], ◌∷◌}
use lib.ListN.{length, get_or, drop, replicate, drop_of_length-le}
use lib.Seq.{drop-cons}
use lib.Dec.{eqb}
use borrow.Author.Tests.{eq-eqb, ne_eqb, lt-ltb, eqb-false}
use Rattle.edge.specs.Edges.{id_of}
use Rattle.edge.proofs.Tests.{both_true}
use Rattle.rows.specs.Sizes.{max_rows}
use Rattle.rows.specs.Rows.{word0, word1, gate_at}
use Rattle.rows.proofs.Laws.{gate_below}
use Rattle.graph.specs.Latches.{latch_at}
use Rattle.root_marks.specs.Arguments.{every}
use Rattle.coi.specs.Coi.{crossed, steps_at, Work, work, visited, visited_all, drained, searched, used_row}
use Rattle.coi.specs.Steps.{stacked, work_of, turns_left, Going, steps_by, Known}
use Rattle.coi.proofs.Visiting.{stacked_long, stacked_top, unflagged_zero, first_used, visits_going, visits_turns, empty_going}

-- ---- the ids, one after the other
module _ (xs : List ℕ) (i : ℕ) (w : Work) where
  pub visits_end : length xs ≤ i → visited_all (drop i xs) w ≡ w
  unfolding visited_all
  visits_end l = rw (drop_of_length-le xs l)

  pub visits_turn : i < length xs → visited_all (drop i xs) w ≡ visited_all (drop (i + 1) xs) (visited (get_or xs i 0) w)
  unfolding visited_all
  visits_turn l = rw (add-one, drop-cons xs i 0)

-- ---- the steps of row i
module _ (rows latches : List ℕ) (at i : ℕ) where
  pub gate_steps_lem : gate_at rows i ≡ true → (w : Work) → visited (id_of (word1 rows i)) (visited (id_of (word0 rows i)) w) ≡ visited_all (steps_at rows latches at i) w
  unfolding steps_at visited_all
  gate_steps_lem g w = rw g

  pub no_steps : gate_at rows i ≡ false → at ≡ 0 → (w : Work) → w ≡ visited_all (steps_at rows latches at i) w
  unfolding steps_at visited_all
  no_steps g z w = rw (g, eq-eqb at 0 z)

  pub latch_steps : gate_at rows i ≡ false → (at ≡ 0 → ⊥) → (w : Work) → visited (id_of (latch_at latches (at - 1)).next) w ≡ visited_all (steps_at rows latches at i) w
  unfolding steps_at visited_all
  latch_steps g z w = rw (g, ne_eqb at 0 z)

  -- they are used, where the latch's next is
  pub steps_used : (used : ℕ) → i < used → (0 < at → id_of (latch_at latches (at - 1)).next < used) → every (used_row used) (steps_at rows latches at i) ≡ true
  unfolding steps_at every
  steps_used used l h = go (gate_at rows i) refl
    where
      cross : (t : Bool) → eqb at 0 ≡ t → every (used_row used) (cond t [] (id_of (latch_at latches (at - 1)).next ∷ [])) ≡ true
      cross true e = refl
      cross false e = let z = eqb-false at 0 e in both_true {a = used_row used (id_of (latch_at latches (at - 1)).next)} (lt-ltb _ _ (h (omega arith))) refl

      go : (t : Bool) → gate_at rows i ≡ t → every (used_row used) (cond t (id_of (word0 rows i) ∷ (id_of (word1 rows i) ∷ [])) (crossed latches at)) ≡ true
      go true g =
          let b = gate_below i (word0 rows i) (word1 rows i) g in
          both_true {a = used_row used (id_of (word0 rows i))} (lt-ltb (id_of (word0 rows i)) used (omega arith))
          (both_true {a = used_row used (id_of (word1 rows i))} (lt-ltb (id_of (word1 rows i)) used (omega arith)) refl)
      go false g = cross (eqb at 0) refl

pub known_used : (rows latches marks : List ℕ) (used : ℕ) → Known rows latches marks used → (i : ℕ) → i < used → every (used_row used) (steps_by rows latches marks i) ≡ true
known_used rows latches marks used k i l = steps_used rows latches (get_or marks i 0) i used l (k.next_used i)

-- ---- one turn: the last row on the stack is taken, and its steps are made
module _ (used space : ℕ) (f s : List ℕ) (n : ℕ) (l : 0 < n) (g : Going used space (work_of f s n)) where
  split : every (used_row used) (get_or s (n - 1) 0 ∷ stacked s (n - 1)) ≡ true
  split = rw (stacked_top s n l) at g.rows_used

  pub top_used : get_or s (n - 1) 0 < used
  top_used = (first_used used space (get_or s (n - 1) 0) (stacked s (n - 1)) split).0

  pub rest_going : Going used space (work_of f s (n - 1))
  rest_going =
      record {
        small = g.small;
        long = g.long;
        room = omega (arith, g.room, stacked_long s n, stacked_long s (n - 1));
        rows_used = (first_used used space (get_or s (n - 1) 0) (stacked s (n - 1)) split).1;
      }

  module _ (next : ℕ → List ℕ) (fit : (i : ℕ) → i < used → every (used_row used) (next i) ≡ true) (f' s' : List ℕ) (n' : ℕ)
      (e : work_of f' s' n' ≡ visited_all (next (get_or s (n - 1) 0)) (work_of f s (n - 1))) where
    pub turn_going : Going used space (work_of f' s' n')
    turn_going = subst (λ (w : Work). Going used space w) (sym e) (visits_going used space (next (get_or s (n - 1) 0)) (work_of f s (n - 1)) (fit _ top_used) rest_going)

    turn_left : turns_left (work_of f' s' n') ≡ turns_left (work_of f s (n - 1))
    turn_left = ap (λ (w : Work). turns_left w) e ∙ visits_turns used space (next (get_or s (n - 1) 0)) (work_of f s (n - 1)) (fit _ top_used) rest_going

    pub turn_falls : suc (turns_left (work_of f' s' n')) ≡ turns_left (work_of f s n)
    turn_falls = omega (arith, turn_left, stacked_long s n, stacked_long s (n - 1))

    pub turn_same : drained next (turns_left (work_of f' s' n')) f' (stacked s' n') ≡ drained next (turns_left (work_of f s n)) f (stacked s n)
    unfolding drained
    turn_same =
        ap (λ (w : Work). drained next (turns_left (work_of f' s' n')) w.flags w.waiting) e
        ∙ (ap (λ (t : List ℕ). drained next (suc (turns_left (work_of f' s' n'))) f t) (sym (stacked_top s n l)) ∙ ap (λ (t : ℕ). drained next t f (stacked s n)) turn_falls)

-- none waits
pub drained_none : (next : ℕ → List ℕ) (turns : ℕ) (f s : List ℕ) (n : ℕ) → n ≤ 0 → drained next turns f (stacked s n) ≡ f
unfolding drained stacked
drained_none next turns f s n l = let z : n ≡ 0 = omega arith in rw z (go turns)
  where
    go : (t : ℕ) → drained next t f [] ≡ f
    go zero = refl
    go (suc t) = refl

-- ---- where the walk starts: no row is flagged, and none waits
module _ (used : ℕ) (f s : List ℕ) (e : f ≡ replicate used 0) where
  start_is_lem : work_of f s 0 ≡ work (replicate used 0) []
  unfolding stacked
  start_is_lem = ap (λ (l : List ℕ). work l []) e

  pub start_going : used ≤ max_rows → Going used used (work_of f s 0)
  start_going small = subst (λ (w : Work). Going used used w) (sym start_is_lem) (empty_going used small)

  -- row 0 is visited, then the ids, and then the steps are made
  pub walked : used ≤ max_rows → 0 < used → (next : ℕ → List ℕ) (ids : List ℕ) → every (used_row used) ids ≡ true
      → {v w : Work} → v ≡ visited 0 (work_of f s 0) → w ≡ visited_all ids v → drained next (turns_left w) w.flags w.waiting ≡ searched next used ids
  unfolding searched visited_all
  walked small some next ids h {v} {w} p q =
      let u = visited_all (0 ∷ ids) (work (replicate used 0) []) in
      let is : w ≡ u = q ∙ ap (λ (x : Work). visited_all ids x) (p ∙ ap (visited 0) start_is_lem) in
      let all : every (used_row used) (0 ∷ ids) ≡ true = unfold every in both_true {a = used_row used 0} (lt-ltb 0 used some) h in
      let n : turns_left u ≡ used = omega (arith, visits_turns used used (0 ∷ ids) (work (replicate used 0) []) all (empty_going used small), unflagged_zero used) in
      ap (λ (x : Work). drained next (turns_left x) x.flags x.waiting) is ∙ ap (λ (m : ℕ). drained next m u.flags u.waiting) n
