-- Laws of a visit: what it does to the flags, to the rows that wait, and to the turns that are left.
-- Assumes nothing.
use Prim.Native.Nat.{ℕ, zero, suc, ◌+◌, ◌-◌, ◌≤◌, ◌<◌}
use native.Mathlib.Omega.{arith}
use native.Mathlib.Numerals.{add-one}
use native.Mathlib.Decide.{ℕ_discrete}
use mathlib.Core.Path.{◌≡◌, refl, sym, ap, subst, ◌∙◌}
use mathlib.Core.Bool.{Bool, true, false, cond}
use mathlib.Core.List.{List, [], ◌∷◌}
use lib.ListN.{length, get_or, set, replicate, length-set, length-replicate}
use lib.Seq.{get_or-set_same, get_or-set_other}
use lib.Dec.{eqb}
use borrow.Author.Tests.{eq-eqb, ne_eqb, ltb-true, lt-ltb}
use Rattle.edge.proofs.Tests.{both, both_true}
use Rattle.rows.specs.Sizes.{max_rows}
use Rattle.root_marks.specs.Arguments.{every}
use Rattle.root_marks.specs.Flags.{Flagged}
use Rattle.coi.specs.Coi.{Work, work, visited, visited_all, used_row}
use Rattle.coi.specs.Steps.{stacked, work_of, unflagged, turns_left, Going}

-- ---- the stack
pub stacked_long : (s : List ℕ) (n : ℕ) → length (stacked s n) ≡ n
unfolding stacked
stacked_long s zero = refl
stacked_long s (suc n) = ap suc (stacked_long s n)

-- a word that is not among the first n
stacked_above : (s : List ℕ) (n m j : ℕ) → n ≤ m → stacked (set s m j) n ≡ stacked s n
unfolding stacked
stacked_above s zero m j l = refl
stacked_above s (suc n) m j l = rw (get_or-set_other s m n j 0 (omega arith), stacked_above s n m j (omega arith))

pub stacked_push : (s : List ℕ) (n j : ℕ) → n < length s → stacked (set s n j) (n + 1) ≡ j ∷ stacked s n
unfolding stacked
stacked_push s n j l = rw (add-one, get_or-set_same s n j 0 l, stacked_above s n n j (omega arith))

pub stacked_top : (s : List ℕ) (n : ℕ) → 0 < n → stacked s n ≡ get_or s (n - 1) 0 ∷ stacked s (n - 1)
unfolding stacked
stacked_top s n l = let e : n ≡ suc (n - 1) = omega arith in ap (stacked s) e

-- ---- the rows that are not flagged
pub unflagged_set : (f : List ℕ) (j : ℕ) → j < length f → (Flagged f j → ⊥) → unflagged f ≡ suc (unflagged (set f j 1))
unfolding unflagged
unflagged_set [] j l h = absurd (omega arith)
unflagged_set (x ∷ f) zero l h = rw (ne_eqb x 1 h)
unflagged_set (x ∷ f) (suc j) l h = there (eqb x 1) (unflagged_set f j (omega arith) h)
  where
    there : (t : Bool) → unflagged f ≡ suc (unflagged (set f j 1)) → cond t (unflagged f) (suc (unflagged f)) ≡ suc (cond t (unflagged (set f j 1)) (suc (unflagged (set f j 1))))
    there true e = e
    there false e = ap suc e

pub unflagged_zero : (n : ℕ) → unflagged (replicate n 0) ≡ n
unfolding unflagged
unflagged_zero zero = refl
unflagged_zero (suc n) = ap suc (unflagged_zero n)

-- ---- one visit
module _ (j : ℕ) (w : Work) where
  pub visit_seen : Flagged w.flags j → visited j w ≡ w
  unfolding visited
  visit_seen m = rw (eq-eqb (get_or w.flags j 0) 1 m)

  pub visit_new : (Flagged w.flags j → ⊥) → visited j w ≡ work (set w.flags j 1) (j ∷ w.waiting)
  unfolding visited
  visit_new h = rw (ne_eqb (get_or w.flags j 0) 1 h)

  -- what holds of the work as it is, where j is flagged, and with j flagged and waiting, where not, holds after the visit
  pub visit_elim : (P : Work → Type 0) → (Flagged w.flags j → P w) → ((Flagged w.flags j → ⊥) → P (work (set w.flags j 1) (j ∷ w.waiting))) → P (visited j w)
  visit_elim P seen new = by (ℕ_discrete (get_or w.flags j 0) 1)
    where
      by : Dec (Flagged w.flags j) → P (visited j w)
      by (yes m) = subst P (sym (visit_seen m)) (seen m)
      by (no h) = subst P (sym (visit_new h)) (new h)

module _ (used space : ℕ) where
  pub visit_going : (j : ℕ) (w : Work) → j < used → Going used space w → Going used space (visited j w)
  unfolding every
  visit_going j w l g =
      visit_elim j w (λ v. Going used space v) (λ m. g)
      (λ h.
      record {
        small = g.small;
        long = length-set w.flags j 1 ∙ g.long;
        room = omega (arith, unflagged_set w.flags j (omega (arith, g.long)) h, g.room);
        rows_used = both_true {a = used_row used j} (lt-ltb j used l) g.rows_used;
      })

  pub visit_turns : (j : ℕ) (w : Work) → j < used → Going used space w → turns_left (visited j w) ≡ turns_left w
  visit_turns j w l g = visit_elim j w (λ v. turns_left v ≡ turns_left w) (λ m. refl) (λ h. omega (arith, unflagged_set w.flags j (omega (arith, g.long)) h))

  pub going_on : (j : ℕ) {w w' : Work} → w' ≡ visited j w → j < used → Going used space w → Going used space w'
  going_on j {w} {w'} e l g = subst (λ (v : Work). Going used space v) (sym e) (visit_going j w l g)

  -- ---- several visits
  pub first_used : (j : ℕ) (js : List ℕ) → every (used_row used) (j ∷ js) ≡ true → (j < used) × (every (used_row used) js ≡ true)
  unfolding every
  first_used j js h = let t = both {a = used_row used j} {b = every (used_row used) js} h in (ltb-true j used t.0, t.1)

  pub visits_going : (js : List ℕ) (w : Work) → every (used_row used) js ≡ true → Going used space w → Going used space (visited_all js w)
  unfolding visited_all
  visits_going [] w h g = g
  visits_going (j ∷ js) w h g = let t = first_used j js h in visits_going js (visited j w) t.1 (visit_going j w t.0 g)

  pub all_going_on : (js : List ℕ) {w w' : Work} → w' ≡ visited_all js w → every (used_row used) js ≡ true → Going used space w → Going used space w'
  all_going_on js {w} {w'} e h g = subst (λ (v : Work). Going used space v) (sym e) (visits_going js w h g)

  pub visits_turns : (js : List ℕ) (w : Work) → every (used_row used) js ≡ true → Going used space w → turns_left (visited_all js w) ≡ turns_left w
  unfolding visited_all
  visits_turns [] w h g = refl
  visits_turns (j ∷ js) w h g = let t = first_used j js h in visits_turns js (visited j w) t.1 (visit_going j w t.0 g) ∙ visit_turns j w t.0 g

-- no row is flagged, and none waits
pub empty_going : (used : ℕ) → used ≤ max_rows → Going used used (work (replicate used 0) [])
unfolding every
empty_going used small = record { small = small; long = length-replicate used 0; room = omega (arith, unflagged_zero used); rows_used = refl }

-- ---- a visit on slices
module _ (j : ℕ) (f s : List ℕ) (n : ℕ) where
  pub seen_on : Flagged f j → work_of f s n ≡ visited j (work_of f s n)
  seen_on m = sym (visit_seen j (work_of f s n) m)

  module _ (g : Going (length f) (length s) (work_of f s n)) (l : j < length f) (h : Flagged f j → ⊥) where
    pub push_room : n < length s
    push_room = omega (arith, g.room, stacked_long s n, unflagged_set f j l h)

    pub new_on : work_of (set f j 1) (set s n j) (n + 1) ≡ visited j (work_of f s n)
    new_on = ap (work (set f j 1)) (stacked_push s n j push_room) ∙ sym (visit_new j (work_of f s n) h)
