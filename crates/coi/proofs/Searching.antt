-- Laws of the search by steps: what it flags is closed under steps, and is reached by them.
-- Assumes nothing.
use Prim.Native.Nat.{ℕ, zero, suc, ◌≤◌, ◌<◌}
use native.Mathlib.Omega.{arith}
use mathlib.Core.Path.{◌≡◌, refl, sym, ◌∙◌}
use mathlib.Core.Logic.{◌⊎◌, inl, inr, ⊎_elim}
use mathlib.Core.Bool.{true}
use mathlib.Core.List.Memᴰ
use mathlib.Core.List.{List, [], ◌∷◌, Memᴰ}
use lib.ListN.{length, get_or, set, replicate}
use lib.Seq.{get_or-set_same}
use borrow.Author.Tests.{lt-ltb}
use Rattle.edge.proofs.Tests.{both_true}
use Rattle.rows.specs.Sizes.{max_rows}
use Rattle.root_marks.specs.Arguments.{every}
use Rattle.root_marks.specs.Flags.{Flagged}
use Rattle.root_marks.proofs.Flagging.{Bits, set_keeps, set_cases, set_bits, zero_bits, none_flagged}
use Rattle.coi.specs.Coi.{Work, work, visited, visited_all, drained, searched, used_row}
use Rattle.coi.specs.Steps.{turns_left, Going}
use Rattle.coi.proofs.Visiting.{unflagged_zero, visit_elim, visit_going, first_used, visits_going, visits_turns, empty_going}

-- ---- rows of a list
abbrev pub On : ℕ → List ℕ → Type 0
On j js = Memᴰ j js

pub on_at : (js : List ℕ) (k : ℕ) → k < length js → On (get_or js k 0) js
on_at [] k l = absurd (omega arith)
on_at (j ∷ js) zero l = Memᴰ.head refl
on_at (j ∷ js) (suc k) l = Memᴰ.tail (on_at js k (omega arith))

-- the place of a row in a list
pub record Place (j : ℕ) (js : List ℕ) : Type 0 where
  pub at : ℕ
  pub within : at < length js
  pub same : get_or js at 0 ≡ j

pub place : {j : ℕ} (js : List ℕ) → On j js → Place j js
place [] o = absurd (Memᴰ.not-nil o)
place {j} (i ∷ js) o = ⊎_elim (λ (e : j ≡ i). record { at = 0; within = omega arith; same = sym e }) (λ (m : On j js). next (place js m)) (Memᴰ.cases_cons o)
  where
    next : Place j js → Place j (i ∷ js)
    next p = record { at = suc p.at; within = omega (arith, p.within); same = p.same }

-- ---- what one visit does
record One (j : ℕ) (w v : Work) : Type 0 where
  keeps : (i : ℕ) → Flagged w.flags i → Flagged v.flags i
  waits : (i : ℕ) → On i w.waiting → On i v.waiting
  there : Flagged v.flags j
  new : (i : ℕ) → Flagged v.flags i → Flagged w.flags i ⊎ ((i ≡ j) × On i v.waiting)
  older : (i : ℕ) → On i v.waiting → On i w.waiting ⊎ (i ≡ j)
  bits : Bits w.flags → Bits v.flags

one : (j : ℕ) (w : Work) → j < length w.flags → One j w (visited j w)
one j w l =
    visit_elim j w (λ v. One j w v) (λ m. record { keeps = λ i f. f; waits = λ i o. o; there = m; new = λ i f. inl f; older = λ i o. inl o; bits = λ b. b })
    (λ h. record {
      keeps = λ i f. set_keeps w.flags j i f;
      waits = λ i o. Memᴰ.tail o;
      there = get_or-set_same w.flags j 1 0 l;
      new = λ i f. ⊎_elim (λ (p : (i ≡ j) × Flagged (set w.flags j 1) i). inr (p.0, Memᴰ.head p.0)) (λ (e : get_or (set w.flags j 1) i 0 ≡ get_or w.flags i 0). inl (sym e ∙ f))
          (set_cases w.flags j i);
      older = λ i o. ⊎_elim (λ (e : i ≡ j). inr e) (λ (m : On i w.waiting). inl m) (Memᴰ.cases_cons o);
      bits = λ b. set_bits w.flags j b;
    })

-- ---- what several do
record Several (js : List ℕ) (w v : Work) : Type 0 where
  keeps : (i : ℕ) → Flagged w.flags i → Flagged v.flags i
  waits : (i : ℕ) → On i w.waiting → On i v.waiting
  all : (i : ℕ) → On i js → Flagged v.flags i
  new : (i : ℕ) → Flagged v.flags i → Flagged w.flags i ⊎ (On i js × On i v.waiting)
  older : (i : ℕ) → On i v.waiting → On i w.waiting ⊎ On i js
  bits : Bits w.flags → Bits v.flags

then : {j : ℕ} {js : List ℕ} {w v u : Work} → One j w v → Several js v u → Several (j ∷ js) w u
then {j} {js} {w} {v} {u} p q =
    record {
      keeps = λ i f. q.keeps i (p.keeps i f);
      waits = λ i o. q.waits i (p.waits i o);
      all = λ i o. ⊎_elim (λ (e : i ≡ j). rw e (q.keeps j p.there)) (λ (m : On i js). q.all i m) (Memᴰ.cases_cons o);
      new = λ i f. ⊎_elim
          (λ (g : Flagged v.flags i). ⊎_elim (λ (h : Flagged w.flags i). inl h) (λ (s : (i ≡ j) × On i v.waiting). inr (Memᴰ.head s.0, q.waits i s.1)) (p.new i g))
          (λ (t : On i js × On i u.waiting). inr (Memᴰ.tail t.0, t.1)) (q.new i f);
      older = λ i o. ⊎_elim (λ (m : On i v.waiting). ⊎_elim (λ (n : On i w.waiting). inl n) (λ (e : i ≡ j). inr (Memᴰ.head e)) (p.older i m)) (λ (t : On i js). inr (Memᴰ.tail t))
          (q.older i o);
      bits = λ b. q.bits (p.bits b);
    }

module _ (used : ℕ) where
  several : (js : List ℕ) (w : Work) → every (used_row used) js ≡ true → Going used used w → Several js w (visited_all js w)
  unfolding visited_all
  several [] w h g = record { keeps = λ i f. f; waits = λ i o. o; all = λ i o. absurd (Memᴰ.not-nil o); new = λ i f. inl f; older = λ i o. inl o; bits = λ b. b }
  several (j ∷ js) w h g =
      let t = first_used used used j js h in
      then (one j w (omega (arith, t.0, g.long))) (several js (visited j w) t.1 (visit_going used used j w t.0 g))

  -- ---- the search, where P holds of the rows that it starts from, and of each row one step from a row that P holds of
  module _ (next : ℕ → List ℕ) (fit : (i : ℕ) → i < used → every (used_row used) (next i) ≡ true) (P : ℕ → Type 0) (step : (i j : ℕ) → i < used → P i → On j (next i) → P j) where
    record Seeking (w : Work) : Type 0 where
      going : Going used used w
      bits : Bits w.flags
      only : (i : ℕ) → Flagged w.flags i → P i
      waiting_flagged : (i : ℕ) → On i w.waiting → Flagged w.flags i
      -- a flagged row waits, or the rows one step from it are flagged
      at : (i : ℕ) → Flagged w.flags i → On i w.waiting ⊎ ((j : ℕ) → On j (next i) → Flagged w.flags j)

    -- the flags at the end
    pub record Found (flags found : List ℕ) : Type 0 where
      pub long : length found ≡ used
      pub bits : Bits found
      pub keeps : (i : ℕ) → Flagged flags i → Flagged found i
      pub only : (i : ℕ) → Flagged found i → P i
      pub closed : (i j : ℕ) → Flagged found i → On j (next i) → Flagged found j

    -- none waits
    ended : (f : List ℕ) → Seeking (work f []) → Found f f
    ended f s =
        record {
          long = s.going.long;
          bits = s.bits;
          keeps = λ i m. m;
          only = s.only;
          closed = λ i j m o. ⊎_elim (λ (n : On i []). absurd (Memᴰ.not-nil n)) (λ (c : (j : ℕ) → On j (next i) → Flagged f j). c j o) (s.at i m);
        }

    -- row i is taken, and its steps are made
    module _ (f : List ℕ) (i : ℕ) (waiting : List ℕ) (s : Seeking (work f (i ∷ waiting))) where
      i_used : i < used
      i_used = (first_used used used i waiting s.going.rows_used).0

      rest : Going used used (work f waiting)
      rest =
          record {
            small = s.going.small;
            long = s.going.long;
            room = omega (arith, s.going.room);
            rows_used = (first_used used used i waiting s.going.rows_used).1;
          }

      abbrev after : Work
      after = visited_all (next i) (work f waiting)

      made : Several (next i) (work f waiting) after
      made = several (next i) (work f waiting) (fit i i_used) rest

      turn : Seeking after
      turn =
          record {
            going = visits_going used used (next i) (work f waiting) (fit i i_used) rest;
            bits = made.bits s.bits;
            only = λ k m. ⊎_elim (λ (h : Flagged f k). s.only k h) (λ (t : On k (next i) × On k after.waiting). step i k i_used (s.only i (s.waiting_flagged i (Memᴰ.head refl))) t.0)
                (made.new k m);
            waiting_flagged = λ k o. ⊎_elim (λ (m : On k waiting). made.keeps k (s.waiting_flagged k (Memᴰ.tail m))) (λ (m : On k (next i)). made.all k m) (made.older k o);
            at = λ k m. ⊎_elim (λ (h : Flagged f k). before k (s.at k h)) (λ (t : On k (next i) × On k after.waiting). inl t.1) (made.new k m);
          }
        where
          before : (k : ℕ) → On k (i ∷ waiting) ⊎ ((j : ℕ) → On j (next k) → Flagged f j) → On k after.waiting ⊎ ((j : ℕ) → On j (next k) → Flagged after.flags j)
          before k (inl o) = ⊎_elim (λ (e : k ≡ i). inr (λ j m. made.all j (rw e at m))) (λ (m : On k waiting). inl (made.waits k m)) (Memᴰ.cases_cons o)
          before k (inr c) = inr (λ j m. made.keeps j (c j m))

      fewer : (turns : ℕ) → turns_left (work f (i ∷ waiting)) ≤ suc turns → turns_left after ≤ turns
      fewer turns l = omega (arith, visits_turns used used (next i) (work f waiting) (fit i i_used) rest)

      kept : {found : List ℕ} → Found after.flags found → Found f found
      kept r = record { long = r.long; bits = r.bits; keeps = λ k m. r.keeps k (made.keeps k m); only = r.only; closed = r.closed }

    found : (turns : ℕ) (f waiting : List ℕ) → turns_left (work f waiting) ≤ turns → Seeking (work f waiting) → Found f (drained next turns f waiting)
    unfolding drained
    found zero f [] l s = ended f s
    found zero f (i ∷ waiting) l s = absurd (omega arith)
    found (suc turns) f [] l s = ended f s
    found (suc turns) f (i ∷ waiting) l s = kept f i waiting s (found turns (after f i waiting s).flags (after f i waiting s).waiting (fewer f i waiting s turns l) (turn f i waiting s))

    -- ---- from row 0 and the ids
    module _ (small : used ≤ max_rows) (some : 0 < used) (ids : List ℕ) (ids_used : every (used_row used) ids ≡ true) (roots : (i : ℕ) → On i (0 ∷ ids) → P i) where
      abbrev begun : Work
      begun = visited_all (0 ∷ ids) (work (replicate used 0) [])

      all_used_lem : every (used_row used) (0 ∷ ids) ≡ true
      unfolding every
      all_used_lem = both_true {a = used_row used 0} (lt-ltb 0 used some) ids_used

      visits : Several (0 ∷ ids) (work (replicate used 0) []) begun
      visits = several (0 ∷ ids) (work (replicate used 0) []) all_used_lem (empty_going used small)

      start : Seeking begun
      start =
          record {
            going = visits_going used used (0 ∷ ids) (work (replicate used 0) []) all_used_lem (empty_going used small);
            bits = visits.bits (zero_bits used);
            only = λ i m. ⊎_elim (λ (h : Flagged (replicate used 0) i). absurd (none_flagged used i h)) (λ (t : On i (0 ∷ ids) × On i begun.waiting). roots i t.0) (visits.new i m);
            waiting_flagged = λ i o. ⊎_elim (λ (m : On i []). absurd (Memᴰ.not-nil m)) (λ (m : On i (0 ∷ ids)). visits.all i m) (visits.older i o);
            at = λ i m. ⊎_elim (λ (h : Flagged (replicate used 0) i). absurd (none_flagged used i h)) (λ (t : On i (0 ∷ ids) × On i begun.waiting). inl t.1) (visits.new i m);
          }

      enough : turns_left begun ≤ used
      enough = omega (arith, visits_turns used used (0 ∷ ids) (work (replicate used 0) []) all_used_lem (empty_going used small), unflagged_zero used)

      reach : Found begun.flags (searched next used ids)
      unfolding searched
      reach = found used begun.flags begun.waiting enough start

      -- what is flagged in the end
      pub record Searched (flags : List ℕ) : Type 0 where
        pub long : length flags ≡ used
        pub bits : Bits flags
        pub roots_flagged : (i : ℕ) → On i (0 ∷ ids) → Flagged flags i
        pub only : (i : ℕ) → Flagged flags i → P i
        pub closed : (i j : ℕ) → Flagged flags i → On j (next i) → Flagged flags j

      pub search_right : Searched (searched next used ids)
      search_right = record { long = reach.long; bits = reach.bits; roots_flagged = λ i o. reach.keeps i (visits.all i o); only = reach.only; closed = reach.closed }
