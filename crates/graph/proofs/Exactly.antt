-- The answers of a call are those of document 01's table, each exactly in its case: of the check itself, then with what a call looks at behind it.
-- Assumes nothing.
use Prim.Native.Nat.{ℕ, ◌≤◌, ◌<◌}
use native.Mathlib.Omega.{arith}
use native.Mathlib.Nat.{eq-or-lt_of_le}
use mathlib.Core.Path.{◌≡◌, refl, sym, ap, ◌∙◌}
use mathlib.Core.Bool.{Bool, true, false, cond}
use mathlib.Core.Logic.{⊎_elim}
use mathlib.Core.List.{List}
use lib.ListN.{length}
use lib.Dec.{eqb}
use borrow.Author.Tests.{eqb-true, eqb-false}
use Rattle.edge.specs.declared.answer.Given.{Given}
use Rattle.edge.specs.Answers.{done, bad_sizes, bad_argument, no_room, or_else}
use Rattle.edge.proofs.Tests.{false_true, lt_or_le}
use Rattle.edge.proofs.Answers.{stops_here, goes_past}
use Rattle.graph.specs.Graph.{Lent, Sized, sizes_right}
use Rattle.graph.specs.Stages.{Stage, AllClean, Names}
use Rattle.graph.specs.Stages.AllClean.{more}
use Rattle.graph.specs.Stages.Names.{here, later}
use Rattle.graph.specs.Check.{CheckSeen, stages, check_call}
use Rattle.graph.specs.WellFormed.{WellFormed}
use Rattle.graph.specs.Exactly.{Exactly, all_right, wrong_sizes, faulty, wrong_argument, full, Answered, Answers}
use Rattle.graph.proofs.Checked.{sized}
use Rattle.graph.proofs.WellFormed.{sizes_true, row_or_entry, exact}

-- ---- behind an answer
module _ {sizes formed : Type 0} {fault : Given → Type 0} (refused : (p : Given) → fault p → p.number ≡ 0 → ⊥) where
  -- 4 where an argument is wrong
  then_argument : (good : Bool) {p : Given} → Exactly sizes formed fault true true p → Exactly sizes formed fault good true (or_else p (cond good done bad_argument))
  then_argument good (all_right s f h r) = rw (goes_past done (cond good done bad_argument) refl) (go good refl)
    where
      go : (d : Bool) → good ≡ d → Exactly sizes formed fault good true (cond d done bad_argument)
      go true e = all_right s f e refl
      go false e = wrong_argument s f e
  then_argument good (wrong_sizes w) = rw (stops_here bad_sizes (cond good done bad_argument) (λ (z : ◌≡◌ {A = ℕ} 1 0). omega arith)) (wrong_sizes w)
  then_argument good (faulty {p} s n x) = rw (stops_here p (cond good done bad_argument) (refused p x)) (faulty s n x)
  then_argument good (wrong_argument s f h) = absurd (false_true (sym h))
  then_argument good (full s f h r) = absurd (false_true (sym r))

  -- 5 where there is no room
  then_room : {good : Bool} (room : Bool) {p : Given} → Exactly sizes formed fault good true p → Exactly sizes formed fault good room (or_else p (cond room done no_room))
  then_room {good} room (all_right s f h r) = rw (goes_past done (cond room done no_room) refl) (go room refl)
    where
      go : (d : Bool) → room ≡ d → Exactly sizes formed fault good room (cond d done no_room)
      go true e = all_right s f h e
      go false e = full s f h e
  then_room room (wrong_sizes w) = rw (stops_here bad_sizes (cond room done no_room) (λ (z : ◌≡◌ {A = ℕ} 1 0). omega arith)) (wrong_sizes w)
  then_room room (faulty {p} s n x) = rw (stops_here p (cond room done no_room) (refused p x)) (faulty s n x)
  then_room room (wrong_argument s f h) = rw (stops_here bad_argument (cond room done no_room) (λ (z : ◌≡◌ {A = ℕ} 4 0). omega arith)) (wrong_argument s f h)
  then_room room (full s f h r) = absurd (false_true (sym r))

-- ---- the marks: no answer behind the first is 1
one_first : (p q : Given) → p.number ≡ 1 → (or_else p q).number ≡ 1
one_first p q z = rw (stops_here p q (λ (o : p.number ≡ 0). absurd (omega arith))) z

one_only : (p q : Given) → (q.number ≡ 1 → ⊥) → (or_else p q).number ≡ 1 → p.number ≡ 1
unfolding or_else
one_only p q n = go (eqb p.number 0)
  where
    go : (t : Bool) → (cond t q p).number ≡ 1 → p.number ≡ 1
    go true z = absurd (n z)
    go false z = z

never_one : (b : Bool) (q : Given) → (q.number ≡ 1 → ⊥) → (cond b done q).number ≡ 1 → ⊥
never_one true q n z = omega arith
never_one false q n z = n z

module _ {sizes formed : Type 0} {fault : Given → Type 0} (refused : (p : Given) → fault p → p.number ≡ 0 → ⊥) {used : ℕ} {marks : List ℕ} {p : Given} {after : List ℕ} where
  pub argument_answers : (good : Bool) → Answered sizes formed fault true true used marks p after → Answered sizes formed fault good true used marks (or_else p (cond good done bad_argument)) after
  argument_answers good a = record {
    exactly = then_argument refused good a.exactly;
    untouched = λ z. a.untouched (one_only p (cond good done bad_argument) (never_one good bad_argument (λ (o : ◌≡◌ {A = ℕ} 4 1). omega arith)) z);
    zeroed = λ n. a.zeroed (λ z. n (one_first p (cond good done bad_argument) z));
  }

  pub room_answers :
      {good : Bool} (room : Bool) → Answered sizes formed fault good true used marks p after → Answered sizes formed fault good room used marks (or_else p (cond room done no_room)) after
  room_answers room a = record {
    exactly = then_room refused room a.exactly;
    untouched = λ z. a.untouched (one_only p (cond room done no_room) (never_one room no_room (λ (o : ◌≡◌ {A = ℕ} 5 1). omega arith)) z);
    zeroed = λ n. a.zeroed (λ z. n (one_first p (cond room done no_room) z));
  }

-- ---- the check
module _ (g : Lent) (marks : List ℕ) where
  pub check_answers : Answered (Sized g (length marks)) (WellFormed g) (Names (stages g)) true true g.counts.rows marks (check_call g marks).given (check_call g marks).marks
  check_answers = record { exactly = by_sizes (sizes_right g (length marks)) refl; untouched = (exact g marks).untouched; zeroed = (exact g marks).clear }
    where
      formed :
          Sized g (length marks) → (t : Bool) → eqb (check_call g marks).given.number 0 ≡ t → Exactly (Sized g (length marks)) (WellFormed g) (Names (stages g)) true true
          (check_call g marks).given
      formed s true e = let w = ((exact g marks).accepted (eqb-true _ _ e)).1 in rw ((exact g marks).accepts s w) (all_right s w refl refl)
      formed s false e =
          let n : WellFormed g → ⊥ = λ w. eqb-false _ _ e (ap (λ (p : Given). p.number) ((exact g marks).accepts s w)) in
          faulty s n ((exact g marks).names s n)

      by_sizes : (t : Bool) → sizes_right g (length marks) ≡ t → Exactly (Sized g (length marks)) (WellFormed g) (Names (stages g)) true true (check_call g marks).given
      by_sizes true e = formed (sized g (length marks) e) (eqb (check_call g marks).given.number 0) refl
      by_sizes false e = let n : Sized g (length marks) → ⊥ = λ s. false_true (sym e ∙ sizes_true g (length marks) s) in rw ((exact g marks).refuses n) (wrong_sizes n)

pub names_refused : (g : Lent) (p : Given) → Names (stages g) p → p.number ≡ 0 → ⊥
names_refused g p names z = ⊎_elim (λ t. omega (arith, t.0, z)) (λ t. omega (arith, t.0, z)) (row_or_entry g names)

-- the same cases by other words for the sizes
resized : {S T formed : Type 0} {fault : Given → Type 0} {good room : Bool} {p : Given} → (S → T) → (T → S) → Exactly S formed fault good room p → Exactly T formed fault good room p
resized there back (all_right s f h r) = all_right (there s) f h r
resized there back (wrong_sizes w) = wrong_sizes (λ t. w (back t))
resized there back (faulty s n x) = faulty (there s) n x
resized there back (wrong_argument s f h) = wrong_argument (there s) f h
resized there back (full s f h r) = full (there s) f h r

-- with the sizes of the slices that a call has beside the graph
pub own_answers : (own : Bool) {good room : Bool} (g : Lent) (marks : List ℕ) (seen : CheckSeen)
    → Answered (Sized g (length marks)) (WellFormed g) (Names (stages g)) good room g.counts.rows marks seen.given seen.marks
    → Answers own good room g marks (cond own seen (record { given = bad_sizes; marks = marks })).given (cond own seen (record { given = bad_sizes; marks = marks })).marks
own_answers true g marks seen a = record { exactly = resized (λ s. (refl, s)) (λ t. t.1) a.exactly; untouched = a.untouched; zeroed = a.zeroed }
own_answers false g marks seen a = record { exactly = wrong_sizes (λ t. false_true t.0); untouched = λ z. refl; zeroed = λ n. absurd (n refl) }

-- ---- one case only: what holds of what is lent fixes the answer
module _ {sizes formed : Type 0} {fault : Given → Type 0} (one-fault : sizes → (p q : Given) → fault p → fault q → p ≡ q) {good room : Bool} where
  pub exactly_one : {p q : Given} → Exactly sizes formed fault good room p → Exactly sizes formed fault good room q → p ≡ q
  exactly_one (all_right s f h r) (all_right s' f' h' r') = refl
  exactly_one (all_right s f h r) (wrong_sizes w) = absurd (w s)
  exactly_one (all_right s f h r) (faulty s' n x) = absurd (n f)
  exactly_one (all_right s f h r) (wrong_argument s' f' h') = absurd (false_true (sym h' ∙ h))
  exactly_one (all_right s f h r) (full s' f' h' r') = absurd (false_true (sym r' ∙ r))
  exactly_one (wrong_sizes w) (all_right s f h r) = absurd (w s)
  exactly_one (wrong_sizes w) (wrong_sizes w') = refl
  exactly_one (wrong_sizes w) (faulty s n x) = absurd (w s)
  exactly_one (wrong_sizes w) (wrong_argument s f h) = absurd (w s)
  exactly_one (wrong_sizes w) (full s f h r) = absurd (w s)
  exactly_one (faulty s n x) (all_right s' f h r) = absurd (n f)
  exactly_one (faulty s n x) (wrong_sizes w) = absurd (w s)
  exactly_one {p} {q} (faulty s n x) (faulty s' n' y) = one-fault s p q x y
  exactly_one (faulty s n x) (wrong_argument s' f h) = absurd (n f)
  exactly_one (faulty s n x) (full s' f h r) = absurd (n f)
  exactly_one (wrong_argument s f h) (all_right s' f' h' r) = absurd (false_true (sym h ∙ h'))
  exactly_one (wrong_argument s f h) (wrong_sizes w) = absurd (w s)
  exactly_one (wrong_argument s f h) (faulty s' n x) = absurd (n f)
  exactly_one (wrong_argument s f h) (wrong_argument s' f' h') = refl
  exactly_one (wrong_argument s f h) (full s' f' h' r) = absurd (false_true (sym h ∙ h'))
  exactly_one (full s f h r) (all_right s' f' h' r') = absurd (false_true (sym r ∙ r'))
  exactly_one (full s f h r) (wrong_sizes w) = absurd (w s)
  exactly_one (full s f h r) (faulty s' n x) = absurd (n f)
  exactly_one (full s f h r) (wrong_argument s' f' h') = absurd (false_true (sym h' ∙ h))
  exactly_one (full s f h r) (full s' f' h' r') = refl

-- a first fault is one
first_of : (good : ℕ → Bool) (i j : ℕ) → good i ≡ false → ((k : ℕ) → k < i → good k ≡ true) → good j ≡ false → ((k : ℕ) → k < j → good k ≡ true) → i ≡ j
first_of good i j b before c earlier =
    ⊎_elim
    (λ (l : i < j). absurd (false_true (sym b ∙ earlier i l)))
    (λ (h : j ≤ i). ⊎_elim (λ (q : j ≡ i). sym q) (λ (l : j < i). absurd (false_true (sym c ∙ before j l))) (eq-or-lt_of_le h))
    (lt_or_le i j)

pub names_one : {ss : List Stage} (p q : Given) → Names ss p → Names ss q → p ≡ q
names_one p q (here {s} i l b before) (here j m c earlier) = ap s.bad (first_of s.good i j b before c earlier)
names_one p q (here i l b before) (later clean names) = absurd (false_true (sym b ∙ clean i l))
names_one p q (later clean names) (here j m c earlier) = absurd (false_true (sym c ∙ clean j m))
names_one p q (later clean names) (later also others) = names_one p q names others

-- where the first graph is well-formed it has no fault
pub no_fault : {ss : List Stage} {p : Given} → AllClean ss → Names ss p → ⊥
no_fault (more c all) (here i l b before) = false_true (sym b ∙ c i l)
no_fault (more c all) (later clean names) = no_fault all names
no_fault {p = p} Rattle.graph.specs.Stages.nothing x3 = elim x3 [ ]
