-- The flags of `coi_of` are those of the rows reached from row 0 and the ids, and the call writes them.
-- Assumes nothing.
use Prim.Native.Nat.{ℕ, suc, ◌+◌, ◌-◌, ◌<◌}
use native.Mathlib.Omega.{arith}
use mathlib.Core.Path.{◌≡◌, refl, sym, ◌∙◌}
use mathlib.Core.Logic.{⊎_elim}
use mathlib.Core.Bool.{Bool, true, false, cond, ◌&&◌}
use mathlib.Core.List.Memᴰ
use mathlib.Core.List.{List, [], ◌∷◌, ◌++◌}
use lib.ListN.{length, get_or, drop}
use lib.Dec.{eqb, leb}
use borrow.Author.Tests.{ltb-true, lt-ltb, le-leb, eq-eqb, ne_eqb, eqb-false}
use Rattle.edge.specs.Edges.{id_of}
use Rattle.edge.proofs.Tests.{both_true}
use Rattle.rows.specs.Rows.{word0, word1, gate_at}
use Rattle.rows.proofs.Value.{leaf_no_gate}
use Rattle.graph.specs.Latches.{latch_at}
use Rattle.graph.specs.Graph.{Lent, Sized}
use Rattle.graph.specs.Check.{cleared}
use Rattle.graph.specs.WellFormed.{WellFormed}
use Rattle.graph.proofs.Listed.{all_long, latch_at_lem}
use Rattle.root_marks.specs.Arguments.{every}
use Rattle.root_marks.specs.Flags.{Flagged, Closed}
use Rattle.root_marks.proofs.Arguments.{every_at, at_every, args_accepts, args_answers}
use Rattle.root_marks.proofs.Flagging.{same_flags, same_value}
use Rattle.coi.specs.Coi.{latch_of, crossed, steps_at, steps, coi_of, used_row}
use Rattle.coi.specs.Call.{coi_room, coi_checked, coi_call}
use Rattle.coi.specs.Meaning.{Reached, IsCoi, CoiLent, CoiRight}
use Rattle.coi.specs.Meaning.Reached.{always, root, left, right, latch}
use Rattle.coi.proofs.Walking.{steps_used}
use Rattle.coi.proofs.Linking.{Of, latch_of_lem, latch_found}
use Rattle.coi.proofs.Linking.Of.{no_latch_lem, is_latch}
use Rattle.coi.proofs.Searching.{On, on_at, Place, place, Searched, search_right}
use Rattle.coi.proofs.Call.{coi_accepted, own_sizes, ready}

-- ---- the rows one step from row i
module _ (rows latches : List ℕ) (at i : ℕ) where
  -- how row j is one step from it
  data Step (j : ℕ) : Type 0 where
    by_left : gate_at rows i ≡ true → j ≡ id_of (word0 rows i) → Step j
    by_right : gate_at rows i ≡ true → j ≡ id_of (word1 rows i) → Step j
    by_latch : (at ≡ 0 → ⊥) → j ≡ id_of (latch_at latches (at - 1)).next → Step j

  step_is : (j : ℕ) → On j (steps_at rows latches at i) → Step j
  unfolding steps_at
  step_is j = go (gate_at rows i) refl
    where
      cross : (t : Bool) → eqb at 0 ≡ t → On j (cond t [] (id_of (latch_at latches (at - 1)).next ∷ [])) → Step j
      cross true e o = absurd (Memᴰ.not-nil o)
      cross false e o = ⊎_elim (λ (q : j ≡ id_of (latch_at latches (at - 1)).next). by_latch (eqb-false at 0 e) q) (λ (m : On j []). absurd (Memᴰ.not-nil m)) (Memᴰ.cases_cons o)

      second : gate_at rows i ≡ true → On j (id_of (word1 rows i) ∷ []) → Step j
      second g o = ⊎_elim (λ (q : j ≡ id_of (word1 rows i)). by_right g q) (λ (m : On j []). absurd (Memᴰ.not-nil m)) (Memᴰ.cases_cons o)

      go : (t : Bool) → gate_at rows i ≡ t → On j (cond t (id_of (word0 rows i) ∷ (id_of (word1 rows i) ∷ [])) (crossed latches at)) → Step j
      go true g o = ⊎_elim (λ (q : j ≡ id_of (word0 rows i)). by_left g q) (λ (m : On j (id_of (word1 rows i) ∷ [])). second g m) (Memᴰ.cases_cons o)
      go false g o = cross (eqb at 0) refl o

  left_on : gate_at rows i ≡ true → On (id_of (word0 rows i)) (steps_at rows latches at i)
  unfolding steps_at
  left_on g = rw g (Memᴰ.head refl)

  right_on : gate_at rows i ≡ true → On (id_of (word1 rows i)) (steps_at rows latches at i)
  unfolding steps_at
  right_on g = rw g (Memᴰ.tail (Memᴰ.head refl))

  latch_on : gate_at rows i ≡ false → (k : ℕ) → at ≡ suc k → On (id_of (latch_at latches k).next) (steps_at rows latches at i)
  unfolding steps_at
  latch_on g k e =
      let z : at ≡ 0 → ⊥ = λ (o : at ≡ 0). absurd (omega arith) in
      let p : at - 1 ≡ k = omega arith in
      rw (g, ne_eqb at 0 z, p) (Memᴰ.head refl)

-- ---- a well-formed graph of right sizes
module _ (g : Lent) (marks : ℕ) (s : Sized g marks) (w : WellFormed g) where
  abbrev used : ℕ
  used = g.counts.rows

  abbrev next : ℕ → List ℕ
  next = steps g.rows g.latches g.counts.latches

  -- no two latches have one input
  once : (k l : ℕ) → k < l → l < g.counts.latches → (latch_at g.latches k).input ≡ (latch_at g.latches l).input → ⊥
  once k l p q e =
      let n = g.counts.inputs in
      let at = latch_at_lem g.inputs n g.latches g.counts.latches s.inputs.within in
      let long = all_long g.inputs n g.latches g.counts.latches s.inputs.within in
      w.once (n + k) (n + l) (omega arith) (omega (arith, long)) (at k (omega arith) ∙ (e ∙ sym (at l q)))

  -- a latch's input is no gate
  input_no_gate : (k : ℕ) → k < g.counts.latches → gate_at g.rows (latch_at g.latches k).input ≡ false
  input_no_gate k l =
      let t = w.latches k l in
      leaf_no_gate _ _ _ (omega (arith, t.0, s.rows.fit.within, s.rows.fit.limited)) t.1

  next_used : (i : ℕ) → i < used → every (used_row used) (next i) ≡ true
  next_used i l = steps_used g.rows g.latches (latch_of g.latches g.counts.latches i) i used l (go (latch_of_lem g.latches g.counts.latches i))
    where
      go : {at : ℕ} → Of g.latches g.counts.latches i at → 0 < at → id_of (latch_at g.latches (at - 1)).next < used
      go no_latch_lem h = absurd (omega arith)
      go (is_latch k m e) h = let p : suc k - 1 ≡ k = omega arith in rw p (w.nexts k m)

  module _ (ids : List ℕ) (ids_used : every (used_row used) ids ≡ true) where
    abbrev Reach : ℕ → Type 0
    Reach j = Reached g ids j

    -- a step from a reached row reaches a row
    step : (i j : ℕ) → i < used → Reach i → On j (next i) → Reach j
    step i j l r o = by (latch_of_lem g.latches g.counts.latches i) (step_is g.rows g.latches (latch_of g.latches g.counts.latches i) i j o)
      where
        cross : {at : ℕ} → Of g.latches g.counts.latches i at → (at ≡ 0 → ⊥) → j ≡ id_of (latch_at g.latches (at - 1)).next → Reach j
        cross no_latch_lem z q = absurd (z refl)
        cross (is_latch k m e) z q =
            let p : suc k - 1 ≡ k = omega arith in
            rw (q, p) (latch k m (rw e r))

        by : Of g.latches g.counts.latches i (latch_of g.latches g.counts.latches i) → Step g.rows g.latches (latch_of g.latches g.counts.latches i) i j → Reach j
        by f (by_left h q) = rw q (left r h)
        by f (by_right h q) = rw q (right r h)
        by f (by_latch z q) = cross f z q

    roots : (i : ℕ) → On i (0 ∷ ids) → Reach i
    roots i o = ⊎_elim (λ (e : i ≡ 0). rw e always) (λ (m : On i ids). by (place ids m)) (Memᴰ.cases_cons o)
      where
        by : Place i ids → Reach i
        by p = rw (← p.same) (root p.at p.within)

    abbrev cone : List ℕ
    cone = coi_of g ids

    right_search : Searched used next next_used Reach step (ready g marks s w).small (ready g marks s w).some ids ids_used roots cone
    right_search = search_right used next next_used Reach step (ready g marks s w).small (ready g marks s w).some ids ids_used roots

    closed : Closed g.rows cone
    closed i m h =
        let t = right_search.closed i in
        (t _ m (left_on g.rows g.latches (latch_of g.latches g.counts.latches i) i h), t _ m (right_on g.rows g.latches (latch_of g.latches g.counts.latches i) i h))

    across : (k : ℕ) → k < g.counts.latches → Flagged cone (latch_at g.latches k).input → Flagged cone (id_of (latch_at g.latches k).next)
    across k l m =
        let i = (latch_at g.latches k).input in
        right_search.closed i _ m (latch_on g.rows g.latches (latch_of g.latches g.counts.latches i) i (input_no_gate k l) k (latch_found g.latches g.counts.latches once k l))

    reached : {j : ℕ} → Reach j → Flagged cone j
    reached always = right_search.roots_flagged 0 (Memᴰ.head refl)
    reached (root k l) = right_search.roots_flagged (get_or ids k 0) (Memᴰ.tail (on_at ids k l))
    reached (left {i} r h) = (closed i (reached r) h).0
    reached (right {i} r h) = (closed i (reached r) h).1
    reached (latch k l r) = across k l (reached r)

    pub is_coi : IsCoi g ids cone
    is_coi =
        record {
          one_each = record { long = right_search.long; bits = right_search.bits };
          reached = λ j r. reached r;
          only = right_search.only;
          closed = closed;
          crossed = across;
          values = λ other leaf leaf' agree k l. same_value g.rows cone closed other leaf leaf' agree (get_or ids k 0) (reached (root k l));
        }

pub one_coi : (g : Lent) (ids a b : List ℕ) → IsCoi g ids a → IsCoi g ids b → a ≡ b
one_coi g ids a b p q = same_flags a b p.one_each q.one_each (λ j m. q.reached j (p.only j m)) (λ j m. p.reached j (q.only j m))

-- ---- the call
module _ (g : Lent) (ids flags marks stack : List ℕ) where
  checked : {n : ℕ} → (coi_call g ids flags marks stack).given.number ≡ n → (coi_checked g ids (length flags) (length stack) marks).given.number ≡ n
  unfolding coi_call
  checked z = z

  accepted : (coi_call g ids flags marks stack).given.number ≡ 0 → CoiLent g ids flags marks stack
  accepted z =
      let t = coi_accepted g ids (length flags) (length stack) marks (checked z) in
      let l = own_sizes g ids (length flags) (length stack) t.roomy in
      record {
        sized = t.sized;
        flags_long = l.0;
        stack_long = l.1;
        ids_few = l.2;
        well_formed = t.well_formed;
        ids_used = λ k m. ltb-true _ _ (every_at (used_row g.counts.rows) ids t.all_good k m);
      }

  accepts : CoiLent g ids flags marks stack → (coi_call g ids flags marks stack).given.number ≡ 0
  unfolding coi_call coi_checked
  accepts c =
      let both : leb g.counts.rows (length flags) && leb g.counts.rows (length stack) ≡ true = both_true {a = leb g.counts.rows (length flags)} (le-leb _ _ c.flags_long)
      (le-leb _ _ c.stack_long) in
      let room : coi_room g ids (length flags) (length stack) ≡ true = both_true {a = leb g.counts.rows (length flags) && leb g.counts.rows (length stack)} both
      (le-leb _ _ c.ids_few) in
      let good = at_every (used_row g.counts.rows) ids (λ k l. lt-ltb _ _ (c.ids_used k l)) in
      rw
      (args_accepts (coi_room g ids (length flags) (length stack)) (every (used_row g.counts.rows) ids) g marks
      (record { roomy = room; all_good = good; sized = c.sized; well_formed = c.well_formed }))

  written : (coi_call g ids flags marks stack).given.number ≡ 0 → (coi_call g ids flags marks stack).flags ≡ coi_of g ids ++ drop g.counts.rows flags
  unfolding coi_call
  written z = rw (eq-eqb (coi_checked g ids (length flags) (length stack) marks).given.number 0 z)

  untouched : (coi_call g ids flags marks stack).given.number ≡ 1 → (coi_call g ids flags marks stack).stack ≡ stack
  unfolding coi_call
  untouched z = rw (eq-eqb (coi_checked g ids (length flags) (length stack) marks).given.number 1 z)

  zeroed : ((coi_call g ids flags marks stack).given.number ≡ 1 → ⊥) → (coi_call g ids flags marks stack).stack ≡ cleared g.counts.rows stack
  unfolding coi_call
  zeroed h = rw (ne_eqb (coi_checked g ids (length flags) (length stack) marks).given.number 1 h)

  pub coi_right : CoiRight g ids flags marks stack
  coi_right =
      record {
        accepts = accepts;
        accepted = accepted;
        answers = unfold coi_call coi_checked in args_answers (coi_room g ids (length flags) (length stack)) (every (used_row g.counts.rows) ids) g marks;
        writes = λ z.
            let t = coi_accepted g ids (length flags) (length stack) marks (checked z) in
            record { cone = coi_of g ids; is_coi = is_coi g (length marks) t.sized t.well_formed ids t.all_good; written = written z };
        one = one_coi g ids;
        untouched = untouched;
        zeroed = zeroed;
      }
