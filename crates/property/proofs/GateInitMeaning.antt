-- `gate_init_to_constraint` is right.
-- Assumes nothing.
use Prim.Native.Nat.{ℕ, ◌+◌, ◌≤◌, ◌<◌}
use native.Mathlib.Omega.{arith}
use mathlib.Core.Path.{◌≡◌, refl}
use mathlib.Core.Bool.{Bool, true, false, cond, ◌&&◌, ◌||◌}
use mathlib.Core.Logic.{⊎_elim}
use mathlib.Core.List.{List}
use lib.ListN.{length}
use lib.Dec.{eqb, ltb, leb}
use borrow.Author.Tests.{eq-eqb, ne_eqb, eqb-false, lt-ltb, le-leb}
use Rattle.edge.specs.Answers.{done}
use Rattle.edge.proofs.Tests.{both_true, lt_or_le}
use Rattle.rows.specs.Sizes.{rows_lent}
use Rattle.graph.specs.Latches.{latches_lent}
use Rattle.graph.specs.Graph.{Lent}
use Rattle.gates.specs.Gates.{leaf_added}
use Rattle.graph.specs.Count.{count_below}
use Rattle.graph.proofs.Counting.{count_past, count_none, Counted, counted as counted_at}
use Rattle.property.specs.GateInit.{Part, part_of, with_part, gated_all, gated_part, none_gated, gate_init, gate_room, gate_init_checked, gate_init_call}
use Rattle.property.specs.GateInitMeaning.{gated_at, GateRoom, GateInitLent, place_of, GateInitRight}
use Rattle.property.proofs.Answering.{change_answers, change_accepts}
use Rattle.property.proofs.Constraining.{room_right, gate_init_accepted}
use Rattle.property.proofs.Making.{counted_made}
use Rattle.property.proofs.Starting.{constrained}

-- ---- what is lent, as tests
module _ (g : Lent) where
  abbrev p : Part
  p = part_of g

  count_is : (gated_all p).count ≡ place_of g g.counts.latches
  unfolding gated_all
  count_is =
      counted_made (leaf_added g.rows g.counts.rows) (g.counts.rows + 1) g.counts.rows g.latches g.constraints g.counts.constraints (omega arith) (omega arith)
      g.counts.latches

  some_gated : (i : ℕ) → i < g.counts.latches → gated_at g i ≡ true → none_gated p ≡ false
  some_gated i l e =
      ne_eqb (gated_all p).count g.counts.constraints (λ (q : (gated_all p).count ≡ g.counts.constraints). omega (arith, q, count_is, count_past (gated_at g) g.counts.latches i l e))

  none_gated_lem : ((i : ℕ) → i < g.counts.latches → gated_at g i ≡ false) → none_gated p ≡ true
  none_gated_lem h = eq-eqb (gated_all p).count g.counts.constraints (let c = count_none (gated_at g) g.counts.latches h in omega (arith, count_is, c))

  gated_latch : none_gated p ≡ false → Counted (gated_at g) g.counts.latches 0
  gated_latch e =
      let d = eqb-false (gated_all p).count g.counts.constraints e in
      counted_at (gated_at g) g.counts.latches 0
      (⊎_elim (λ (l : 0 < count_below (gated_at g) g.counts.latches). l) (λ (h : count_below (gated_at g) g.counts.latches ≤ 0). absurd (d (omega (arith, count_is))))
      (lt_or_le 0 (count_below (gated_at g) g.counts.latches)))

  abbrev fitting : Bool
  fitting = leb (gated_all p).used (rows_lent g.rows) && ltb g.counts.latches (latches_lent g.latches) && leb (gated_all p).count (length g.constraints)

  right_room : ((i : ℕ) → i < g.counts.latches → gated_at g i ≡ true → GateRoom g) → gate_room p ≡ true
  unfolding gate_room
  right_room h = go (none_gated p) refl
    where
      go : (d : Bool) → none_gated p ≡ d → d || fitting ≡ true
      go true e = refl
      go false e =
          let c = gated_latch e in
          let r = h c.at c.within c.such in
          both_true
          (both_true (le-leb (gated_all p).used (rows_lent g.rows) r.rows) (lt-ltb g.counts.latches (latches_lent g.latches) r.latches))
          (le-leb (gated_all p).count (length g.constraints) r.constraints)

module _ (g : Lent) (marks : List ℕ) where
  accepted : (gate_init_call g marks).given.number ≡ 0 → GateInitLent g (length marks)
  unfolding gate_init_call
  accepted z =
      let a = gate_init_accepted g marks z in
      record { sized = a.sized; well_formed = a.well_formed; room = λ i l e. room_right g a.has_room (some_gated g i l e) }

  nothing : none_gated (part_of g) ≡ true → (gate_init_call g marks).graph ≡ g
  unfolding gate_init_call gate_init
  nothing e = rw e (go (eqb (gate_init_checked g marks).given.number 0))
    where
      go : (d : Bool) → cond d g g ≡ g
      go true = refl
      go false = refl

  made_graph : (gate_init_call g marks).given.number ≡ 0 → none_gated (part_of g) ≡ false → (gate_init_call g marks).graph ≡ with_part g (gated_part (part_of g))
  unfolding gate_init_call gate_init
  made_graph z e = rw (eq-eqb (gate_init_checked g marks).given.number 0 z, e)

  accepts : GateInitLent g (length marks) → (gate_init_call g marks).given ≡ done
  unfolding gate_init_call gate_init_checked
  accepts l =
      change_accepts true (gate_room (part_of g)) g marks
      (record { limited = refl; sized = l.sized; well_formed = l.well_formed; has_room = right_room g l.room })

  refused : ((gate_init_call g marks).given.number ≡ 0 → ⊥) → (gate_init_call g marks).graph ≡ g
  unfolding gate_init_call
  refused n = rw (ne_eqb (gate_init_checked g marks).given.number 0 n)

  pub gate_init_right : GateInitRight g marks
  gate_init_right =
      record {
        accepts = accepts;
        accepted = accepted;
        answers = unfold gate_init_call gate_init_checked in change_answers true (gate_room (part_of g)) g marks;
        nothing = λ h. nothing (none_gated_lem g h);
        constrains = λ z i l e.
            let a = accepted z in
            rw (made_graph z (some_gated g i l e)) (constrained g (length marks) a.sized a.well_formed (a.room i l e));
        refused = refused;
      }
