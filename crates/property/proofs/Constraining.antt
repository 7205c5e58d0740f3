-- Laws of `gate_init_to_constraint`: what it answers and writes.
-- Assumes nothing.
use Prim.Native.Nat.{ℕ, ◌+◌, ◌*◌, ◌≤◌}
use native.Mathlib.Omega.{arith}
use mathlib.Core.Path.{◌≡◌, refl, sym, ap, ◌∙◌}
use mathlib.Core.Bool.{Bool, true, false, not, ◌&&◌, ◌||◌}
use mathlib.Core.Logic.{⊎_elim}
use mathlib.Core.List.{List, []}
use lib.ListN.{length}
use lib.Dec.{eqb, ltb, leb}
use borrow.Author.Tests.{not-true, not-false, eq-eqb, ne_eqb, eqb-true, ltb-true, leb-true}
use Rattle.std.specs.Prelude.{Ok, Err}
use Rattle.edge.specs.declared.answer.Refusal.{Refusal}
use Rattle.edge.specs.declared.answer.Given.{Given}
use Rattle.edge.specs.Answers.{done, refused}
use Rattle.edge.proofs.Answers.{not_done}
use Rattle.edge.proofs.Tests.{both, either, false_true}
use Rattle.rows.specs.Sizes.{max_rows, rows_lent}
use Rattle.graph.specs.declared.Counts.{Counts}
use Rattle.graph.specs.Latches.{latch_words, latches_lent, latch_set}
use Rattle.graph.specs.Graph.{Lent, Sized}
use Rattle.graph.specs.Check.{CheckSeen, check_seen}
use Rattle.graph.specs.WellFormed.{WellFormed}
use Rattle.gates.specs.Gates.{leaf_added}
use Rattle.renumber.specs.Seen.{rebuilt_seen}
use Rattle.property.specs.Steps.{any_gated, StepsReady, GateReady}
use Rattle.property.specs.GateInit.{Gating, gating, gate_steps, inits_taken, Part, part, part_of, with_part, gated_all}
use Rattle.property.specs.GateInit.{gated_counts, new_latch, gated_part, none_gated, gate_init, gate_room, gate_init_checked, gate_init_call}
use Rattle.property.specs.GateInitMeaning.{GateRoom}
use Rattle.property.proofs.Answering.{Accepted, change_accepted}
use Rattle.property.proofs.Gating.{Alike, steps_alike, none_counted, some_counted}

-- ---- the run on no rows and no constraints tells the need
module _ (p : Part) where
  abbrev used : ℕ
  used = p.counts.rows

  abbrev dry : Gating
  dry = gate_steps used p.latches (gating [] (used + 1) [] p.counts.constraints) p.counts.latches

  alike : Alike dry (gated_all p)
  unfolding gated_all
  alike =
      steps_alike used p.latches (gating [] (used + 1) [] p.counts.constraints) (gating (leaf_added p.rows used) (used + 1) p.constraints p.counts.constraints)
      (record { used = refl; count = refl }) p.counts.latches

  module _ {u k : ℕ} (e : (u ≡ dry.used) × (k ≡ dry.count)) where
    pub gate_room_lem : {t : Bool}
        → eqb k p.counts.constraints || (leb u (rows_lent p.rows) && ltb p.counts.latches (latches_lent p.latches) && leb k (length p.constraints)) ≡ t
        → gate_room p ≡ t
    unfolding gate_room
    gate_room_lem h = rw (← alike.used, ← e.0, ← alike.count, ← e.1) h

  -- d says whether there is such a latch
  module _ {d : Bool} (e : d ≡ any_gated p.latches p.counts.latches) where
    pub write_none : not d ≡ true → p ≡ gate_init p
    unfolding gate_init gated_all
    write_none h =
        let q = none_counted used p.latches (gating (leaf_added p.rows used) (used + 1) p.constraints p.counts.constraints) p.counts.latches (sym e ∙ not-true d h) in
        rw (eq-eqb (gated_all p).count p.counts.constraints q)

    some_gated : not d ≡ false → none_gated p ≡ false
    unfolding gated_all
    some_gated h =
        let q = some_counted used p.latches (gating (leaf_added p.rows used) (used + 1) p.constraints p.counts.constraints) p.counts.latches (sym e ∙ not-false d h) in
        ne_eqb (gated_all p).count p.counts.constraints (λ (z : (gated_all p).count ≡ p.counts.constraints). absurd (omega (arith, q)))

    module _ (n : not d ≡ false) where
      pub write_room : GateReady p → latch_words * (p.counts.latches + 1) ≤ length p.latches
      write_room r = r.room (some_gated n)

      pub write_done : {rows : List ℕ} (s : Gating) {latches last : List ℕ} {m : Counts} → rows ≡ leaf_added p.rows used
          → s ≡ gate_steps used p.latches (gating rows (used + 1) p.constraints p.counts.constraints) p.counts.latches
          → latches ≡ inits_taken p.latches p.counts.latches → last ≡ latch_set latches p.counts.latches (new_latch used) → m ≡ gated_counts p.counts s.used s.count
          → part s.rows last s.constraints m ≡ gate_init p
      unfolding gate_init gated_part gated_all
      write_done {rows} s a b c w f =
          let g : s ≡ gate_steps used p.latches (gating (leaf_added p.rows used) (used + 1) p.constraints p.counts.constraints) p.counts.latches = rw a at b in
          rw (some_gated n, w, c, f, g)

-- ---- where the sizes are right and the graph is well-formed, the steps can be made
pub steps_ready : (g : Lent) (marks : ℕ) → Sized g marks → WellFormed g → StepsReady (g.counts.rows + 1) g.counts.rows g.latches g.counts.latches g.counts.constraints
steps_ready g marks s w =
    let few : g.counts.rows ≤ max_rows = omega (arith, s.rows.fit.within, s.rows.fit.limited) in
    record {
      few = omega arith;
      row = few;
      limited = omega (arith, s.latches.within, s.latches.limited);
      has = omega (arith, s.latches.within);
      inputs = λ j l. omega (arith, (w.latches j l).0);
      more = omega (arith, s.constraints.within, s.constraints.limited);
    }

-- where there is something to do, the tests say that there is room for it
pub room_right : (g : Lent) → gate_room (part_of g) ≡ true → none_gated (part_of g) ≡ false → GateRoom g
unfolding gate_room
room_right g h e =
    let p = part_of g in
    ⊎_elim
    (λ (q : none_gated p ≡ true). absurd (false_true (sym e ∙ q)))
    (λ (q : leb (gated_all p).used (rows_lent g.rows) && ltb g.counts.latches (latches_lent g.latches) && leb (gated_all p).count (length g.constraints) ≡ true).
    let t = both {a = leb (gated_all p).used (rows_lent g.rows) && ltb g.counts.latches (latches_lent g.latches)} {b = leb (gated_all p).count (length g.constraints)} q in
    let u = both {a = leb (gated_all p).used (rows_lent g.rows)} {b = ltb g.counts.latches (latches_lent g.latches)} t.0 in
    record {
      rows = leb-true (gated_all p).used (rows_lent g.rows) u.0;
      latches = ltb-true g.counts.latches (latches_lent g.latches) u.1;
      constraints = leb-true (gated_all p).count (length g.constraints) t.1;
    })
    (either {a = none_gated p} h)

module _ (g : Lent) (marks : List ℕ) where
  pub gate_init_accepted : (gate_init_checked g marks).given.number ≡ 0 → Accepted true (gate_room (part_of g)) g (length marks)
  unfolding gate_init_checked
  gate_init_accepted z = change_accepted true (gate_room (part_of g)) g marks z

  -- the call: `after` are the marks behind the check
  module _ (after : List ℕ) where
    pub gate_init_refused : (f : Refusal) → check_seen (Err f) after ≡ gate_init_checked g marks → rebuilt_seen (Err f) g after ≡ gate_init_call g marks
    unfolding gate_init_call
    gate_init_refused f seen =
        let told_so : refused f ≡ (gate_init_checked g marks).given = ap (λ (s : CheckSeen). s.given) seen in
        let left : after ≡ (gate_init_checked g marks).marks = ap (λ (s : CheckSeen). s.marks) seen in
        rw (← told_so, ← left, not_done f) refl

    module _ (seen : check_seen (Ok tt) after ≡ gate_init_checked g marks) where
      told_so : done ≡ (gate_init_checked g marks).given
      told_so = ap (λ (s : CheckSeen). s.given) seen

      left : after ≡ (gate_init_checked g marks).marks
      left = ap (λ (s : CheckSeen). s.marks) seen

      is_done : eqb (gate_init_checked g marks).given.number 0 ≡ true
      is_done = ap (λ (t : Given). eqb t.number 0) (sym told_so)

      pub gate_init_ready : GateReady (part_of g)
      gate_init_ready =
          let a = gate_init_accepted (eqb-true (gate_init_checked g marks).given.number 0 is_done) in
          record {
            rows = omega (arith, a.sized.rows.fit.within, a.sized.rows.fit.limited);
            steps = steps_ready g (length marks) a.sized a.well_formed;
            room = λ e. omega (arith, (room_right g a.has_room e).latches);
          }

      pub gate_init_done : (p : Part) → p ≡ gate_init (part_of g) → rebuilt_seen (Ok p.counts) (with_part g p) after ≡ gate_init_call g marks
      unfolding gate_init_call
      gate_init_done p e = rw (is_done, told_so, left, e)
