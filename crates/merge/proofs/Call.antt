-- Laws of the call: what it answers and writes.
-- Assumes nothing.
use Prim.Native.Nat.{ℕ}
use native.Mathlib.Omega.{arith}
use mathlib.Core.Path.{◌≡◌, refl, ap, ◌∙◌}
use mathlib.Core.Bool.{Bool, true, false, cond}
use mathlib.Core.List.{List}
use lib.ListN.{length}
use Rattle.std.specs.Prelude.{Result, Ok, Err}
use Rattle.edge.specs.declared.answer.Refusal.{Refusal}
use Rattle.edge.specs.declared.answer.Refusal.TheVariants.{NoRoom}
use Rattle.edge.specs.declared.answer.Given.{Given}
use Rattle.edge.specs.Answers.{done, no_room, told, or_else}
use Rattle.edge.proofs.Answers.{goes_past, none_of_two, not_done, was_done, was_refused}
use Rattle.graph.specs.declared.Counts.{Counts}
use Rattle.graph.specs.Graph.{Lent, lent}
use Rattle.graph.specs.Check.{cleared, CheckSeen, check_seen}
use Rattle.graph.specs.WellFormed.{WellFormed}
use Rattle.rows.specs.Rows.{larger}
use Rattle.two_graphs.specs.Pair.{check_two_call, SizedTwo}
use Rattle.two_graphs.proofs.Pair.{cleared_fewer, larger_second, exact_two}
use Rattle.output.specs.Room.{has_room}
use Rattle.output.proofs.Fitting.{roomy, room_true}
use Rattle.merge.specs.Merge.{summed, merged, MergeLent}
use Rattle.merge.specs.Steps.{Addable}
use Rattle.renumber.specs.Seen.{rebuilt_seen}
use Rattle.merge.specs.Call.{merge_checked, merge_call}
use Rattle.merge.proofs.Ready.{addable}

-- a graph whose counts were summed
pub with_counts : {rows inputs latches constraints bads outputs ends edges fairness : List ℕ} {k n : Counts} {g : Lent} → k ≡ n
    → lent rows inputs latches constraints bads outputs ends edges fairness n ≡ g → lent rows inputs latches constraints bads outputs ends edges fairness k ≡ g
with_counts e h = rw e h

-- ---- what is accepted
module _ (a b : Lent) (marks : List ℕ) where
  abbrev fits : Bool
  fits = has_room a (summed a.counts b.counts)

  pub merge_accepted : (merge_checked a b marks).given.number ≡ 0 → MergeLent a b (length marks)
  unfolding merge_checked
  merge_accepted z =
      let t = none_of_two (check_two_call a b marks).given (cond fits done no_room) z in
      let s = (exact_two a b marks).accepted t.0 in
      record { sized = s.0; first = s.1; second = s.2; room = roomy a (summed a.counts b.counts) (has fits refl t.1) }
    where
      has : (d : Bool) → fits ≡ d → (cond d done no_room).number ≡ 0 → fits ≡ true
      has true e z = e
      has false e z = absurd (omega arith)

  pub merge_accepts : MergeLent a b (length marks) → (merge_checked a b marks).given ≡ done
  unfolding merge_checked
  merge_accepts l =
      rw ((exact_two a b marks).accepts l.sized l.first l.second, room_true a (summed a.counts b.counts) l.room)
      (goes_past done done refl)

  -- the marks are cleared over the larger of the two, and so they are cleared again
  pub still_clear : (merge_checked a b marks).given.number ≡ 0 → cleared b.counts.rows (merge_checked a b marks).marks ≡ (merge_checked a b marks).marks
  unfolding merge_checked
  still_clear z =
      let t = none_of_two (check_two_call a b marks).given (cond fits done no_room) z in
      let e = (exact_two a b marks).clear ((exact_two a b marks).accepted t.0).0 in
      rw e (cleared_fewer b.counts.rows (larger a.counts.rows b.counts.rows) marks (larger_second a.counts.rows b.counts.rows))

  -- ---- the check: r is what `check_two` answers, and `after` are the marks
  module _ (r : Result Unit Refusal) {after : List ℕ} (seen : check_seen r after ≡ check_two_call a b marks) where
    given : told r ≡ (check_two_call a b marks).given
    given = ap (λ (s : CheckSeen). s.given) seen

    kept : after ≡ (check_two_call a b marks).marks
    kept = ap (λ (s : CheckSeen). s.marks) seen

    pub check_stops : {f : Refusal} → r ≡ Err f → check_seen (Err f) after ≡ merge_checked a b marks
    unfolding merge_checked or_else
    check_stops {f} e = rw (was_refused given e, not_done f, kept) refl

    module _ (e : r ≡ Ok tt) where
      passed : (check_two_call a b marks).given.number ≡ 0
      passed = ap (λ (g : Given). g.number) (was_done given e)

      right : SizedTwo a b (length marks) × WellFormed a × WellFormed b
      right = (exact_two a b marks).accepted passed

      pub both_addable : Addable a.counts × Addable b.counts
      both_addable = (addable a (length marks) right.0.first, addable b (length marks) right.0.second)

      pub check_room : fits ≡ true → check_seen (Ok tt) after ≡ merge_checked a b marks
      unfolding merge_checked
      check_room h = rw (goes_past (check_two_call a b marks).given (cond fits done no_room) passed, h, kept) refl

      pub check_full : fits ≡ false → check_seen (Err NoRoom) after ≡ merge_checked a b marks
      unfolding merge_checked
      check_full h = rw (goes_past (check_two_call a b marks).given (cond fits done no_room) passed, h, kept) refl

  -- ---- the call: r is what the check answers
  module _ (r : Result Unit Refusal) {after : List ℕ} (seen : check_seen r after ≡ merge_checked a b marks) where
    told_so : told r ≡ (merge_checked a b marks).given
    told_so = ap (λ (s : CheckSeen). s.given) seen

    left : after ≡ (merge_checked a b marks).marks
    left = ap (λ (s : CheckSeen). s.marks) seen

    pub merge_refused : {f : Refusal} → r ≡ Err f → rebuilt_seen (Err f) a after ≡ merge_call a b marks
    unfolding merge_call
    merge_refused {f} e = rw (was_refused told_so e, not_done f, left) refl

    module _ (e : r ≡ Ok tt) where
      free : (merge_checked a b marks).given ≡ done
      free = was_done told_so e

      pub ready : {n : ℕ} → length marks ≡ n → MergeLent a b n
      ready l = rw l at (merge_accepted (ap (λ (g : Given). g.number) free))

      pub merge_done : (n : Counts) {g : Lent} {last : List ℕ} → g ≡ merged a b → last ≡ cleared b.counts.rows after → rebuilt_seen (Ok n) g last ≡ merge_call a b marks
      unfolding merge_call
      merge_done n h w = rw (free, h, w ∙ (ap (cleared b.counts.rows) left ∙ still_clear (ap (λ (g : Given). g.number) free))) refl
