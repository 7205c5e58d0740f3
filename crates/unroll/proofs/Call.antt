-- Laws of the call: what it answers and writes.
-- Assumes nothing.
use Prim.Native.Nat.{ℕ, ◌≤◌}
use native.Mathlib.Omega.{arith}
use mathlib.Core.Path.{◌≡◌, refl, sym, ap, ◌∙◌}
use mathlib.Core.Bool.{Bool, true, false, cond}
use mathlib.Core.List.{List}
use lib.ListN.{length}
use Rattle.std.specs.Prelude.{Result, Ok, Err, Option, Some, None}
use Rattle.std.specs.Option.{unwrap_or, ok_or}
use Rattle.edge.specs.declared.answer.Refusal.{Refusal}
use Rattle.edge.specs.declared.answer.Refusal.TheVariants.{BadArgument, NoRoom}
use Rattle.edge.specs.declared.answer.Given.{Given}
use Rattle.edge.specs.Answers.{done, bad_argument, no_room, told, or_else, value_or}
use Rattle.edge.proofs.Answers.{goes_past, none_of_two, not_done, was_done, was_refused}
use Rattle.graph.specs.declared.Counts.{Counts}
use Rattle.graph.specs.Graph.{Lent, Sized}
use Rattle.graph.specs.Check.{cleared, CheckSeen, check_seen}
use Rattle.rows.specs.Rows.{larger}
use Rattle.two_graphs.specs.Pair.{check_two_call, SizedTwo}
use Rattle.two_graphs.proofs.Pair.{cleared_fewer, larger_second, exact_two}
use Rattle.frame.specs.Frame.{framed, frame_fits}
use Rattle.frame.specs.Call.{FrameReady, FrameSeen, frame_seen, frame_call}
use Rattle.renumber.specs.Seen.{rebuilt_seen}
use Rattle.unroll.specs.Unroll.{same_start, unroll_checked, unroll_answer, unroll_call}
use Rattle.unroll.proofs.Starting.{start_same}

-- the same graph with other marks that cover it
pub covered : (g : Lent) {m n : ℕ} → Sized g m → g.counts.rows ≤ n → Sized g n
covered g s h =
    record {
      rows = s.rows;
      marked = h;
      inputs = s.inputs;
      latches = s.latches;
      constraints = s.constraints;
      bads = s.bads;
      outputs = s.outputs;
      ends = s.ends;
      edges = s.edges;
      fairness = s.fairness;
    }

-- ---- what is accepted
module _ (a b : Lent) (marks : List ℕ) where
  abbrev same : Given
  same = cond (same_start a b) done bad_argument

  pub checked_ready : (unroll_checked a b marks).given.number ≡ 0 → FrameReady a b (length marks)
  unfolding unroll_checked
  checked_ready z =
      let t = none_of_two (check_two_call a b marks).given same z in
      let s = (exact_two a b marks).accepted t.0 in
      record {
        target = covered a s.0.first (omega arith);
        from = s.0.second;
        target_formed = s.1;
        from_formed = s.2;
        start = start_same a b (has (same_start a b) refl t.1);
      }
    where
      has : (d : Bool) → same_start a b ≡ d → (cond d done bad_argument).number ≡ 0 → same_start a b ≡ true
      has true e z = e
      has false e z = absurd (omega arith)

  -- the marks are cleared over the larger of the two, and so they are cleared again
  still_clear : (unroll_checked a b marks).given.number ≡ 0 → cleared b.counts.rows (unroll_checked a b marks).marks ≡ (unroll_checked a b marks).marks
  unfolding unroll_checked
  still_clear z =
      let t = none_of_two (check_two_call a b marks).given same z in
      let e = (exact_two a b marks).clear ((exact_two a b marks).accepted t.0).0 in
      rw e (cleared_fewer b.counts.rows (larger a.counts.rows b.counts.rows) marks (larger_second a.counts.rows b.counts.rows))

  -- ---- the check: r is what `check_two` answers, and `after` are the marks
  module _ (r : Result Unit Refusal) {after : List ℕ} (seen : check_seen r after ≡ check_two_call a b marks) where
    given : told r ≡ (check_two_call a b marks).given
    given = ap (λ (s : CheckSeen). s.given) seen

    kept : after ≡ (check_two_call a b marks).marks
    kept = ap (λ (s : CheckSeen). s.marks) seen

    pub check_stops : {f : Refusal} → r ≡ Err f → check_seen (Err f) after ≡ unroll_checked a b marks
    unfolding unroll_checked or_else
    check_stops {f} e = rw (was_refused given e, not_done f, kept) refl

    module _ (e : r ≡ Ok tt) where
      passed : (check_two_call a b marks).given.number ≡ 0
      passed = ap (λ (g : Given). g.number) (was_done given e)

      pub both_sized : SizedTwo a b (length marks)
      both_sized = ((exact_two a b marks).accepted passed).0

      pub check_same : same_start a b ≡ true → check_seen (Ok tt) after ≡ unroll_checked a b marks
      unfolding unroll_checked
      check_same h = rw (goes_past (check_two_call a b marks).given same passed, h, kept) refl

      pub check_differs : same_start a b ≡ false → check_seen (Err BadArgument) after ≡ unroll_checked a b marks
      unfolding unroll_checked
      check_differs h = rw (goes_past (check_two_call a b marks).given same passed, h, kept) refl

  -- ---- the call: r is what the check answers
  module _ (r : Result Unit Refusal) {after : List ℕ} (seen : check_seen r after ≡ unroll_checked a b marks) where
    told_so : told r ≡ (unroll_checked a b marks).given
    told_so = ap (λ (s : CheckSeen). s.given) seen

    left : after ≡ (unroll_checked a b marks).marks
    left = ap (λ (s : CheckSeen). s.marks) seen

    pub unroll_refused : {f : Refusal} → r ≡ Err f → rebuilt_seen (Err f) a after ≡ unroll_call a b marks
    unfolding unroll_call unroll_answer or_else
    unroll_refused {f} e = rw (was_refused told_so e, not_done f, not_done f, left) refl

    module _ (e : r ≡ Ok tt) where
      free : (unroll_checked a b marks).given.number ≡ 0
      free = ap (λ (g : Given). g.number) (was_done told_so e)

      pub ready : {n : ℕ} → length marks ≡ n → FrameReady a b n
      ready l = rw l at (checked_ready free)

      -- o is what the step answers, and `lend` the target's words with the counts
      module _ (lend : Counts → Lent) (n : Counts) {last : List ℕ} where
        pub unroll_done : (o : Option Counts) → frame_seen o (lend (unwrap_or o n)) last ≡ frame_call a b after
            → rebuilt_seen (ok_or o NoRoom) (lend (value_or n (ok_or o NoRoom))) last ≡ unroll_call a b marks
        unfolding unroll_call unroll_answer frame_call
        unroll_done (Some k) w =
            let f : frame_fits a b ≡ true = sym (ap (λ (s : FrameSeen). s.fits) w) in
            let g : lend k ≡ framed a b = ap (λ (s : FrameSeen). s.graph) w ∙ rw f in
            let m : last ≡ cleared b.counts.rows after = ap (λ (s : FrameSeen). s.marks) w in
            rw (goes_past (unroll_checked a b marks).given (cond (frame_fits a b) done no_room) free, f, g, m ∙ (ap (cleared b.counts.rows) left ∙ still_clear free)) refl
        unroll_done None w =
            let f : frame_fits a b ≡ false = sym (ap (λ (s : FrameSeen). s.fits) w) in
            let g : lend n ≡ a = ap (λ (s : FrameSeen). s.graph) w ∙ rw f in
            let m : last ≡ cleared b.counts.rows after = ap (λ (s : FrameSeen). s.marks) w in
            rw (goes_past (unroll_checked a b marks).given (cond (frame_fits a b) done no_room) free, f, g, m ∙ (ap (cleared b.counts.rows) left ∙ still_clear free)) refl
