-- Laws of the call: what it answers and writes.
-- Assumes nothing.
use Prim.Native.Nat.{ℕ, ◌+◌, ◌<◌}
use native.Mathlib.Omega.{arith}
use mathlib.Core.Path.{◌≡◌, refl, sym, ap, ◌∙◌}
use mathlib.Core.Bool.{Bool, true, false, cond}
use mathlib.Core.List.{List}
use lib.ListN.{length, get_or}
use lib.Dec.{eqb}
use borrow.Author.Tests.{eq-eqb, ne_eqb, eqb-true, eqb-false}
use Rattle.std.specs.Prelude.{Result, Ok, Err}
use Rattle.edge.specs.declared.answer.Refusal.{Refusal}
use Rattle.edge.specs.declared.answer.Refusal.TheVariants.{BadSizes, BadArgument, NoRoom}
use Rattle.edge.specs.declared.answer.Given.{Given}
use Rattle.edge.specs.Answers.{done, bad_argument, no_room, refused, told, or_else}
use Rattle.edge.proofs.Answers.{goes_past, none_of_two, not_done, was_done, was_refused}
use Rattle.rows.specs.Rows.{leaf_at}
use Rattle.graph.specs.declared.Counts.{Counts}
use Rattle.graph.specs.Graph.{Lent, Sized}
use Rattle.graph.specs.Leaves.{member}
use Rattle.graph.specs.Check.{cleared, CheckSeen, check_seen, check_call}
use Rattle.graph.specs.WellFormed.{WellFormed}
use Rattle.graph.proofs.Marked.{marks_none, cleared_again}
use Rattle.root_marks.specs.Arguments.{args_call}
use Rattle.graph.specs.Count.{count_below}
use Rattle.output.specs.Room.{room_in, limits_in, limits, fits_in, has_room, Room}
use Rattle.output.specs.Asking.{asked_in}
use Rattle.output.proofs.Fitting.{roomy, room_true}
use Rattle.output.proofs.Asking.{asked_accepted, asked_accepts, asked_cleared}
use Rattle.reencode.specs.Numbers.{orphans}
use Rattle.reencode.specs.Rebuilding.{reencoded}
use Rattle.reencode.specs.Steps.{ReencodeReady}
use Rattle.renumber.specs.Seen.{rebuilt_seen}
use Rattle.reencode.specs.Call.{no_orphan, reencode_asked, reencode_checked, reencode_call}
use Rattle.reencode.proofs.Leaving.{leaves_counted}

-- ---- the answer, and the marks
module _ (g : Lent) (room : Counts) (marks : List ℕ) where
  abbrev first : CheckSeen
  first = asked_in true g room marks

  -- 1 to 3 come before 4
  asked_first : (good : Bool) (f : Refusal) → first.given ≡ refused f → asked_in good g room marks ≡ first
  unfolding asked_in args_call or_else
  asked_first good f e = go (limits_in room) (eqb (check_call g marks).given.number 0) e
    where
      go : (r t : Bool) → (cond r (record { given = cond t done (check_call g marks).given; marks = (check_call g marks).marks }) (check_seen (Err BadSizes) marks)).given ≡ refused f
          → cond r (record { given = cond t (cond good done bad_argument) (check_call g marks).given; marks = (check_call g marks).marks }) (check_seen (Err BadSizes) marks) ≡
          cond r (record { given = cond t done (check_call g marks).given; marks = (check_call g marks).marks }) (check_seen (Err BadSizes) marks)
      go true true e = absurd (eqb-false _ _ (not_done f) (ap (λ (t : Given). t.number) (sym e)))
      go true false e = refl
      go false t e = refl

  -- and where none of them is left
  asked_then : (good : Bool) → first.given ≡ done → asked_in good g room marks ≡ record { given = cond good done bad_argument; marks = first.marks }
  unfolding asked_in args_call or_else
  asked_then good e = go (limits_in room) (eqb (check_call g marks).given.number 0) refl e
    where
      go : (r t : Bool) → eqb (check_call g marks).given.number 0 ≡ t
          → (cond r (record { given = cond t done (check_call g marks).given; marks = (check_call g marks).marks }) (check_seen (Err BadSizes) marks)).given ≡ done
          → cond r (record { given = cond t (cond good done bad_argument) (check_call g marks).given; marks = (check_call g marks).marks }) (check_seen (Err BadSizes) marks) ≡
          record {
            given = cond good done bad_argument;
            marks = (cond r (record { given = cond t done (check_call g marks).given; marks = (check_call g marks).marks }) (check_seen (Err BadSizes) marks)).marks;
          }
      go true true q e = refl
      go true false q e = absurd (eqb-false _ _ q (ap (λ (t : Given). t.number) e))
      go false t q e = absurd (omega (arith, ap (λ (t : Given). t.number) e))

  module _ (a : Result Unit Refusal) {after : List ℕ} (seen : check_seen a after ≡ first) where
    given : told a ≡ first.given
    given = ap (λ (s : CheckSeen). s.given) seen

    kept : after ≡ first.marks
    kept = ap (λ (s : CheckSeen). s.marks) seen

    pub first_refused : {f : Refusal} → a ≡ Err f → check_seen (Err f) after ≡ reencode_checked g room marks
    unfolding reencode_checked or_else
    first_refused {f} e = rw (asked_first (no_orphan g) f (was_refused given e), was_refused given e, not_done f, kept) refl

    module _ (e : a ≡ Ok tt) where
      clean : first.given ≡ done
      clean = was_done given e

      pub accepted : Sized g (length marks) × WellFormed g
      accepted = let t = asked_accepted true g room marks (ap (λ (s : Given). s.number) clean) in (t.sized, t.well_formed)

      module _ {n : ℕ} (count : n ≡ count_below (leaf_at g.rows) g.counts.rows) where
        counted : n ≡ g.counts.inputs + g.counts.latches + orphans g
        counted = count ∙ leaves_counted g (length marks) accepted.0 accepted.1

        pub orphan_found : (n ≡ g.counts.inputs + g.counts.latches → ⊥) → check_seen (Err BadArgument) after ≡ reencode_checked g room marks
        unfolding reencode_checked or_else
        orphan_found m =
            let o : eqb (orphans g) 0 ≡ false = ne_eqb (orphans g) 0 (λ (z : orphans g ≡ 0). m (omega (arith, counted))) in
            rw (asked_then (no_orphan g) clean, o, kept) refl

        module _ (m : n ≡ g.counts.inputs + g.counts.latches) where
          none_left : orphans g ≡ 0
          none_left = omega (arith, counted)

          -- then the room decides
          pub room_missed : fits_in room g.counts ≡ false → check_seen (Err NoRoom) after ≡ reencode_checked g room marks
          unfolding reencode_checked or_else
          room_missed h = rw (asked_then (no_orphan g) clean, eq-eqb (orphans g) 0 none_left, h, kept) refl

          pub room_found : fits_in room g.counts ≡ true → check_seen (Ok tt) after ≡ reencode_checked g room marks
          unfolding reencode_checked or_else
          room_found h = rw (asked_then (no_orphan g) clean, eq-eqb (orphans g) 0 none_left, h, kept) refl

-- ---- what is lent is right, there is no orphan, and there is room
pub record CallAccepted (g out : Lent) (marks : ℕ) : Type 0 where
  pub limited : limits out ≡ true
  pub sized : Sized g marks
  pub well_formed : WellFormed g
  pub no_orphan_lem : orphans g ≡ 0
  pub room : Room out g.counts

module _ (g out : Lent) (marks : List ℕ) where
  room_told : (cond (has_room out g.counts) done no_room).number ≡ 0 → has_room out g.counts ≡ true
  room_told = go (has_room out g.counts)
    where
      go : (t : Bool) → (cond t done no_room).number ≡ 0 → t ≡ true
      go true z = refl
      go false z = absurd (omega arith)

  pub checked_accepted : (reencode_checked g (room_in out) marks).given.number ≡ 0 → CallAccepted g out (length marks)
  unfolding reencode_checked
  checked_accepted z =
      let t = none_of_two (reencode_asked g (room_in out) marks).given (cond (has_room out g.counts) done no_room) z in
      let u = asked_accepted (no_orphan g) g (room_in out) marks t.0 in
      record { limited = u.roomy; sized = u.sized; well_formed = u.well_formed; no_orphan_lem = eqb-true (orphans g) 0 u.all_good; room = roomy out g.counts (room_told t.1) }

  pub checked_accepts : CallAccepted g out (length marks) → (reencode_checked g (room_in out) marks).given ≡ done
  unfolding reencode_checked
  checked_accepts a =
      let t = asked_accepts (no_orphan g) g (room_in out) marks (record { roomy = a.limited; all_good = eq-eqb (orphans g) 0 a.no_orphan_lem; sized = a.sized; well_formed = a.well_formed }) in
      rw (t, room_true out g.counts a.room) (goes_past done done refl)

  pub checked_cleared : (reencode_checked g (room_in out) marks).given.number ≡ 0 → (reencode_checked g (room_in out) marks).marks ≡ cleared g.counts.rows marks
  unfolding reencode_checked
  checked_cleared z =
      let t = none_of_two (reencode_asked g (room_in out) marks).given (cond (has_room out g.counts) done no_room) z in
      asked_cleared (no_orphan g) g (room_in out) marks (λ (o : (reencode_asked g (room_in out) marks).given.number ≡ 1). absurd (omega (arith, t.0)))

zero_mark : (n : ℕ) (marks : List ℕ) (x : ℕ) → x < n → eqb (get_or (cleared n marks) x 0) 0 ≡ true
unfolding member
zero_mark n marks x l = marks_none n marks x l

-- ---- the call: a is the answer, and `after` are the marks
module _ (g out : Lent) (marks : List ℕ) (a : Result Unit Refusal) {after : List ℕ} (seen : check_seen a after ≡ reencode_checked g (room_in out) marks) where
  told_so : told a ≡ (reencode_checked g (room_in out) marks).given
  told_so = ap (λ (s : CheckSeen). s.given) seen

  marks_so : after ≡ (reencode_checked g (room_in out) marks).marks
  marks_so = ap (λ (s : CheckSeen). s.marks) seen

  pub call_refused : {f : Refusal} → a ≡ Err f → rebuilt_seen (Err f) out after ≡ reencode_call g out marks
  unfolding reencode_call
  call_refused {f} e = rw (was_refused told_so e, not_done f, marks_so) refl

  module _ (e : a ≡ Ok tt) where
    is_done : (reencode_checked g (room_in out) marks).given ≡ done
    is_done = was_done told_so e

    number : (reencode_checked g (room_in out) marks).given.number ≡ 0
    number = ap (λ (t : Given). t.number) is_done

    pub marks_cleared : after ≡ cleared g.counts.rows marks
    marks_cleared = marks_so ∙ checked_cleared g out marks number

    pub call_ready : length after ≡ length marks → ReencodeReady g out after
    call_ready l =
        let t = checked_accepted g out marks number in
        record {
          marked = length marks;
          sized = t.sized;
          marks_long = omega (arith, t.sized.marked);
          well_formed = t.well_formed;
          no_orphan_lem = t.no_orphan_lem;
          room = t.room;
          zeros = λ x m. rw marks_cleared (eqb-true (get_or (cleared g.counts.rows marks) x 0) 0 (zero_mark g.counts.rows marks x m));
        }

    pub call_done : (n : Counts) {graph : Lent} → graph ≡ reencoded g out → {last : List ℕ} → last ≡ cleared g.counts.rows after → rebuilt_seen (Ok n) graph last ≡ reencode_call g out marks
    unfolding reencode_call
    call_done n p {last} q =
        let m : last ≡ (reencode_checked g (room_in out) marks).marks = q ∙
        (ap (cleared g.counts.rows) marks_cleared ∙ (cleared_again g.counts.rows marks (cleared g.counts.rows marks) refl ∙ (sym marks_cleared ∙ marks_so))) in
        rw (is_done, p, m) refl
