-- Laws of the call: what it answers and writes.
-- Assumes nothing.
use Prim.Native.Nat.{ℕ, ◌≤◌}
use native.Mathlib.Omega.{arith}
use mathlib.Core.Path.{◌≡◌, refl, sym, ap, ◌∙◌}
use mathlib.Core.Bool.{Bool, true, false, ◌&&◌}
use mathlib.Core.List.{List, ◌++◌}
use lib.ListN.{length, take, drop, replicate, length-replicate}
use lib.Seq.{length-take-le, drop_at}
use lib.Dec.{eqb, leb}
use borrow.Author.Tests.{ne_eqb, leb-true}
use Rattle.std.specs.Prelude.{Result, Ok, Err}
use Rattle.edge.specs.declared.answer.Refusal.{Refusal}
use Rattle.edge.specs.declared.answer.Refusal.TheVariants.{BadSizes, BadArgument}
use Rattle.edge.specs.Answers.{refused, told}
use Rattle.edge.proofs.Tests.{both}
use Rattle.edge.proofs.Answers.{not_done}
use Rattle.rows.specs.Sizes.{max_entries}
use Rattle.graph.specs.Graph.{Lent, Sized, sizes_right}
use Rattle.graph.specs.Check.{contents, cleared, check_seen, check_call}
use Rattle.graph.specs.WellFormed.{WellFormed}
use Rattle.graph.proofs.Checked.{sized, check_refused_lem, check_goes}
use Rattle.graph.proofs.WellFormed.{exact}
use Rattle.root_marks.specs.Arguments.{every, args_call}
use Rattle.root_marks.proofs.Arguments.{Accepted, args_accepted, args_room, args_refused, args_done}
use Rattle.coi.specs.Coi.{steps, searched, used_row}
use Rattle.coi.specs.Steps.{LatchesKnown, CoiReady}
use Rattle.coi.specs.Call.{coi_room, coi_checked, coi_seen, coi_call}

-- ---- the answer and the marks
module _ (g : Lent) (ids : List ℕ) (flags stack : ℕ) (marks : List ℕ) where
  abbrev room : Bool
  room = coi_room g ids flags stack

  abbrev good : Bool
  good = every (used_row g.counts.rows) ids

  pub coi_accepted : (coi_checked g ids flags stack marks).given.number ≡ 0 → Accepted (coi_room g ids flags stack) (every (used_row g.counts.rows) ids) g (length marks)
  unfolding coi_checked
  coi_accepted = args_accepted room good g marks

-- the sizes of the call's own slices
pub own_sizes : (g : Lent) (ids : List ℕ) (flags stack : ℕ) → coi_room g ids flags stack ≡ true → (g.counts.rows ≤ flags) × (g.counts.rows ≤ stack) × (length ids ≤ max_entries)
own_sizes g ids flags stack h =
    let t = both {a = leb g.counts.rows flags && leb g.counts.rows stack} {b = leb (length ids) max_entries} h in
    let u = both {a = leb g.counts.rows flags} {b = leb g.counts.rows stack} t.0 in
    (leb-true _ _ u.0, leb-true _ _ u.1, leb-true _ _ t.1)

-- ---- what the flags are written from
latches_known : (g : Lent) (marks : ℕ) → Sized g marks → WellFormed g → LatchesKnown g.latches g.counts.latches g.counts.rows
latches_known g marks s w =
    record {
      long = omega (arith, s.latches.within);
      few = omega (arith, s.latches.within, s.latches.limited);
      inputs_used = λ k l. (w.latches k l).0;
      nexts_used = w.nexts;
    }

pub ready : (g : Lent) (marks : ℕ) → Sized g marks → WellFormed g → CoiReady g.rows g.latches g.counts.latches g.counts.rows
ready g marks s w =
    record {
      some = s.rows.some;
      small = omega (arith, s.rows.fit.within, s.rows.fit.limited);
      rows_long = omega (arith, s.rows.fit.within);
      latches_known = latches_known g marks s w;
    }

-- the words of a cleared list beyond the first
module _ (n : ℕ) (l : List ℕ) where
  beyond_kept : drop n (cleared n l) ≡ drop n l
  beyond_kept = drop_at (replicate n 0) (drop n l) n (length-replicate n 0)

  pub zeros_again : {m part : List ℕ} → m ≡ cleared n l → part ≡ replicate n 0 → part ++ drop n m ≡ cleared n l
  zeros_again e p = rw (e, p, beyond_kept)

-- the part of the flags that is lent on
pub record Part (g : Lent) (ids flags : List ℕ) : Type 0 where
  pub flags_part : length (take g.counts.rows flags) ≡ g.counts.rows
  pub known : CoiReady g.rows g.latches g.counts.latches (length (take g.counts.rows flags))
  pub ids_used : every (used_row (length (take g.counts.rows flags))) ids ≡ true

-- ---- the call
module _ (g : Lent) (ids flags marks stack : List ℕ) where
  abbrev own : Bool
  own = coi_room g ids (length flags) (length stack)

  abbrev ids_good : Bool
  ids_good = every (used_row g.counts.rows) ids

  -- a size is wrong
  wrong : own && sizes_right g (length marks) ≡ false → check_seen (Err BadSizes) marks ≡ coi_checked g ids (length flags) (length stack) marks
  unfolding coi_checked
  wrong h = go own refl
    where
      go : (t : Bool) → own ≡ t → check_seen (Err BadSizes) marks ≡ args_call own ids_good g marks
      go true e =
          args_refused own ids_good g marks e (Err BadSizes) marks (check_refused_lem g marks (rw e at h)) BadSizes refl
      go false e = args_room own ids_good g marks e

  pub coi_sizes : own && sizes_right g (length marks) ≡ false → coi_seen (Err BadSizes) flags marks stack ≡ coi_call g ids flags marks stack
  unfolding coi_call
  coi_sizes h = rw (← wrong h) refl

  -- the sizes are right
  module _ (right : own && sizes_right g (length marks) ≡ true) where
    roomy : own ≡ true
    roomy = (both {a = own} {b = sizes_right g (length marks)} right).0

    graph_sized : sizes_right g (length marks) ≡ true
    graph_sized = (both {a = own} {b = sizes_right g (length marks)} right).1

    -- r is what the check of the graph answers, `after` are the marks, and the stack is cleared
    module _ (r : Result Unit Refusal) {after stack' : List ℕ} (answered : told r ≡ contents g) (marks_are : after ≡ cleared g.counts.rows marks) (clear : stack' ≡ cleared g.counts.rows stack) where
      seen : check_seen r after ≡ check_call g marks
      seen = check_goes g marks r after graph_sized answered marks_are

      pub coi_refused : (f : Refusal) → r ≡ Err f → coi_seen (Err f) flags after stack' ≡ coi_call g ids flags marks stack
      unfolding coi_call coi_checked
      coi_refused f is =
          let past : eqb (refused f).number 1 ≡ false = ne_eqb (refused f).number 1 (λ o. (exact g marks).refused (rw (← seen, is) o) (sized g (length marks) graph_sized)) in
          rw (← args_refused own ids_good g marks roomy r after seen f is, past, not_done f, clear) refl

      -- the graph is well-formed
      module _ (is : r ≡ Ok tt) where
        pub coi_argument : ids_good ≡ false → coi_seen (Err BadArgument) flags after stack' ≡ coi_call g ids flags marks stack
        unfolding coi_call coi_checked
        coi_argument h = rw (← args_done own ids_good g marks roomy r after seen is (Err BadArgument) (rw h refl), clear) refl

        module _ (good : ids_good ≡ true) where
          taken : check_seen (Ok tt) after ≡ coi_checked g ids (length flags) (length stack) marks
          unfolding coi_checked
          taken = args_done own ids_good g marks roomy r after seen is (Ok tt) (rw good refl)

          pub part : Part g ids flags
          part =
              let t = coi_accepted g ids (length flags) (length stack) marks (rw (← taken) refl) in
              let e = length-take-le g.counts.rows flags (own_sizes g ids (length flags) (length stack) t.roomy).0 in
              record { flags_part = e; known = rw e (ready g (length marks) t.sized t.well_formed); ids_used = rw e t.all_good }

          pub coi_done : {x y z : List ℕ}
              → x ≡ searched (steps g.rows g.latches g.counts.latches) (length (take g.counts.rows flags)) ids
              → y ≡ replicate (length (take g.counts.rows flags)) 0
              → z ≡ replicate (length (take g.counts.rows flags)) 0
              → coi_seen (Ok tt) (x ++ drop g.counts.rows flags) (y ++ drop g.counts.rows after) (z ++ drop g.counts.rows stack') ≡ coi_call g ids flags marks stack
          unfolding coi_call
          coi_done {x} {y} {z} p q w =
              let e = part.flags_part in
              let n = g.counts.rows in
              let y' = zeros_again n marks marks_are (q ∙ ap (λ (i : ℕ). replicate i 0) e) ∙ sym marks_are in
              let z' = zeros_again n stack clear (w ∙ ap (λ (i : ℕ). replicate i 0) e) in
              let x' = p ∙ ap (λ (i : ℕ). searched (steps g.rows g.latches g.counts.latches) i ids) e in
              rw (← taken, x', y', z') refl
