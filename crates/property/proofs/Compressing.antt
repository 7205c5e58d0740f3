-- Laws of `compress_property`: what it answers and writes.
-- Assumes nothing.
use Prim.Native.Nat.{ℕ, ◌/◌}
use native.Mathlib.Omega.{arith}
use mathlib.Core.Path.{◌≡◌, refl, sym, ap, ◌∙◌}
use mathlib.Core.Bool.{Bool, true, false, ◌&&◌}
use mathlib.Core.List.{List, []}
use lib.ListN.{length, set}
use lib.Dec.{eqb, ltb, leb}
use borrow.Author.Tests.{eqb-true, ltb-true, leb-true}
use Rattle.std.specs.Prelude.{Ok, Err}
use Rattle.edge.specs.declared.answer.Refusal.{Refusal}
use Rattle.edge.specs.declared.answer.Given.{Given}
use Rattle.edge.specs.Answers.{done, refused}
use Rattle.edge.proofs.Answers.{not_done}
use Rattle.edge.proofs.Tests.{both}
use Rattle.rows.specs.Sizes.{max_entries, rows_lent}
use Rattle.graph.specs.declared.Counts.{Counts}
use Rattle.graph.specs.Graph.{Lent, lent, Sized}
use Rattle.graph.specs.Check.{CheckSeen, check_seen}
use Rattle.gates.specs.Gates.{State, state}
use Rattle.gates.specs.Lists.{list_of}
use Rattle.gates.proofs.Listing.{list_like}
use Rattle.renumber.specs.Seen.{listed_seen}
use Rattle.property.specs.Compress.{bads_of, or_of, one_bad, compressed, compress_room, compress_checked, compress_call}
use Rattle.property.specs.Steps.{OrReady, CompressReady, Compressing}
use Rattle.property.specs.CompressMeaning.{CompressLent}
use Rattle.property.proofs.Answering.{Accepted, change_accepted}

-- how many rows the or takes does not hang on the rows, so the run on no rows tells the need
pub or_room : (g : Lent) (old : List ℕ) {need : ℕ} {t : Bool} → need ≡ (list_of false true [] g.counts.rows (bads_of g)).used
    → leb need (length g.rows / 2) && ltb 0 (length g.bads) && leb g.counts.bads (length old) ≡ t → compress_room g old ≡ t
unfolding compress_room or_of
or_room g old e h =
    let u = e ∙ (list_like false true [] g.rows g.counts.rows (bads_of g)).used in
    rw (← u) h

-- where the sizes are right, the or can be built
pub or_ready : (g : Lent) (marks : ℕ) → Sized g marks → OrReady g.counts.rows g.bads g.counts.bads
or_ready g marks s =
    record {
      few = omega (arith, s.rows.fit.within, s.rows.fit.limited);
      limited = omega (arith, s.bads.within, s.bads.limited);
      has = s.bads.within;
    }

-- what is lent, by the tests
pub lent_right : (g : Lent) (old : List ℕ) (marks : ℕ) → Accepted (leb (length old) max_entries) (compress_room g old) g marks → CompressLent g old marks
unfolding compress_room
lent_right g old marks a =
    let t = both {a = leb (or_of g).used (rows_lent g.rows) && ltb 0 (length g.bads)} {b = leb g.counts.bads (length old)} a.has_room in
    let u = both {a = leb (or_of g).used (rows_lent g.rows)} {b = ltb 0 (length g.bads)} t.0 in
    record {
      limited = leb-true (length old) max_entries a.limited;
      sized = a.sized;
      well_formed = a.well_formed;
      rows = leb-true (or_of g).used (rows_lent g.rows) u.0;
      one = ltb-true 0 (length g.bads) u.1;
      back = leb-true g.counts.bads (length old) t.1;
    }

module _ (g : Lent) (old marks : List ℕ) where
  pub compress_accepted : (compress_checked g old marks).given.number ≡ 0 → Accepted (leb (length old) max_entries) (compress_room g old) g (length marks)
  unfolding compress_checked
  compress_accepted z = change_accepted (leb (length old) max_entries) (compress_room g old) g marks z

  -- the call: `after` are the marks behind the check
  module _ (after : List ℕ) where
    pub compress_refused : (f : Refusal) → check_seen (Err f) after ≡ compress_checked g old marks → listed_seen (Err f) g old after ≡ compress_call g old marks
    unfolding compress_call
    compress_refused f seen =
        let told_so : refused f ≡ (compress_checked g old marks).given = ap (λ (s : CheckSeen). s.given) seen in
        let left : after ≡ (compress_checked g old marks).marks = ap (λ (s : CheckSeen). s.marks) seen in
        rw (← told_so, ← left, not_done f) refl

    module _ (seen : check_seen (Ok tt) after ≡ compress_checked g old marks) where
      told_so : done ≡ (compress_checked g old marks).given
      told_so = ap (λ (s : CheckSeen). s.given) seen

      left : after ≡ (compress_checked g old marks).marks
      left = ap (λ (s : CheckSeen). s.marks) seen

      is_done : eqb (compress_checked g old marks).given.number 0 ≡ true
      is_done = ap (λ (t : Given). eqb t.number 0) (sym told_so)

      pub compress_ready : CompressReady g.counts.rows g.bads g.counts.bads old
      compress_ready =
          let l = lent_right g old (length marks) (compress_accepted (eqb-true (compress_checked g old marks).given.number 0 is_done)) in
          record { or = or_ready g (length marks) l.sized; copy = record { room = l.back; has = l.sized.bads.within }; one = l.one }

      pub compress_done : (rows bads back : List ℕ) (used : ℕ) {n : Counts} → Compressing g.rows g.counts.rows g.bads g.counts.bads old rows bads back used
          → n ≡ one_bad g.counts used
          → listed_seen (Ok n) (lent rows g.inputs g.latches g.constraints bads g.outputs g.ends g.edges g.fairness n) back after ≡ compress_call g old marks
      unfolding compress_call compressed or_of
      compress_done rows bads back used {n} c e =
          let s : state rows used c.edge ≡ list_of false true g.rows g.counts.rows (bads_of g) = c.built in
          let x : rows ≡ (list_of false true g.rows g.counts.rows (bads_of g)).rows = ap (λ (t : State). t.rows) s in
          let y : used ≡ (list_of false true g.rows g.counts.rows (bads_of g)).used = ap (λ (t : State). t.used) s in
          let z : c.edge ≡ (list_of false true g.rows g.counts.rows (bads_of g)).edge = ap (λ (t : State). t.edge) s in
          let b : bads ≡ set g.bads 0 (list_of false true g.rows g.counts.rows (bads_of g)).edge = c.left ∙ ap (set g.bads 0) z in
          let m : n ≡ one_bad g.counts (list_of false true g.rows g.counts.rows (bads_of g)).used = e ∙ ap (one_bad g.counts) y in
          rw (is_done, told_so, left, x, b, m, c.back)
