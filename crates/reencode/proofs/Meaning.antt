-- `reencode` is right.
-- Assumes nothing.
use Prim.Native.Nat.{ℕ, ◌<◌}
use mathlib.Core.Path.{◌≡◌, refl, ap}
use mathlib.Core.Bool.{Bool, true, false, not, ◌&&◌}
use mathlib.Core.List.{List}
use lib.ListN.{length}
use borrow.Author.Tests.{eq-eqb, ne_eqb}
use Rattle.rows.specs.Rows.{leaf_at}
use Rattle.graph.specs.Leaves.{member}
use Rattle.graph.specs.Graph.{Lent}
use Rattle.graph.specs.WellFormed.{UsedLeaf, listed}
use Rattle.graph.proofs.Counting.{count_none}
use Rattle.graph.proofs.Exactly.{names_refused, room_answers}
use Rattle.root_marks.proofs.Arguments.{args_answers}
use Rattle.output.specs.Room.{room_in, limits, has_room}
use Rattle.output.specs.Asking.{asked_in}
use Rattle.output.proofs.Fitting.{limited, limits_true}
use Rattle.reencode.specs.Numbers.{orphan_at, orphans}
use Rattle.reencode.specs.Rebuilding.{reencoded}
use Rattle.reencode.specs.Call.{no_orphan, reencode_checked, reencode_call}
use Rattle.reencode.specs.Meaning.{ReencodeRight}
use Rattle.reencode.proofs.Call.{CallAccepted, checked_accepted, checked_accepts}
use Rattle.reencode.proofs.Mapping.{leaf_listed}
use Rattle.reencode.proofs.Result.{renewed}
use Rattle.reencode.proofs.Again.{settled}

-- every used leaf is listed: none is an orphan
all_listed : (g : Lent) → ((x : ℕ) → UsedLeaf g x → member x (listed g) ≡ true) → orphans g ≡ 0
all_listed g h = count_none (orphan_at g) g.counts.rows (λ x l. go x l (leaf_at g.rows x) refl)
  where
    go : (x : ℕ) → x < g.counts.rows → (t : Bool) → leaf_at g.rows x ≡ t → t && not (member x (listed g)) ≡ false
    go x l true e = ap not (h x (l, e))
    go x l false e = refl

module _ (g out : Lent) (marks : List ℕ) where
  graph_done : (reencode_call g out marks).given.number ≡ 0 → (reencode_call g out marks).graph ≡ reencoded g out
  unfolding reencode_call
  graph_done z = rw (eq-eqb (reencode_checked g (room_in out) marks).given.number 0 z)

  what : (reencode_call g out marks).given.number ≡ 0 → CallAccepted g out (length marks)
  unfolding reencode_call
  what z = checked_accepted g out marks z

  pub reencode_right : ReencodeRight g out marks
  unfolding reencode_call
  reencode_right =
      record {
        accepts = λ l. checked_accepts g out marks
            (record { limited = limits_true out l.limited; sized = l.sized; well_formed = l.well_formed; no_orphan_lem = all_listed g l.no_orphan_lem; room = l.room });
        accepted = λ z. let a = what z in record
            { limited = limited out a.limited; sized = a.sized; well_formed = a.well_formed; no_orphan_lem = leaf_listed g (length marks) a.sized a.well_formed a.no_orphan_lem; room = a.room };
        answers = unfold reencode_checked asked_in in room_answers (names_refused g) (has_room out g.counts) (args_answers (limits out) (no_orphan g) g marks);
        refused = λ n. rw (ne_eqb (reencode_checked g (room_in out) marks).given.number 0 n);
        renews = λ z. let a = what z in rw (graph_done z) (renewed g out (length marks) a.sized a.well_formed a.no_orphan_lem a.room (limited out a.limited));
        settles = λ z. let a = what z in rw (graph_done z) (settled g out (length marks) a.sized a.well_formed a.no_orphan_lem a.room (limited out a.limited));
      }
