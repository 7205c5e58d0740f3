-- `merge` is done exactly where what is lent is right, and then makes the whole of both.
-- Assumes nothing.
use mathlib.Core.Path.{◌≡◌, refl, sym, ap, ◌∙◌}
use mathlib.Core.List.{List}
use lib.ListN.{length}
use borrow.Author.Tests.{eq-eqb, ne_eqb}
use Rattle.edge.specs.declared.answer.Given.{Given}
use Rattle.graph.specs.Graph.{Lent}
use Rattle.graph.proofs.Exactly.{room_answers}
use Rattle.two_graphs.proofs.Exactly.{two_refused, check_two_answers}
use Rattle.output.specs.Room.{has_room}
use Prim.Native.Nat.{ℕ}
use Rattle.merge.specs.Merge.{offset, summed, merged, MergeLent}
use Rattle.merge.specs.Call.{merge_checked, merge_call}
use Rattle.merge.specs.Meaning.{Whole, MergeRight}
use Rattle.merge.proofs.Call.{merge_accepted, merge_accepts}
use Rattle.merge.proofs.Shifting.{shifted_apart, behind, first_words, first_values, carried, second_values}
use Rattle.merge.proofs.Forming.{counted, first_inputs, second_inputs, first_lists, second_lists, sized, well_formed}

pub whole : (a b : Lent) (marks : ℕ) → MergeLent a b marks → Whole a b (merged a b)
whole a b marks l =
    record {
      counts = counted a b marks l;
      first_words = first_words a b marks l;
      first_values = first_values a b marks l;
      carried = carried a b marks l;
      second_values = second_values a b marks l;
      apart = λ i j h k. shifted_apart (offset a) i j;
      behind = behind a b marks l;
      first_inputs = first_inputs a b marks l;
      second_inputs = second_inputs a b marks l;
      first_lists = first_lists a b marks l;
      second_lists = second_lists a b marks l;
      sized = sized a b marks l;
      well_formed = well_formed a b marks l;
    }

module _ (a b : Lent) (marks : List ℕ) where
  number : (merge_call a b marks).given ≡ (merge_checked a b marks).given
  unfolding merge_call
  number = refl

  graph_done : (merge_checked a b marks).given.number ≡ 0 → (merge_call a b marks).graph ≡ merged a b
  unfolding merge_call
  graph_done z = rw (eq-eqb (merge_checked a b marks).given.number 0 z)

  graph_kept : ((merge_checked a b marks).given.number ≡ 0 → ⊥) → (merge_call a b marks).graph ≡ a
  unfolding merge_call
  graph_kept n = rw (ne_eqb (merge_checked a b marks).given.number 0 n)

  checked : (merge_call a b marks).given.number ≡ 0 → (merge_checked a b marks).given.number ≡ 0
  checked z = ap (λ (g : Given). g.number) (sym number) ∙ z

  pub merge_right : MergeRight a b marks
  merge_right =
      record {
        accepts = λ l. ap (λ (g : Given). g.number) (number ∙ merge_accepts a b marks l);
        accepted = λ z. merge_accepted a b marks (checked z);
        answers = unfold merge_call merge_checked in room_answers (two_refused a b) (has_room a (summed a.counts b.counts)) (check_two_answers a b marks);
        whole = λ z. rw (graph_done (checked z)) (whole a b (length marks) (merge_accepted a b marks (checked z)));
        refused = λ n. graph_kept (λ z. n (ap (λ (g : Given). g.number) number ∙ z));
      }
