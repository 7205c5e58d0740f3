-- `merge::merge` meets its contract.
use Prim.Native.Nat.{ℕ}
use native.Mathlib.Omega.{arith}
use mathlib.Core.Path.{◌≡◌, refl, ap, ◌∙◌}
use lib.ListN.{length}
use Rattle.edge.specs.Answers.{value_or}
use Rattle.graph.specs.Graph.{lent_of}
use Rattle.output.specs.Tables.{lent_in}
use Rattle.renumber.specs.Seen.{rebuilt_seen}
use Rattle.merge.specs.Merge.{MergeLent}
use Rattle.edge.proofs.Answers.{handed_on}
use Rattle.merge.proofs.Ready.{addable}
use Rattle.merge.proofs.Call.{with_counts, merge_refused, ready, merge_done}
use Rattle.merge.proofs.merge.Goals as goal
use Rattle.merge.proofs.merge.Goals.{In_ok-checked}

-- the call is accepted, where so many marks are lent
right : (c : In_ok-checked) {n : ℕ} → length c.args.marks.now ≡ n → MergeLent (lent_in c.args.tables.now c.args.counts) (lent_of c.args.other.now) n
right c = ready (lent_in c.args.tables.now c.args.counts) (lent_of c.args.other.now) c.args.marks.now _ c.checked.ensures c.in_ok-checked.was

pub returns-in_err-checked-clause-merged : goal.returns-in_err-checked-clause-merged
returns-in_err-checked-clause-merged c =
    ap (λ r. rebuilt_seen r (lent_in c.args.tables.now (value_or c.args.counts r)) c.checked.new.marks) (handed_on _ _ c.from_residual.ensures.1) ∙
    merge_refused (lent_in c.args.tables.now c.args.counts) (lent_of c.args.other.now) c.args.marks.now _ c.checked.ensures c.in_err-checked.was

pub write-requires : goal.write-requires
write-requires c = right (goal.at.write-requires c).In_ok-checked (omega (arith, c.checked.auto.marks))

pub sum-requires-clause-addable : goal.sum-requires-clause-addable
sum-requires-clause-addable c =
    addable (lent_in c.args.tables.now c.args.counts) _ (right (goal.at.sum-requires-clause-addable c).In_ok-checked refl).sized.first

pub sum-requires-clause-addable_2 : goal.sum-requires-clause-addable_2
sum-requires-clause-addable_2 c =
    addable (lent_of c.args.other.now) _ (right (goal.at.sum-requires-clause-addable_2 c).In_ok-checked refl).sized.second

pub returns-clause-merged : goal.returns-clause-merged
returns-clause-merged c =
    merge_done (lent_in c.args.tables.now c.args.counts) (lent_of c.args.other.now) c.args.marks.now _ c.checked.ensures c.in_ok-checked.was c.sum.result
    (with_counts c.sum.ensures c.write.ensures.all_written) c.write.ensures.marks_after
