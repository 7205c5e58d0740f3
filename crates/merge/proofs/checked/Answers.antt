-- `merge::checked` meets its contract.
use mathlib.Core.Path.{sym, ap, ◌∙◌}
use Rattle.edge.proofs.Answers.{handed_on}
use Rattle.graph.specs.Graph.{lent_of}
use Rattle.graph.specs.Check.{check_seen}
use Rattle.output.specs.Tables.{lent_in}
use Rattle.merge.proofs.Call.{check_stops, both_addable, check_room, check_full}
use Rattle.merge.proofs.checked.Goals as goal

pub returns-in_err-check_two : goal.returns-in_err-check_two
returns-in_err-check_two c =
    ap (λ r. check_seen r c.check_two.new.marks) (handed_on _ _ c.from_residual.ensures.1) ∙
    check_stops (lent_in c.args.tables.now c.args.counts) (lent_of c.args.other.now) c.args.marks.now _ (rw c.graph.ensures at c.check_two.ensures) c.in_err-check_two.was

pub sum-requires-clause-addable : goal.sum-requires-clause-addable
sum-requires-clause-addable c =
    (both_addable (lent_in c.args.tables.now c.args.counts) (lent_of c.args.other.now) c.args.marks.now _ (rw c.graph.ensures at c.check_two.ensures) c.in_ok-check_two.was).0

pub sum-requires-clause-addable_2 : goal.sum-requires-clause-addable_2
sum-requires-clause-addable_2 c =
    (both_addable (lent_in c.args.tables.now c.args.counts) (lent_of c.args.other.now) c.args.marks.now _ (rw c.graph.ensures at c.check_two.ensures) c.in_ok-check_two.was).1

pub returns-then-fits : goal.returns-then-fits
returns-then-fits c =
    check_room (lent_in c.args.tables.now c.args.counts) (lent_of c.args.other.now) c.args.marks.now _ (rw c.graph.ensures at c.check_two.ensures) c.in_ok-check_two.was
    (rw (c.room.ensures, c.sum.ensures) at (sym c.fits.ensures ∙ c.if-fits.true))

pub returns-else-fits : goal.returns-else-fits
returns-else-fits c =
    check_full (lent_in c.args.tables.now c.args.counts) (lent_of c.args.other.now) c.args.marks.now _ (rw c.graph.ensures at c.check_two.ensures) c.in_ok-check_two.was
    (rw (c.room.ensures, c.sum.ensures) at (sym c.fits.ensures ∙ c.if-fits.false))
