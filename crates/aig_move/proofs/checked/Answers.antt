-- `aig_move::checked` meets its contract.
use mathlib.Core.Path.{ap, ◌∙◌}
use Rattle.edge.proofs.Answers.{handed_on}
use Rattle.graph.specs.Graph.{lent_of}
use Rattle.renumber.specs.Steps.{found_seen}
use Rattle.aig_move.proofs.Call.{checked_refused, to_make, few_latches, no_room_lem, all_found}
use Rattle.aig_move.proofs.checked.Goals as goal

pub returns-in_err-asked : goal.returns-in_err-asked
returns-in_err-asked c =
    ap (λ r. found_seen c.args.graph.now.counts r c.asked.new.marks) (handed_on _ _ c.from_residual.ensures.1) ∙
    checked_refused (lent_of c.args.graph.now) c.args.room c.args.marks.now _ _ c.in_err-asked.ensures

pub count_rows-requires : goal.count_rows-requires
count_rows-requires c = to_make (lent_of c.args.graph.now) c.args.room c.args.marks.now _ c.in_ok-asked.ensures

pub counts_with-need-requires : goal.counts_with-need-requires
counts_with-need-requires c = few_latches (lent_of c.args.graph.now) c.args.room c.args.marks.now _ c.in_ok-asked.ensures

pub returns-then-fits : goal.returns-then-fits
returns-then-fits c =
    all_found (lent_of c.args.graph.now) c.args.room c.args.marks.now _ c.in_ok-asked.ensures c.count_rows.ensures c.counts_with-need.ensures c.fits.ensures c.if-fits.true

pub returns-else-fits : goal.returns-else-fits
returns-else-fits c =
    no_room_lem (lent_of c.args.graph.now) c.args.room c.args.marks.now _ c.in_ok-asked.ensures c.count_rows.ensures c.counts_with-need.ensures c.fits.ensures c.if-fits.false
