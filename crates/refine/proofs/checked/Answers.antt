-- `refine::checked` meets its contract.
use mathlib.Core.Path.{refl, sym, ap, ◌∙◌}
use Rattle.edge.proofs.Answers.{handed_on}
use Rattle.graph.specs.Graph.{lent_of}
use Rattle.renumber.specs.Steps.{found_seen}
use Rattle.refine.proofs.Stepping.{flags_ready, inputs_there}
use Rattle.refine.proofs.Call.{Lending, checked_refused, lending, numbers_cover, no_room_lem, all_found}
use Rattle.refine.proofs.checked.Goals as goal
use Rattle.refine.proofs.checked.Goals.{In_ok-asked}

-- the marks that are lent on
lent_on : (c : In_ok-asked) → Lending (lent_of c.args.graph.now) c.args.room c.args.old c.args.marks.now c.asked.result c.asked.ensures c.in_ok-asked.was
lent_on c = lending (lent_of c.args.graph.now) c.args.room c.args.old c.args.marks.now c.asked.result c.asked.ensures c.in_ok-asked.was

pub returns-in_err-asked : goal.returns-in_err-asked
returns-in_err-asked c =
    ap (λ r. found_seen c.args.graph.now.counts r c.asked.new.marks) (handed_on _ _ c.from_residual.ensures.1) ∙
    checked_refused (lent_of c.args.graph.now) c.args.room c.args.old c.args.marks.now c.asked.result c.asked.ensures c.in_err-asked.was

pub slice_bounds-number_kept-end : goal.slice_bounds-number_kept-end
slice_bounds-number_kept-end c = (lent_on (goal.at.slice_bounds-number_kept-end c).In_ok-asked).long

pub slice_bounds-number_kept-end-2 : goal.slice_bounds-number_kept-end-2
slice_bounds-number_kept-end-2 c = sym (lent_on (goal.at.slice_bounds-number_kept-end-2 c).In_ok-asked).part

pub number_kept-need-requires-clause-flags_ready : goal.number_kept-need-requires-clause-flags_ready
number_kept-need-requires-clause-flags_ready c =
    flags_ready (lent_of c.args.graph.now) _ (lent_on (goal.at.number_kept-need-requires-clause-flags_ready c).In_ok-asked).ready

pub number_kept-need-requires-clause-ids_there : goal.number_kept-need-requires-clause-ids_there
number_kept-need-requires-clause-ids_there c =
    inputs_there (lent_of c.args.graph.now) _ (lent_on (goal.at.number_kept-need-requires-clause-ids_there c).In_ok-asked).ready

pub returns-then-fits-need : goal.returns-then-fits-need
returns-then-fits-need c =
    all_found (lent_of c.args.graph.now) c.args.room c.args.old c.args.marks.now c.asked.result c.asked.ensures c.in_ok-asked.was c.number_kept-need.ensures.marks_after
    c.number_kept-need.ensures.value c.fits.ensures refl c.if-fits-need.true

pub clear-requires : goal.clear-requires
clear-requires c =
    numbers_cover (lent_of c.args.graph.now) c.args.room c.args.old c.args.marks.now c.asked.result c.asked.ensures c.in_ok-asked.was c.number_kept-need.ensures.marks_after

pub returns : goal.returns
returns c =
    no_room_lem (lent_of c.args.graph.now) c.args.room c.args.old c.args.marks.now c.asked.result c.asked.ensures c.in_ok-asked.was c.number_kept-need.ensures.marks_after
    c.number_kept-need.ensures.value c.fits.ensures refl c.if-fits-need.false c.clear.ensures
