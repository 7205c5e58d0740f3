-- `reencode::checked` meets its contract.
use native.Mathlib.Omega.{arith}
use mathlib.Core.Path.{sym, ap, ◌∙◌}
use lib.ListN.{length}
use Rattle.edge.proofs.Answers.{handed_on}
use Rattle.graph.specs.Graph.{lent_of, Sized}
use Rattle.graph.specs.Check.{check_seen}
use Rattle.graph.specs.WellFormed.{WellFormed}
use Rattle.reencode.proofs.Call.{first_refused, accepted, orphan_found, room_missed, room_found}
use Rattle.reencode.proofs.checked.Goals as goal
use Rattle.reencode.proofs.checked.Goals.{In_ok-asked}

-- what is lent is right
right : (c : In_ok-asked) → Sized (lent_of c.args.graph.now) (length c.args.marks.now) × WellFormed (lent_of c.args.graph.now)
right c = accepted (lent_of c.args.graph.now) c.args.room c.args.marks.now c.asked.result c.asked.ensures c.in_ok-asked.was

pub returns-in_err-asked : goal.returns-in_err-asked
returns-in_err-asked c =
    ap (λ r. check_seen r c.asked.new.marks) (handed_on _ _ c.from_residual.ensures.1) ∙
    first_refused (lent_of c.args.graph.now) c.args.room c.args.marks.now c.asked.result c.asked.ensures c.in_err-asked.was

pub count_leaves-requires-clause-used_in_bounds : goal.count_leaves-requires-clause-used_in_bounds
count_leaves-requires-clause-used_in_bounds c = omega (arith, (right (goal.at.count_leaves-requires-clause-used_in_bounds c).In_ok-asked).0.rows.fit.within)

pub count_leaves-requires-clause-used_le_max_rows : goal.count_leaves-requires-clause-used_le_max_rows
count_leaves-requires-clause-used_le_max_rows c =
    let s = (right (goal.at.count_leaves-requires-clause-used_le_max_rows c).In_ok-asked).0 in
    omega (arith, s.rows.fit.within, s.rows.fit.limited)

pub count_leaves-requires-clause-all_rows : goal.count_leaves-requires-clause-all_rows
count_leaves-requires-clause-all_rows c = (right (goal.at.count_leaves-requires-clause-all_rows c).In_ok-asked).1.rows

pub overflow_add-counts : goal.overflow_add-counts
overflow_add-counts c =
    let s = (right (goal.at.overflow_add-counts c).In_ok-asked).0 in
    omega (arith, s.inputs.within, s.inputs.limited, s.latches.within, s.latches.limited)

pub returns-then-count_leaves-counts : goal.returns-then-count_leaves-counts
returns-then-count_leaves-counts c =
    orphan_found (lent_of c.args.graph.now) c.args.room c.args.marks.now c.asked.result c.asked.ensures c.in_ok-asked.was c.count_leaves.ensures c.if-count_leaves-counts.true

pub returns-then-fits : goal.returns-then-fits
returns-then-fits c =
    room_found (lent_of c.args.graph.now) c.args.room c.args.marks.now c.asked.result c.asked.ensures c.in_ok-asked.was c.count_leaves.ensures c.if-count_leaves-counts.false
    (sym c.fits.ensures ∙ c.if-fits.true)

pub returns-else-fits : goal.returns-else-fits
returns-else-fits c =
    room_missed (lent_of c.args.graph.now) c.args.room c.args.marks.now c.asked.result c.asked.ensures c.in_ok-asked.was c.count_leaves.ensures c.if-count_leaves-counts.false
    (sym c.fits.ensures ∙ c.if-fits.false)
