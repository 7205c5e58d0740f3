-- `unroll::unroll` meets its contract.
use mathlib.Core.Path.{sym, ap, ◌∙◌}
use Rattle.edge.specs.Answers.{value_or}
use Rattle.edge.proofs.Answers.{handed_on}
use Rattle.graph.specs.Graph.{lent_of}
use Rattle.output.specs.Tables.{lent_in}
use Rattle.renumber.specs.Seen.{rebuilt_seen}
use Rattle.unroll.proofs.Call.{unroll_refused, ready, unroll_done}
use Rattle.unroll.proofs.unroll.Goals as goal

pub returns-in_err-checked-clause-unrolled : goal.returns-in_err-checked-clause-unrolled
returns-in_err-checked-clause-unrolled c =
    ap (λ r. rebuilt_seen r (lent_in c.args.tables.now (value_or c.args.counts r)) c.checked.new.marks) (handed_on _ _ c.from_residual.ensures.1) ∙
    unroll_refused (lent_in c.args.tables.now c.args.counts) (lent_of c.args.graph.now) c.args.marks.now _ (rw c.graph.ensures at c.checked.ensures) c.in_err-checked.was

pub add_frame-requires : goal.add_frame-requires
add_frame-requires c =
    ready (lent_in c.args.tables.now c.args.counts) (lent_of c.args.graph.now) c.args.marks.now _ (rw c.graph.ensures at c.checked.ensures) c.in_ok-checked.was (sym c.checked.auto.marks)

pub returns-clause-unrolled : goal.returns-clause-unrolled
returns-clause-unrolled c =
    rw c.ok_or.ensures.value
    (unroll_done (lent_in c.args.tables.now c.args.counts) (lent_of c.args.graph.now) c.args.marks.now _ (rw c.graph.ensures at c.checked.ensures) c.in_ok-checked.was
    (lent_in c.add_frame.new.tables) c.args.counts c.add_frame.result c.add_frame.ensures.frame_added)
