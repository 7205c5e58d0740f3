-- `unroll::checked` meets its contract.
use native.Mathlib.Omega.{arith}
use mathlib.Core.Path.{sym, ap, ◌∙◌}
use Rattle.edge.proofs.Answers.{handed_on}
use Rattle.graph.specs.Graph.{lent_of}
use Rattle.graph.specs.Check.{check_seen}
use Rattle.unroll.proofs.Call.{covered, check_stops, both_sized, check_same, check_differs}
use Rattle.unroll.proofs.checked.Goals as goal

pub returns-in_err-check_two : goal.returns-in_err-check_two
returns-in_err-check_two c =
    ap (λ r. check_seen r c.check_two.new.marks) (handed_on _ _ c.from_residual.ensures.1) ∙
    check_stops (lent_of c.args.target.now) (lent_of c.args.graph.now) c.args.marks.now _ c.check_two.ensures c.in_err-check_two.was

pub same_start-requires : goal.same_start-requires
same_start-requires c =
    let one = lent_of c.args.target.now in
    let other = lent_of c.args.graph.now in
    let s = both_sized one other c.args.marks.now _ c.check_two.ensures c.in_ok-check_two.was in
    record { target_sized = covered one s.first (omega arith); sized = covered other s.second (omega arith) }

pub returns-then-same_start : goal.returns-then-same_start
returns-then-same_start c =
    check_same (lent_of c.args.target.now) (lent_of c.args.graph.now) c.args.marks.now _ c.check_two.ensures c.in_ok-check_two.was (sym c.same_start.ensures ∙ c.if-same_start.true)

pub returns-else-same_start : goal.returns-else-same_start
returns-else-same_start c =
    check_differs (lent_of c.args.target.now) (lent_of c.args.graph.now) c.args.marks.now _ c.check_two.ensures c.in_ok-check_two.was (sym c.same_start.ensures ∙ c.if-same_start.false)
