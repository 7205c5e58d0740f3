-- `two_graphs::check_two` meets its contract.
use native.Mathlib.Omega.{arith}
use mathlib.Core.Path.{◌≡◌, refl, ap, ◌∙◌}
use mathlib.Core.Bool.{true}
use lib.ListN.{length}
use borrow.Author.Tests.{not-true, not-false}
use Rattle.edge.proofs.Answers.{handed_on}
use Rattle.graph.specs.Graph.{lent_of}
use Rattle.graph.specs.Check.{check_seen}
use Rattle.two_graphs.specs.Pair.{sizes_of_two}
use Rattle.two_graphs.proofs.Pair.{sized_two, two_refused, two_first, two_second}
use Rattle.two_graphs.proofs.check_two.Goals as goal
use Rattle.two_graphs.proofs.check_two.Goals.{Else-not-sizes_right}

-- the sizes of both are right
right : (c : Else-not-sizes_right) → sizes_of_two (lent_of c.args.graph.now) (lent_of c.args.other.now) (length c.args.marks.now) ≡ true
right c = rw (← c.sizes_right.ensures, ← c.sizes_right-2.ensures) (not-false _ c.if-not-sizes_right.false-raw)

pub returns-then-not-sizes_right : goal.returns-then-not-sizes_right
returns-then-not-sizes_right c =
    two_refused (lent_of c.args.graph.now) (lent_of c.args.other.now) c.args.marks.now
    (rw (← c.sizes_right.ensures, ← c.sizes_right-2.ensures) (not-true _ c.if-not-sizes_right.true-raw))

pub clear-requires : goal.clear-requires
clear-requires c =
    let s = sized_two (lent_of c.args.graph.now) (lent_of c.args.other.now) (length c.args.marks.now) (right (goal.at.clear-requires c).Else-not-sizes_right) in
    omega (arith, s.second.marked)

pub returns-in_err-check_contents : goal.returns-in_err-check_contents
returns-in_err-check_contents c =
    ap (λ r. check_seen r c.check_contents.new.marks) (handed_on _ _ c.from_residual.ensures.1) ∙
    two_first (lent_of c.args.graph.now) (lent_of c.args.other.now) c.args.marks.now (right (goal.at.returns-in_err-check_contents c).Else-not-sizes_right) _ _ c.clear.ensures
    _ refl c.in_err-check_contents.ensures.result_value c.in_err-check_contents.ensures.marks_after

pub returns : goal.returns
returns c =
    two_second (lent_of c.args.graph.now) (lent_of c.args.other.now) c.args.marks.now (right (goal.at.returns c).Else-not-sizes_right) _ _ c.clear.ensures
    c.check_contents-2.ensures.result_value c.in_ok-check_contents.ensures.result_value c.in_ok-check_contents.ensures.marks_after c.check_contents-2.ensures.marks_after
