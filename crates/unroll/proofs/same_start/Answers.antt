-- `unroll::same_start` meets its contract.
use borrow.Author.Tests.{le-leb, lt-leb}
use mathlib.Core.Path.{◌∙◌}
use Rattle.graph.specs.Graph.{lent_of}
use Rattle.unroll.proofs.Starting.{asked, not_asked, start_short, start_long}
use Rattle.unroll.proofs.same_start.Goals as goal
use Rattle.unroll.proofs.same_start.Goals.{then-n-target, else-n-target, then-target-n, else-target-n}

pub returns-then-eq : goal.returns-then-eq
returns-then-eq c =
    start_long (lent_of c.args.target.now) (lent_of c.args.graph.now) c.requires.target_sized c.requires.sized
    (elim c.if-n-target.branch [
      | then-n-target w ↦ asked (le-leb _ _ w.if-n-target.true) w.value-is
      | else-n-target w ↦ not_asked _ (lt-leb _ _ w.if-n-target.false) w.value-is
    ])
    (elim c.if-target-n.branch [
      | then-target-n w ↦ asked w.if-target-n.true (w.value-is ∙ w.eq.ensures)
      | else-target-n w ↦ not_asked _ w.if-target-n.false w.value-is
    ])
    c.if-eq.true c.same_latches.ensures

pub returns-else-eq : goal.returns-else-eq
returns-else-eq c =
    start_short (lent_of c.args.target.now) (lent_of c.args.graph.now) c.requires.target_sized c.requires.sized
    (elim c.if-n-target.branch [
      | then-n-target w ↦ asked (le-leb _ _ w.if-n-target.true) w.value-is
      | else-n-target w ↦ not_asked _ (lt-leb _ _ w.if-n-target.false) w.value-is
    ])
    (elim c.if-target-n.branch [
      | then-target-n w ↦ asked w.if-target-n.true (w.value-is ∙ w.eq.ensures)
      | else-target-n w ↦ not_asked _ w.if-target-n.false w.value-is
    ])
    c.if-eq.false
