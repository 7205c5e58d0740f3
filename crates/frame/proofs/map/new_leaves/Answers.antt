-- `frame::map::new_leaves` meets its contract.
use lib.ListN.{length}
use Rattle.frame.specs.Steps.{new_leaves}
use Rattle.frame.proofs.Bounding.{leaves_ended, leaves_one, leaves_no, one_more, no_more}
use borrow.Author.Rules.{rules}
use Rattle.frame.proofs.map.new_leaves.Goals as goal
use Rattle.frame.proofs.map.new_leaves.Goals.{else-from-i, then-from-i}

pub loop-i-preserved : goal.loop-i-preserved
loop-i-preserved c =
    let a = c.args in
    let l = c.loop-i in
    let n = length a.map.now in
    let t = c.loop-i-test.true in (
      search rules,
      elim c.if-from-i.branch [
        | then-from-i w ↦ one_more l.n l.i l.invariant.1 w.n-is
        | else-from-i w ↦ no_more l.n l.i l.invariant.1 w.n-is
      ],
      elim c.if-from-i.branch [
        | then-from-i w ↦ leaves_one a.from.now a.map.now n l.i l.n (new_leaves a.from.now a.map.now 0 n) l.invariant.2 t w.if-from-i.true w.n-is
        | else-from-i w ↦ leaves_no a.from.now a.map.now n l.i l.n (new_leaves a.from.now a.map.now 0 n) l.invariant.2 t w.if-from-i.false w.n-is
      ],
    )

pub returns : goal.returns
returns c =
    let a = c.args in
    let l = c.loop-i in
    let n = length a.map.now in
    leaves_ended a.from.now a.map.now n l.i l.n (new_leaves a.from.now a.map.now 0 n) l.invariant.2 c.loop-i-test.false
