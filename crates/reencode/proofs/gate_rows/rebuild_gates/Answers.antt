-- `reencode::gate_rows::rebuild_gates` meets its contract.
use native.Mathlib.Omega.{arith}
use mathlib.Core.Path.{refl}
use Rattle.renumber.specs.Renumber.{by}
use Rattle.graph.specs.Count.{count_below}
use Rattle.reencode.specs.Numbers.{numbered}
use Rattle.reencode.specs.Rebuilding.{gates_added}
use Rattle.reencode.proofs.Numbering.{half_start, next_number, half_turn, half_beyond, gates_turn, gate_ready}
use borrow.Author.Rules.{rules}
use Rattle.reencode.proofs.gate_rows.rebuild_gates.Goals as goal

pub loop-i-init : goal.loop-i-init
unfolding count_below gates_added
loop-i-init c = (search rules, omega arith, refl, half_start (numbered c.args.rows.now c.args.first (by c.args.marks.now)) c.args.marks.now, refl)

pub rebuild_gate-k-requires : goal.rebuild_gate-k-requires
rebuild_gate-k-requires c =
    gate_ready c.args.rows.now c.args.first c.args.marks.now c.loop-i.i c.loop-i.invariant.1 c.loop-i.invariant.3 c.args.used c.requires c.loop-i-test.true c.loop-i.auto.marks

pub loop-i-preserved : goal.loop-i-preserved
loop-i-preserved c =
    let a = c.args in
    let l = c.loop-i in
    let number = l.invariant.1 in
    let half = l.invariant.3 in
    let r = c.rebuild_gate-k.ensures in (
      search rules,
      next_number a.rows.now a.first a.marks.now l.i number half r.value,
      gates_turn a.rows.now a.first a.marks.now l.i number half a.out.now l.invariant.2 r.out_after,
      half_turn a.rows.now a.first a.marks.now l.i number half (omega (arith, l.auto.marks, c.requires.marks_long)) r.marks_after,
      half_beyond a.rows.now a.first a.marks.now l.i number half a.used c.loop-i-test.true r.marks_after l.invariant.4,
    )
