-- `frame::rebuild::frame_rows` meets its contract.
use native.Mathlib.Omega.{arith}
use mathlib.Core.Path.{◌∙◌}
use lib.ListN.{length}
use Rattle.frame.specs.Frame.{frame}
use Rattle.frame.proofs.Framing.{rows_turn, rows_end, turned}
use borrow.Author.Rules.{rules}
use Rattle.frame.proofs.rebuild.frame_rows.Goals as goal

pub loop-i-preserved : goal.loop-i-preserved
loop-i-preserved c =
    let a = c.args in
    let l = c.loop-i in
    let s = frame l.rows l.reached.used l.inputs l.reached.inputs l.map in
    let e = c.frame_row-reached.ensures in
    let t = turned a.from.now l.i s _ e in (
      search rules,
      omega (arith, t.most, l.invariant.1),
      omega (arith, t.listed_most, l.invariant.2),
      t.map_long ∙ l.invariant.3,
      t.rows_long ∙ l.invariant.4,
      t.inputs_long ∙ l.invariant.5,
      rows_turn a.from.now (length a.map.now) l.i s _ l.invariant.6 c.loop-i-test.true _ e,
    )

pub returns : goal.returns
returns c =
    let a = c.args in
    let l = c.loop-i in
    rows_end a.from.now (length a.map.now) l.i (frame l.rows l.reached.used l.inputs l.reached.inputs l.map) _ l.invariant.6 c.loop-i-test.false
