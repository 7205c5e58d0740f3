-- `kept_rows::copies::copy_row` meets its contract.
use Rattle.renumber.specs.Renumber.{by}
use Rattle.kept_rows.proofs.Copying.{row_is, first_ready, second_ready}
use Rattle.kept_rows.proofs.copies.copy_row.Goals as goal

pub row_word-requires : goal.row_word-requires
row_word-requires c = first_ready c.args.rows.now c.args.i c.args.map.now c.requires.small c.requires.known c.is_gate-gate.ensures

pub row_word-requires-2 : goal.row_word-requires-2
row_word-requires-2 c = second_ready c.args.rows.now c.args.i c.args.map.now c.requires.small c.requires.known c.is_gate-gate.ensures

pub returns : goal.returns
returns c =
    row_is (by c.args.map.now) c.args.rows.now c.args.out.now c.args.k c.args.i c.is_gate-gate.ensures
    c.row_word.ensures c.row_word-2.ensures
