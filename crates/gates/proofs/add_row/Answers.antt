-- `gates::add_row` meets its contract.
use Rattle.gates.proofs.Building.{row_full, row_written}
use Rattle.gates.proofs.add_row.Goals as goal

pub returns-then-rows-start : goal.returns-then-rows-start
returns-then-rows-start c = row_full _ _ _ _ c.if-rows-start.true

pub returns : goal.returns
returns c = row_written _ _ _ _ c.if-rows-start.false c.write_row.new.free c.write_row.ensures
