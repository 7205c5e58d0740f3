-- `rows::kinds::is_false_row` meets its contract.
use mathlib.Core.Path.{refl}
use Rattle.rows.specs.Rows.{is_false_row}
use Rattle.rows.proofs.kinds.is_false_row.Goals as goal

pub returns : goal.returns
unfolding is_false_row
returns c = refl
