-- `rows::kinds::is_leaf` meets its contract.
use mathlib.Core.Path.{refl}
use Rattle.rows.specs.Rows.{is_leaf}
use Rattle.rows.proofs.kinds.is_leaf.Goals as goal

pub returns : goal.returns
unfolding is_leaf
returns c = refl
