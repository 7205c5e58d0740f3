-- `rows::kinds::is_gate` meets its contract.
use Rattle.rows.specs.Rows.{is_gate}
use Rattle.rows.proofs.Laws.{id_below}
use Rattle.rows.proofs.kinds.is_gate.Goals as goal

pub returns : goal.returns
unfolding is_gate
returns c = simp id_below
