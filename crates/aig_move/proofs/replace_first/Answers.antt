-- `aig_move::replace_first` meets its contract.
use Rattle.aig_move.proofs.Steps.{first_set_lem, none_set}
use Rattle.aig_move.proofs.replace_first.Goals as goal

pub returns-then-n-gt0 : goal.returns-then-n-gt0
returns-then-n-gt0 c = first_set_lem _ _ _ c.if-n-gt0.true

pub returns-else-n-gt0 : goal.returns-else-n-gt0
returns-else-n-gt0 c = none_set _ _ _ c.if-n-gt0.false
