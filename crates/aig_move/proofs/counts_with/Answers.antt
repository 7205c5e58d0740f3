-- `aig_move::counts_with` meets its contract.
use mathlib.Core.Path.{refl}
use Rattle.aig_move.specs.Moving.{counts_with}
use Rattle.aig_move.proofs.counts_with.Goals as goal

pub returns : goal.returns
unfolding counts_with
returns c = refl
