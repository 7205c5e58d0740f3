-- `merge::sum` meets its contract.
use mathlib.Core.Path.{refl}
use Rattle.merge.specs.Merge.{summed}
use Rattle.merge.proofs.sum.Goals as goal

pub returns : goal.returns
unfolding summed
returns c = refl
