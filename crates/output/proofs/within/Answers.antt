-- `output::within` meets its contract.
use mathlib.Core.Path.{refl}
use Rattle.output.specs.Room.{limits_in}
use Rattle.output.proofs.within.Goals as goal

pub returns : goal.returns
unfolding limits_in
returns c = refl
