-- `frame::raised` meets its contract.
use mathlib.Core.Path.{refl}
use Rattle.frame.specs.Frame.{raised}
use Rattle.frame.proofs.raised.Goals as goal

pub returns : goal.returns
unfolding raised
returns c = refl
