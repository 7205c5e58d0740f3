-- `output::fits` meets its contract.
use mathlib.Core.Path.{refl}
use Rattle.output.specs.Room.{fits_in}
use Rattle.output.proofs.fits.Goals as goal

pub returns : goal.returns
unfolding fits_in
returns c = refl
