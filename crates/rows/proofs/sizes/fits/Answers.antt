-- `rows::sizes::fits` meets its contract.
use mathlib.Core.Path.{refl}
use Rattle.rows.specs.Sizes.{fits}
use Rattle.rows.proofs.sizes.fits.Goals as goal

pub returns : goal.returns
unfolding fits
returns c = refl
