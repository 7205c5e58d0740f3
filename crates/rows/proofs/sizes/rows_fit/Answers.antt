-- `rows::sizes::rows_fit` meets its contract.
use Rattle.rows.specs.Sizes.{rows_fit}
use Rattle.rows.proofs.sizes.rows_fit.Goals as goal

pub returns : goal.returns
unfolding rows_fit
returns c = rw c.fits.ensures
