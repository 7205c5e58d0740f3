-- `property::compress::one_bad` meets its contract.
use mathlib.Core.Path.{refl}
use Rattle.property.specs.Compress.{one_bad}
use Rattle.property.proofs.compress.one_bad.Goals as goal

pub returns : goal.returns
unfolding one_bad
returns c = refl
