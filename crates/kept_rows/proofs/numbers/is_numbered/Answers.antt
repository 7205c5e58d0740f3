-- `kept_rows::numbers::is_numbered` meets its contract.
use mathlib.Core.Path.{refl}
use Rattle.kept_rows.specs.Keeping.{numbered}
use Rattle.kept_rows.proofs.numbers.is_numbered.Goals as goal

pub returns : goal.returns
unfolding numbered
returns c = refl
