-- `graph::justice::is_end` meets its contract.
use mathlib.Core.Path.{refl}
use Rattle.graph.specs.Justice.{end_is}
use Rattle.graph.proofs.justice.is_end.Goals as goal

pub returns : goal.returns
unfolding end_is
returns c = refl
