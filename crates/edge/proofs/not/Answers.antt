-- `edge::not` meets its contract.
use mathlib.Core.Path.{sym}
use Rattle.edge.proofs.Meaning.{complement_parts}
use Rattle.edge.proofs.not.Goals as goal

pub returns : goal.returns
returns c = sym (complement_parts _)
