-- `renumber::renamed_edge` meets its contract.
use native.Mathlib.Omega.{arith}
use mathlib.Core.Path.{◌≡◌}
use borrow.Author.Tests.{ne_eqb}
use Rattle.rows.specs.Rows.{none}
use Rattle.renumber.specs.Renumber.{renamed}
use Rattle.renumber.proofs.renamed_edge.Goals as goal

pub returns : goal.returns
unfolding renamed
returns c = simp (ne_eqb c.args.e none (λ (z : c.args.e ≡ none). absurd (omega (arith, c.requires.edge))))
