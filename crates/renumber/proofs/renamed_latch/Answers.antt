-- `renumber::renamed_latch` meets its contract.
use mathlib.Core.Path.{◌∙◌}
use Rattle.renumber.specs.Renumber.{renamed_latch}
use Rattle.renumber.proofs.renamed_latch.Goals as goal

pub returns : goal.returns
unfolding renamed_latch
returns c = c.with_edges.ensures ∙ rw (c.renamed.ensures, c.renamed-2.ensures)
