-- `frame::fits` meets its contract.
use mathlib.Core.Path.{sym, ◌∙◌}
use Rattle.graph.specs.Graph.{lent_of}
use Rattle.frame.proofs.Bounding.{bounded, most_fits}
use Rattle.frame.proofs.fits.Goals as goal

pub returns-then-fits-clause-value : goal.returns-then-fits-clause-value
returns-then-fits-clause-value c =
    let one = lent_of c.args.target.now in
    let other = lent_of c.args.graph.now in
    most_fits one.counts one.latches other.rows other.counts c.requires.from.rows.some (bounded one other _ c.requires) c.args.room c.most-most.ensures.value (sym c.fits.ensures ∙ c.if-fits.true)
