-- `graph::Graph::sizes_right` meets its contract.
use Rattle.graph.specs.Graph.{sizes_right}
use Rattle.graph.proofs.Graph.sizes_right.Goals as goal

pub returns : goal.returns
unfolding sizes_right
returns c =
    simp (
      c.rows_fit.ensures,
      c.fits.ensures,
      c.fits-2.ensures,
      c.fits-3.ensures,
      c.fits-4.ensures,
      c.fits-5.ensures,
      c.fits-6.ensures,
      c.fits-7.ensures,
      c.fits-8.ensures,
    )
