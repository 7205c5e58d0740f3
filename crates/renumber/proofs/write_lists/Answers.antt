-- `renumber::write_lists` meets its contract.
use Rattle.graph.specs.Graph.{lent_of}
use Rattle.output.specs.Tables.{lent_in}
use Rattle.renumber.specs.Renumber.{lists_of, renumber, by}
use Rattle.renumber.proofs.Writing.{all_lists}
use Rattle.renumber.proofs.write_lists.Goals as goal

pub returns-clause-lists_written : goal.returns-clause-lists_written
unfolding renumber
returns-clause-lists_written c =
    let a = c.args in
    all_lists (renumber (by a.map.now) (lists_of (lent_in a.tables.now a.at)) a.at (lists_of (lent_of a.graph.now)) a.graph.now.counts)
    c.write_latches.ensures c.write_edges.ensures c.write_edges-2.ensures c.write_edges-3.ensures
    c.write_ends.ensures c.write_edges-4.ensures c.write_edges-5.ensures
