-- `frame::map::grow_lists` meets its contract.
use Rattle.graph.specs.Graph.{lent_of}
use Rattle.output.specs.Tables.{lent_in}
use Rattle.renumber.specs.Renumber.{lists_of}
use Rattle.renumber.proofs.Writing.{all_lists}
use Rattle.frame.specs.Map.{lists_grown}
use Rattle.frame.proofs.map.grow_lists.Goals as goal

pub returns-clause-lists_grown : goal.returns-clause-lists_grown
unfolding lists_grown
returns-clause-lists_grown c =
    let a = c.args in
    all_lists (lists_grown a.map.now (lists_of (lent_in a.tables.now a.at)) a.at (lists_of (lent_of a.graph.now)) a.graph.now.counts)
    c.write_nexts.ensures c.write_mapped.ensures c.write_mapped-2.ensures c.write_mapped-3.ensures
    c.write_ends.ensures c.write_mapped-4.ensures c.write_mapped-5.ensures
