-- `root_marks::mark_roots` meets its contract.
use lib.ListN.{length, take}
use Rattle.graph.specs.Graph.{lent_of}
use Rattle.graph.specs.Leaves.{used_edge}
use Rattle.root_marks.specs.Roots.{latch_roots}
use Rattle.root_marks.proofs.Roots.{Six, six, still_used, all_marked}
use Rattle.root_marks.proofs.mark_roots.Goals as goal
use Rattle.root_marks.proofs.mark_roots.Goals.{Start}

-- the roots are used, list by list
parts : (c : Start) →
    let g = lent_of c.args.graph.now in
    Six (used_edge (length c.args.marks.now)) (latch_roots g.latches g.counts.latches) (take g.counts.constraints g.constraints) (take g.counts.bads g.bads)
    (take g.counts.outputs g.outputs) (take g.counts.edges g.edges) (take g.counts.fairness g.fairness)
parts c = six _ _ _ _ _ _ _ c.requires.roots_used

pub mark_latches-requires-clause-n_value : goal.mark_latches-requires-clause-n_value
mark_latches-requires-clause-n_value c = (parts (goal.at.mark_latches-requires-clause-n_value c).Start).first

pub mark_edges-requires : goal.mark_edges-requires
mark_edges-requires c = still_used _ _ _ c.mark_latches.ensures (parts (goal.at.mark_edges-requires c).Start).second

pub mark_edges-requires-2 : goal.mark_edges-requires-2
mark_edges-requires-2 c = still_used _ _ _ c.mark_edges.ensures (still_used _ _ _ c.mark_latches.ensures (parts (goal.at.mark_edges-requires-2 c).Start).third)

pub mark_edges-requires-3 : goal.mark_edges-requires-3
mark_edges-requires-3 c =
    still_used _ _ _ c.mark_edges-2.ensures
    (still_used _ _ _ c.mark_edges.ensures (still_used _ _ _ c.mark_latches.ensures (parts (goal.at.mark_edges-requires-3 c).Start).fourth))

pub mark_edges-requires-4 : goal.mark_edges-requires-4
mark_edges-requires-4 c =
    still_used _ _ _ c.mark_edges-3.ensures
    (still_used _ _ _ c.mark_edges-2.ensures
    (still_used _ _ _ c.mark_edges.ensures (still_used _ _ _ c.mark_latches.ensures (parts (goal.at.mark_edges-requires-4 c).Start).fifth)))

pub mark_edges-requires-5 : goal.mark_edges-requires-5
mark_edges-requires-5 c =
    still_used _ _ _ c.mark_edges-4.ensures
    (still_used _ _ _ c.mark_edges-3.ensures
    (still_used _ _ _ c.mark_edges-2.ensures
    (still_used _ _ _ c.mark_edges.ensures (still_used _ _ _ c.mark_latches.ensures (parts (goal.at.mark_edges-requires-5 c).Start).sixth))))

pub returns : goal.returns
returns c =
    all_marked _ _ _ _ _ _ _ c.mark_latches.ensures c.mark_edges.ensures c.mark_edges-2.ensures c.mark_edges-3.ensures
    c.mark_edges-4.ensures c.mark_edges-5.ensures
