-- `refine::write` meets its contract.
use mathlib.Core.Path.{ap, ◌∙◌}
use Rattle.graph.specs.declared.Counts.{Counts}
use Rattle.graph.specs.Graph.{lent_of}
use Rattle.output.specs.Tables.{lent_in}
use Rattle.renumber.specs.Renumber.{lists_of, renumber, by}
use Rattle.refine.proofs.Stepping.{rows_ready, inputs_ready, all_ready, old_done, write_done}
use Rattle.refine.proofs.write.Goals as goal

pub write_rows-requires : goal.write_rows-requires
write_rows-requires c = rows_ready (lent_of c.args.graph.now) (lent_in c.args.tables.now c.args.graph.now.counts) c.args.old.now c.args.map.now c.requires

pub write_inputs-requires : goal.write_inputs-requires
write_inputs-requires c = inputs_ready (lent_of c.args.graph.now) (lent_in c.args.tables.now c.args.graph.now.counts) c.args.old.now c.args.map.now c.requires

pub write_lists-requires-clause-lists_ready : goal.write_lists-requires-clause-lists_ready
write_lists-requires-clause-lists_ready c =
    rw c.no_counts.ensures (all_ready (lent_of c.args.graph.now) (lent_in c.args.tables.now c.args.graph.now.counts) c.args.old.now c.args.map.now c.requires)

pub returns-clause-all_written : goal.returns-clause-all_written
returns-clause-all_written c =
    let g = lent_of c.args.graph.now in
    let out = lent_in c.args.tables.now c.args.graph.now.counts in
    write_done g out c.args.old.now c.args.map.now c.requires (c.write_lists.ensures.leaves_kept.0 ∙ c.write_rows.ensures.out_after)
    (c.write_lists.ensures.leaves_kept.1 ∙ c.write_inputs.ensures)
    (c.write_lists.ensures.lists_written ∙ ap (λ (x : Counts). renumber (by c.args.map.now) (lists_of out) x (lists_of g) g.counts) c.no_counts.ensures)

pub returns-clause-old_written : goal.returns-clause-old_written
returns-clause-old_written c =
    old_done (lent_of c.args.graph.now) (lent_in c.args.tables.now c.args.graph.now.counts) c.args.old.now c.args.map.now c.requires c.write_rows.ensures.after
