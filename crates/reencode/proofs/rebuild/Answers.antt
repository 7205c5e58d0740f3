-- `reencode::rebuild` meets its contract.
use mathlib.Core.Path.{◌∙◌}
use Rattle.graph.specs.Graph.{lent_of}
use Rattle.output.specs.Tables.{lent_in}
use Rattle.reencode.proofs.Readying.{to_rows, to_inputs, to_lists, all_written}
use Rattle.reencode.proofs.rebuild.Goals as goal

pub write_rows-requires : goal.write_rows-requires
write_rows-requires c = to_rows (lent_of c.args.graph.now) (lent_in c.args.tables.now c.args.graph.now.counts) c.args.marks.now c.requires

pub write_ids-requires : goal.write_ids-requires
write_ids-requires c =
    to_inputs (lent_of c.args.graph.now) (lent_in c.args.tables.now c.args.graph.now.counts) c.args.marks.now c.requires c.write_rows.new.marks c.write_rows.ensures.marks_hold
    c.write_rows.auto.marks

pub write_lists-requires-clause-lists_ready : goal.write_lists-requires-clause-lists_ready
write_lists-requires-clause-lists_ready c =
    (to_lists (lent_of c.args.graph.now) (lent_in c.args.tables.now c.args.graph.now.counts) c.args.marks.now c.requires c.write_rows.new.marks c.write_rows.ensures.marks_hold
    c.write_rows.auto.marks c.no_counts.ensures).1

pub returns-clause-all_written : goal.returns-clause-all_written
returns-clause-all_written c =
    all_written (lent_of c.args.graph.now) (lent_in c.args.tables.now c.args.graph.now.counts) c.args.marks.now c.requires c.write_rows.new.marks c.write_rows.ensures.marks_hold
    c.write_rows.auto.marks c.no_counts.ensures (c.write_lists.ensures.leaves_kept.0 ∙ c.write_rows.ensures.rows_written) (c.write_lists.ensures.leaves_kept.1 ∙ c.write_ids.ensures)
    c.write_lists.ensures.lists_written
