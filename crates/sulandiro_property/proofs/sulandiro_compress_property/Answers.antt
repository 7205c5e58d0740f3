-- `sulandiro_property::sulandiro_compress_property` meets its contract.
use Rattle.edge.specs.Answers.{value_or}
use Rattle.graph.specs.Graph.{lent}
use Rattle.property.specs.Compress.{compress_call}
use Rattle.sulandiro_words.specs.Words.{counts_in}
use Rattle.sulandiro_words.proofs.Telling.{tells_listed}
use Rattle.sulandiro_property.proofs.sulandiro_compress_property.Goals as goal

pub returns : goal.returns
returns c =
    tells_listed c.args.told.now c.compress_property-compressed.result (lent _ _ _ _ _ _ _ _ _ (value_or c.counts_in-n.result c.compress_property-compressed.result)) _
    c.tell_rebuilt.ensures _
    (compress_call
    (lent c.args.rows.now c.args.inputs.now c.args.latches.now c.args.constraints.now c.args.bads.now c.args.outputs.now
    c.args.ends.now c.args.edges.now c.args.fairness.now (counts_in c.args.counts.now)) c.args.old.now c.args.marks.now)
    (rw (← c.counts_in-n.ensures) c.compress_property-compressed.ensures)
