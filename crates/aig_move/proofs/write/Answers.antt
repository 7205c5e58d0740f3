-- `aig_move::write` meets its contract.
use mathlib.Core.Path.{◌∙◌}
use Rattle.graph.specs.Graph.{lent_of}
use Rattle.output.specs.Tables.{lent_in}
use Rattle.aig_move.proofs.Copied.{copy_fits, finish_ready, all_moved}
use Rattle.aig_move.proofs.write.Goals as goal

pub copy-requires : goal.copy-requires
copy-requires c = rw c.copy_counts.ensures (copy_fits (lent_of c.args.graph.now) (lent_in c.args.tables.now c.args.graph.now.counts) c.requires)

pub finish-requires : goal.finish-requires
finish-requires c =
    finish_ready (lent_of c.args.graph.now) (lent_in c.args.tables.now c.args.graph.now.counts) c.requires _ (rw c.copy_counts.ensures at c.copy.ensures.copied)

pub returns-clause-moved : goal.returns-clause-moved
returns-clause-moved c =
    c.finish.ensures.finished ∙
    all_moved (lent_of c.args.graph.now) (lent_in c.args.tables.now c.args.graph.now.counts) c.requires _ (rw c.copy_counts.ensures at c.copy.ensures.copied)
