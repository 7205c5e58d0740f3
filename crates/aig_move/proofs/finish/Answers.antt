-- `aig_move::finish` meets its contract.
use mathlib.Core.Path.{ap, ◌∙◌}
use Rattle.graph.specs.Latches.{latch_set}
use Rattle.graph.specs.Graph.{lent_of}
use Rattle.output.specs.Tables.{lent_in}
use Rattle.aig_move.specs.Moving.{copy_counts}
use Rattle.aig_move.proofs.Copied.{all_finished}
use Rattle.aig_move.proofs.finish.Goals as goal

pub returns-clause-finished : goal.returns-clause-finished
returns-clause-finished c =
    let g = lent_of c.args.graph.now in
    all_finished g (lent_in c.args.tables.now (copy_counts g.counts)) c.make-made.result c.make-made.ensures
    (c.write_latch.ensures ∙ ap (latch_set _ _) c.latch_of-l.ensures) c.replace_first.ensures c.replace_first-2.ensures
