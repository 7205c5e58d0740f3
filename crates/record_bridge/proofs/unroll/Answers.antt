-- `record_bridge::unroll` meets its contract.
use mathlib.Core.Path.{◌∙◌}
use Rattle.graph.specs.Graph.{lent_of}
use Rattle.output.specs.Tables.{lent_in}
use Rattle.record_unroll.specs.Call.{unroll_with, unroll_refused}
use Rattle.record_bridge.proofs.Meaning.{first_not_full, second_not_full, both_full}
use Rattle.record_bridge.proofs.unroll.Goals as goal
use Rattle.record_bridge.proofs.unroll.Goals.{then-tables-via-then-tables, then-tables-via-else-tables+then-graph}

pub returns-then-tables-clause-unrolled : goal.returns-then-tables-clause-unrolled
returns-then-tables-clause-unrolled c =
    let a = c.args in
    let first = lent_in a.tables.now a.counts in
    let call = unroll_with first (lent_of a.graph.now) a.marks.now in
    let refused = unroll_refused first a.marks.now in
    elim c.then-tables.branch [
      | then-tables-via-then-tables w ↦ first_not_full call refused a.tables.now.latches.now a.words.now a.graph.now.latches.now a.words2.now w.if-tables.true
      | then-tables-via-else-tables+then-graph w ↦
          second_not_full call refused a.tables.now.latches.now a.words.now a.graph.now.latches.now a.words2.now w.if-tables.false w.if-graph.true
    ]

pub returns-clause-unrolled : goal.returns-clause-unrolled
returns-clause-unrolled c =
    let a = c.args in
    let first = lent_in a.tables.now a.counts in
    c.unroll_tables.ensures.unrolled ∙
    both_full (unroll_with first (lent_of a.graph.now) a.marks.now) (unroll_refused first a.marks.now) a.tables.now.latches.now a.words.now a.graph.now.latches.now a.words2.now
    c.if-tables.false c.if-graph.false
