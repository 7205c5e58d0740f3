-- `record_unroll::unroll_on` meets its contract.
use mathlib.Core.Path.{sym}
use Rattle.record_unroll.proofs.unroll_on.Goals as goal

pub returns-clause-unrolled : goal.returns-clause-unrolled
returns-clause-unrolled c =
    let same = c.unroll.ensures.same_lists in
    rw (
      c.tables-8-1.given.1 (sym same.rows),
      c.tables-7-1.given.1 (sym same.inputs),
      c.tables-6-1.given.1 (sym same.constraints),
      c.tables-5-1.given.1 (sym same.bads),
      c.tables-4-1.given.1 (sym same.outputs),
      c.tables-3-1.given.1 (sym same.ends),
      c.tables-2-1.given.1 (sym same.edges),
      c.tables-1.given.1 (sym same.fairness),
      c.latches-1.given.1.1 (sym same.latches),
    )
    c.unroll.ensures.unrolled
