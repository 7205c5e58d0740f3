-- `build_leaves::calls::entry_answer` meets its contract.
use Rattle.build_leaves.proofs.Answering.{goes_on}
use Rattle.build_leaves.proofs.Adding.{limit, entry_told}
use Rattle.build_leaves.proofs.calls.entry_answer.Goals as goal

pub returns-clause-answer : goal.returns-clause-answer
returns-clause-answer c = rw (← c.rows_fit.ensures, ← c.fits.ensures) c.answered.ensures

pub returns-clause-room : goal.returns-clause-room
returns-clause-room c ok =
    let a = c.args in
    let h = goes_on c.answered.result c.answered.ensures ok in
    let t = entry_told a.rows.now a.used a.n a.lent a.good a.row (rw (c.rows_fit.ensures, c.fits.ensures) at h) in
    (limit a.used a.rows.now t.0, t.3)
