-- `record_bridge::set_next` meets its contract.
use mathlib.Core.Path.{◌∙◌}
use Rattle.record_bridge.proofs.Meaning.{entry_not_full, entry_full}
use Rattle.record_bridge.proofs.set_next.Goals as goal

pub returns-then-latches : goal.returns-then-latches
returns-then-latches c =
    let a = c.args in
    entry_not_full a.latches.now a.i a.next c.if-latches.true

pub returns : goal.returns
returns c =
    let a = c.args in
    c.next_through.ensures ∙ entry_full a.latches.now a.i a.next c.if-latches.false
