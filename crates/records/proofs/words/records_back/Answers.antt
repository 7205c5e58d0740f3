-- `records::words::records_back` meets its contract.
use native.Mathlib.Omega.{arith}
use native.Mathlib.Nat.{le_antisymm}
use Rattle.std.proofs.Common.{ap, ◌∙◌}
use Rattle.records.specs.Table.{all_taken}
use Rattle.records.proofs.Nexting.{sofar, all_back_lem, none_back}
use Rattle.records.proofs.words.records_back.Goals as goal

pub returns-after-loop-i : goal.returns-after-loop-i
returns-after-loop-i c =
    c.loop-i.invariant ∙ ap (sofar all_taken c.args.words.now c.args.table.now) (le_antisymm (omega arith) c.loop-i-test.false)
    ∙ all_back_lem all_taken c.args.words.now c.args.table.now c.if-table-words.true

pub returns-else-table-words : goal.returns-else-table-words
returns-else-table-words c = none_back all_taken c.args.words.now c.args.table.now c.if-table-words.false
