-- `records::words::to_words` meets its contract.
use native.Mathlib.Omega.{arith}
use native.Mathlib.Nat.{le_antisymm}
use Rattle.std.proofs.Common.{ap, ◌∙◌}
use Rattle.records.proofs.Laying.{sofar, all_laid, none_laid}
use Rattle.records.proofs.words.to_words.Goals as goal

pub returns-after-loop-i : goal.returns-after-loop-i
returns-after-loop-i c =
    c.loop-i.invariant ∙ ap (sofar c.args.table.now c.args.words.now) (le_antisymm (omega arith) c.loop-i-test.false)
    ∙ all_laid c.args.table.now c.args.words.now c.if-table-words.true

pub returns-else-table-words : goal.returns-else-table-words
returns-else-table-words c = none_laid c.args.table.now c.args.words.now c.if-table-words.false
