-- `records::table::set_next` meets its contract.
use borrow.Author.Tests.{lt-ltb, le-ltb}
use Rattle.records.specs.Entries.{next_call}
use Rattle.records.proofs.table.set_next.Goals as goal

pub returns-then-table-i : goal.returns-then-table-i
unfolding next_call
returns-then-table-i c = simp (le-ltb _ _ c.if-table-i.true)

pub returns : goal.returns
unfolding next_call
returns c = simp (lt-ltb _ _ c.if-table-i.false)
