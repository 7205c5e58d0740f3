-- `records::through::next_through` meets its contract.
use Rattle.std.specs.Prelude.{Ok}
use Rattle.records.proofs.Local.{next_refused, next_right}
use Rattle.records.proofs.through.next_through.Goals as goal

pub returns-in_err-set_next : goal.returns-in_err-set_next
returns-in_err-set_next c =
    next_refused c.args.latches.now c.args.i c.args.next _ _ _ c.records_back.ensures c.in_err-set_next.ensures _ c.from_residual.ensures.1

pub returns : goal.returns
returns c =
    next_right c.args.latches.now c.args.i c.args.next c.records_back.new.table c.set_next.new.table (Ok tt) c.latch_at.result c.to_words.new.words
    c.records_back.ensures c.in_ok-set_next.ensures c.latch_at.ensures c.to_words.ensures
