-- `records::by_lending::add_latch` meets its contract.
use Rattle.build_latches.specs.Latches.{add_latch_call}
use Rattle.records.proofs.Refusing.{lent_refused}
use Rattle.records.proofs.by_lending.add_latch.Goals as goal

pub returns-in_err-id : goal.returns-in_err-id
unfolding add_latch_call
returns-in_err-id c = lent_refused _ _ _ c.args.counts _ _ _ _ _ c.in_err-id.ensures _ c.from_residual.ensures.1
