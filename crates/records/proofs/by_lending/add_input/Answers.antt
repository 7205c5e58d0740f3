-- `records::by_lending::add_input` meets its contract.
use Rattle.build_leaves.specs.Leaves.{add_input_call}
use Rattle.records.proofs.Refusing.{lent_refused}
use Rattle.records.proofs.by_lending.add_input.Goals as goal

pub returns-in_err-id : goal.returns-in_err-id
unfolding add_input_call
returns-in_err-id c = lent_refused _ _ _ c.args.counts _ _ _ _ _ c.in_err-id.ensures _ c.from_residual.ensures.1
