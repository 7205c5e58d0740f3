-- `build_leaves::leaves::add_input` meets its contract.
use mathlib.Core.Path.{refl}
use Rattle.build_leaves.specs.Calls.{counted}
use Rattle.build_leaves.specs.Leaves.{add_input_call, input_answer}
use Rattle.build_leaves.proofs.Answering.{add_refused, call_done}
use Rattle.build_leaves.proofs.leaves.add_input.Goals as goal

pub returns-in_err-entry_answer : goal.returns-in_err-entry_answer
unfolding add_input_call input_answer
returns-in_err-entry_answer c = add_refused c.args.rows.now c.args.inputs.now c.args.counts _ _ c.in_err-entry_answer.ensures.answer _ c.from_residual.ensures.1

pub returns : goal.returns
unfolding add_input_call input_answer counted
returns c = call_done c.args.rows.now c.args.inputs.now c.args.counts _ c.in_ok-entry_answer.ensures.answer _ refl
