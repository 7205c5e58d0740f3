-- `ternary::arguments` meets its contract.
use Rattle.ternary.specs.Calls.{arguments_right}
use Rattle.ternary.proofs.arguments.Goals as goal

pub returns : goal.returns
unfolding arguments_right
returns c = simp (c.all_codes.ensures, c.all_codes-2.ensures)
