-- `output::asked` meets its contract.
use Rattle.output.specs.Asking.{asked_in}
use Rattle.output.proofs.asked.Goals as goal

pub returns : goal.returns
unfolding asked_in
returns c = rw (← c.within.ensures) c.asked.ensures
