-- `records::counts::add_input` meets its contract.
use mathlib.Core.Path.{◌∙◌}
use Rattle.records.proofs.counts.add_input.Goals as goal

pub returns : goal.returns
returns c = c.written_back.ensures _ _ ∙ c.add_input-answer.ensures
