-- `records::counts::new_input` meets its contract.
use mathlib.Core.Path.{◌∙◌}
use Rattle.records.proofs.counts.new_input.Goals as goal

pub returns : goal.returns
returns c = c.written_back.ensures _ _ ∙ c.new_input-answer.ensures
