-- `records::counts::new_latch` meets its contract.
use mathlib.Core.Path.{◌∙◌}
use Rattle.records.proofs.counts.new_latch.Goals as goal

pub returns : goal.returns
returns c = c.written_back.ensures _ _ ∙ c.new_latch-answer.ensures
