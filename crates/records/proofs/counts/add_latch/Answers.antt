-- `records::counts::add_latch` meets its contract.
use mathlib.Core.Path.{◌∙◌}
use Rattle.records.proofs.counts.add_latch.Goals as goal

pub returns : goal.returns
returns c = c.written_back.ensures _ _ ∙ c.add_latch-answer.ensures
