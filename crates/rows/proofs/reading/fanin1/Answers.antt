-- `rows::reading::fanin1` meets its contract.
use mathlib.Core.Path.{ap, ◌∙◌}
use Rattle.edge.specs.Edges.{edge_seen}
use Rattle.edge.proofs.Answers.{handed_on}
use Rattle.rows.specs.Reading.{second_seen}
use Rattle.rows.proofs.reading.fanin1.Goals as goal

pub returns-in_err-second : goal.returns-in_err-second
returns-in_err-second c = ap edge_seen (handed_on _ _ c.from_residual.ensures.1) ∙ ap second_seen c.in_err-second.ensures

pub returns : goal.returns
returns c = ap second_seen c.in_ok-second.ensures
