-- `rows::reading::fanin0` meets its contract.
use mathlib.Core.Path.{ap, ◌∙◌}
use Rattle.edge.specs.Edges.{edge_seen}
use Rattle.edge.proofs.Answers.{handed_on}
use Rattle.rows.specs.Reading.{first_seen}
use Rattle.rows.proofs.reading.fanin0.Goals as goal

pub returns-in_err-first : goal.returns-in_err-first
returns-in_err-first c = ap edge_seen (handed_on _ _ c.from_residual.ensures.1) ∙ ap first_seen c.in_err-first.ensures

pub returns : goal.returns
returns c = ap first_seen c.in_ok-first.ensures
