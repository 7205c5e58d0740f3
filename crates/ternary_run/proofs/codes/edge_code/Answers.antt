-- `ternary_run::codes::edge_code` meets its contract.
use mathlib.Core.Path.{sym, ◌∙◌}
use Rattle.ternary_run.specs.Codes.{edge3}
use Rattle.ternary_run.proofs.codes.edge_code.Goals as goal

pub returns-then-compl : goal.returns-then-compl
unfolding edge3
returns-then-compl c = c.not3.ensures ∙ rw (c.node_id-i.ensures, sym c.compl.ensures ∙ c.if-compl.true)

pub returns : goal.returns
unfolding edge3
returns c = rw (c.node_id-i.ensures, sym c.compl.ensures ∙ c.if-compl.false)
