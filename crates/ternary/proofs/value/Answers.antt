-- `ternary::value` meets its contract.
use Rattle.ternary.proofs.Answering.{value_at, value_sizes, value_unused, value_code, value_done}
use mathlib.Core.Path.{sym, ◌∙◌}
use borrow.Author.Tests.{not-true, not-false}
use Rattle.ternary.proofs.value.Goals as goal

pub returns-then-used-values : goal.returns-then-used-values
returns-then-used-values c = value_sizes _ _ _ c.if-used-values.true

pub returns-then-not-is_used : goal.returns-then-not-is_used
returns-then-not-is_used c = value_unused _ _ _ c.if-used-values.false (sym c.is_used.ensures ∙ not-true _ c.if-not-is_used.true-raw)

pub bounds-values-e : goal.bounds-values-e
bounds-values-e c = value_at c.args.values.now _ _ c.if-used-values.false (sym c.is_used.ensures ∙ not-false _ c.if-not-is_used.false-raw)

pub returns-then-values-e-gt-UNKNOWN : goal.returns-then-values-e-gt-UNKNOWN
returns-then-values-e-gt-UNKNOWN c = value_code _ _ _ c.if-used-values.false (sym c.is_used.ensures ∙ not-false _ c.if-not-is_used.false-raw) c.if-values-e-gt-UNKNOWN.true

pub edge_code-requires : goal.edge_code-requires
edge_code-requires c = value_at c.args.values.now _ _ c.if-used-values.false (sym c.is_used.ensures ∙ not-false _ c.if-not-is_used.false-raw)

pub returns : goal.returns
returns c = value_done _ _ _ c.if-used-values.false (sym c.is_used.ensures ∙ not-false _ c.if-not-is_used.false-raw) c.if-values-e-gt-UNKNOWN.false _ c.edge_code.ensures
