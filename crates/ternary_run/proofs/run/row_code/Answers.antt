-- `ternary_run::run::row_code` meets its contract.
use native.Mathlib.Omega.{arith}
use mathlib.Core.Path.{sym, ap₂, ◌∙◌}
use Rattle.rows.proofs.Laws.{gate_below}
use Rattle.ternary_run.specs.Codes.{and3}
use Rattle.ternary_run.proofs.Coding.{edge_code}
use Rattle.ternary_run.proofs.Running.{row_gate, row_other}
use Rattle.ternary_run.proofs.run.row_code.Goals as goal

pub edge_code-requires : goal.edge_code-requires
edge_code-requires c = omega (arith, (gate_below _ _ _ (sym c.is_gate.ensures ∙ c.if-is_gate.true)).0)

pub edge_code-requires-then-is_gate : goal.edge_code-requires-then-is_gate
edge_code-requires-then-is_gate c = omega (arith, (gate_below _ _ _ (sym c.is_gate.ensures ∙ c.if-is_gate.true)).1)

pub and3-requires : goal.and3-requires
and3-requires c =
    let below = gate_below _ _ _ (sym c.is_gate.ensures ∙ c.if-is_gate.true) in
    (rw c.edge_code.ensures (edge_code _ _ (c.requires.codes _ below.0)), rw c.edge_code-then-is_gate.ensures (edge_code _ _ (c.requires.codes _ below.1)))

pub returns-then-is_gate : goal.returns-then-is_gate
returns-then-is_gate c =
    c.and3.ensures ∙
    (ap₂ and3 c.edge_code.ensures c.edge_code-then-is_gate.ensures ∙ sym
    (row_gate _ _ _ _ (sym c.is_gate.ensures ∙ c.if-is_gate.true)))

pub returns : goal.returns
returns c = sym (row_other _ _ _ _ (sym c.is_gate.ensures ∙ c.if-is_gate.false))
