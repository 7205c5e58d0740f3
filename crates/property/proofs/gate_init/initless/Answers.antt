-- `property::gate_init::initless` meets its contract.
use mathlib.Core.Path.{sym, ◌∙◌}
use Rattle.property.proofs.Initless.{initless_gated, initless_left}
use Rattle.property.proofs.gate_init.initless.Goals as goal

pub returns-then-is_gated : goal.returns-then-is_gated
returns-then-is_gated c = c.without_init.ensures ∙ sym (initless_gated c.args.l (sym c.is_gated.ensures ∙ c.if-is_gated.true))

pub returns : goal.returns
returns c = sym (initless_left c.args.l (sym c.is_gated.ensures ∙ c.if-is_gated.false))
