-- `property::gate_init::put` meets its contract.
use mathlib.Core.Path.{sym}
use lib.Seq.{set_out}
use Rattle.property.proofs.gate_init.put.Goals as goal

pub returns-else-k-list : goal.returns-else-k-list
returns-else-k-list c = sym (set_out c.args.list.now c.args.k c.args.e c.if-k-list.false)
