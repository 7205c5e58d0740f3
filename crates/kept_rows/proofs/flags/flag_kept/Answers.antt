-- `kept_rows::flags::flag_kept` meets its contract.
use mathlib.Core.Path.{refl}
use Rattle.graph.specs.Graph.{lent_of}
use Rattle.kept_rows.proofs.Flagging.{kept_flagged}
use Rattle.kept_rows.proofs.flags.flag_kept.Goals as goal

pub returns : goal.returns
returns c = kept_flagged (lent_of c.args.graph.now) c.args.marks.now c.requires refl c.mark_roots.ensures c.mark_inputs.ensures c.mark_below.ensures
