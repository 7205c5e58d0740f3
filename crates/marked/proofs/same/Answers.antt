-- `marked::same` meets its contract.
use mathlib.Core.Path.{◌∙◌}
use Rattle.std.proofs.lemmas.Bool.Decides.{same_from_decides}
use Rattle.std.proofs.lemmas.Slice.Eq.{bytes_eq-Decides}
use Rattle.marked.proofs.Telling.{same_tells}
use Rattle.marked.proofs.same.Goals as goal

pub returns : goal.returns
returns c = c.eq.ensures ∙ same_from_decides _ _ (bytes_eq-Decides c.args.a.now c.args.b.now) (same_tells c.args.a.now c.args.b.now)
