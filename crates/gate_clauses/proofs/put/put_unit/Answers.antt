-- `gate_clauses::put::put_unit` meets its contract.
use Rattle.gate_clauses.proofs.Writing.{no_room_lem, unit_long, put_unit}
use Rattle.gate_clauses.specs.Shapes.{unit, words}
use mathlib.Core.Path.{◌∙◌}
use mathlib.Core.List.{[], ◌∷◌}
use Rattle.gate_clauses.proofs.put.put_unit.Goals as goal

pub returns-then-clauses-lt2 : goal.returns-then-clauses-lt2
returns-then-clauses-lt2 c = no_room_lem c.args.clauses.now 0 (words (unit ∷ [])) unit_long c.if-clauses-lt2.true

pub returns : goal.returns
returns c = λ _. c.put_clause.ensures ∙ put_unit c.args.clauses.now
