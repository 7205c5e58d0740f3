-- `kept_rows::number_kept` meets its contract.
use mathlib.Core.Path.{refl, ◌∙◌}
use Rattle.kept_rows.proofs.Numbering.{counted_by}
use Rattle.graph.specs.Graph.{lent_of}
use Rattle.kept_rows.specs.Keeping.{with_kept}
use Rattle.kept_rows.proofs.Stepping.{number_needs, counted}
use Rattle.kept_rows.proofs.number_kept.Goals as goal

pub number-kept-requires-clause-flags : goal.number-kept-requires-clause-flags
number-kept-requires-clause-flags c = (number_needs (lent_of c.args.graph.now) c.args.marks.now c.requires.flags_ready c.flag_kept.ensures).1

pub returns-clause-value : goal.returns-clause-value
unfolding with_kept
returns-clause-value c =
    counted (lent_of c.args.graph.now) c.args.marks.now c.requires.flags_ready c.flag_kept.ensures c.number-kept.ensures.marks_after c.args.graph.now.inputs.now c.requires.ids_there
    c.number-kept.ensures.value (c.count_inputs-kept_inputs.ensures ∙ counted_by _ c.args.graph.now.inputs.now _ c.requires.ids_there.has)
    refl
