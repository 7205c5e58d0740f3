-- `frame::most` meets its contract.
use native.Mathlib.Omega.{arith}
use mathlib.Core.Path.{refl}
use Rattle.graph.specs.Graph.{lent_of}
use Rattle.frame.proofs.Ready.{part_within, few, addable}
use Rattle.frame.proofs.Bounding.{leaves_few, most_told}
use Rattle.frame.proofs.most.Goals as goal

pub start_map-requires-clause-latches_within : goal.start_map-requires-clause-latches_within
start_map-requires-clause-latches_within c = part_within (lent_of c.args.target.now) (lent_of c.args.graph.now) c.args.marks.now refl c.requires

pub overflow_add-at-2 : goal.overflow_add-at-2
overflow_add-at-2 c =
    let one = lent_of c.args.target.now in
    let other = lent_of c.args.graph.now in
    let w = leaves_few one other c.args.marks.now c.requires.from.marked c.start_map.ensures c.new_leaves-leaves.ensures in
    omega (arith, w, (addable one _ c.requires.target).inputs, few one other _ c.requires)

pub returns-clause-value : goal.returns-clause-value
returns-clause-value c =
    most_told (lent_of c.args.target.now) (lent_of c.args.graph.now) c.args.marks.now c.requires.from.marked c.start_map.ensures c.new_leaves-leaves.ensures c.raised.ensures
