-- `frame::needed` meets its contract.
use mathlib.Core.Path.{refl}
use mathlib.Core.List.{[]}
use Rattle.graph.specs.Graph.{lent_of}
use Rattle.frame.proofs.Ready.{part_within, built, need_told}
use Rattle.frame.proofs.needed.Goals as goal

pub start_map-requires-clause-latches_within : goal.start_map-requires-clause-latches_within
start_map-requires-clause-latches_within c = part_within (lent_of c.args.target.now) (lent_of c.args.graph.now) c.args.marks.now refl c.requires

pub returns-clause-value : goal.returns-clause-value
returns-clause-value c =
    let one = lent_of c.args.target.now in
    let other = lent_of c.args.graph.now in
    need_told one.counts one.latches other.rows other.counts
    (built one other c.args.marks.now refl c.requires.from.marked c.start_map.ensures [] [] c.frame_rows-reached.ensures) c.raised.ensures
