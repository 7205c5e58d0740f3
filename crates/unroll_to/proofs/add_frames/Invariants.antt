use Prim.Native.Nat.{◌-◌}
use Rattle.graph.specs.Graph.{lent_of}
use Rattle.output.specs.Tables.{lent_in, SameLists}
use Rattle.unroll_to.proofs.Going.{Going}
use Rattle.unroll_to.proofs.add_frames.Given as goal

abbrev pub invariant-loop-j : goal.invariant-loop-j
invariant-loop-j l =
    SameLists l.tables l.initial.tables ×
    Going (lent_in l.initial.tables l.initial.at) (lent_of l.graph) l.frames l.initial.marks (lent_in l.tables l.at) l.j l.marks

abbrev pub decreases-loop-j : goal.decreases-loop-j
decreases-loop-j l = l.frames - l.j
