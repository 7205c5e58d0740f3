use mathlib.Core.Path.{◌≡◌}
use lib.ListN.{drop}
use Rattle.root_marks.specs.Marking.{mark_edges}
use Rattle.root_marks.proofs.mark_edges.Given as goal

abbrev pub invariant-loop-e : goal.invariant-loop-e
invariant-loop-e l = mark_edges (drop l.e-index l.edges) l.marks ≡ mark_edges l.edges l.initial.marks
