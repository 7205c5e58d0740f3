use Prim.Native.Nat.{◌-◌, ◌≤◌}
use mathlib.Core.Path.{◌≡◌}
use Rattle.graph.specs.Search.{first_bad}
use Rattle.graph.specs.Justice.{start, good_end}
use Rattle.graph.proofs.justice.first_bad_end.Given as goal

abbrev pub invariant-loop-s : goal.invariant-loop-s
invariant-loop-s l = (l.s ≤ l.sets) × (l.before ≡ start l.ends l.s) × (first_bad (good_end l.ends l.sets l.edges) 0 l.sets ≡ first_bad (good_end l.ends l.sets l.edges) l.s (l.sets - l.s))

abbrev pub decreases-loop-s : goal.decreases-loop-s
decreases-loop-s l = l.sets - l.s
