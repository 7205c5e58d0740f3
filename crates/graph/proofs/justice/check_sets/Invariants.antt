use Prim.Native.Nat.{◌-◌, ◌≤◌}
use mathlib.Core.Path.{◌≡◌}
use Rattle.std.specs.Prelude.{Ok}
use Rattle.graph.specs.Search.{first_bad}
use Rattle.graph.specs.Leaves.{good_edge}
use Rattle.graph.specs.Justice.{start}
use Rattle.graph.proofs.justice.check_sets.Given as goal

abbrev pub invariant-loop-k : goal.invariant-loop-k
invariant-loop-k l =
    (l.from ≤ l.k) × (l.k ≤ l.end) × (l.answer ≡ Ok tt) ×
    (first_bad (good_edge l.graph.counts.rows l.graph.edges.now) 0 l.graph.counts.edges ≡ first_bad (good_edge l.graph.counts.rows l.graph.edges.now) l.k (l.graph.counts.edges - l.k))

abbrev pub decreases-loop-k : goal.decreases-loop-k
decreases-loop-k l = l.end - l.k

abbrev pub invariant-sets : goal.invariant-sets
invariant-sets l =
    (l.s ≤ l.graph.counts.sets) × (l.answer ≡ Ok tt) × (l.from ≡ start l.graph.ends.now l.s) ×
    (first_bad (good_edge l.graph.counts.rows l.graph.edges.now) 0 l.graph.counts.edges ≡ first_bad (good_edge l.graph.counts.rows l.graph.edges.now) l.from (l.graph.counts.edges - l.from))

abbrev pub decreases-sets : goal.decreases-sets
decreases-sets l = l.graph.counts.sets - l.s
