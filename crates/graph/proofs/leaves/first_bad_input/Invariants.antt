use Prim.Native.Nat.{◌-◌, ◌≤◌}
use mathlib.Core.Path.{◌≡◌}
use lib.ListN.{length, take, drop}
use Rattle.graph.specs.Search.{first_bad}
use Rattle.graph.specs.Leaves.{good_input, Marks}
use Rattle.graph.proofs.leaves.first_bad_input.Given as goal

abbrev pub invariant-loop-i : goal.invariant-loop-i
invariant-loop-i l =
    (l.i ≤ l.graph.counts.inputs) × (length l.marks ≡ length l.initial.marks) × (drop l.graph.counts.rows l.marks ≡ drop l.graph.counts.rows l.initial.marks) × Marks l.graph.counts.rows
    (take l.i l.graph.inputs.now) l.marks ×
    (first_bad (good_input l.graph.rows.now l.graph.counts.rows l.graph.inputs.now) 0 l.graph.counts.inputs ≡ first_bad (good_input l.graph.rows.now l.graph.counts.rows l.graph.inputs.now)
    l.i (l.graph.counts.inputs - l.i))

abbrev pub decreases-loop-i : goal.decreases-loop-i
decreases-loop-i l = l.graph.counts.inputs - l.i
