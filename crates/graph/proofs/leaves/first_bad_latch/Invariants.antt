use Prim.Native.Nat.{◌-◌, ◌≤◌}
use mathlib.Core.Path.{◌≡◌}
use mathlib.Core.List.{◌++◌}
use lib.ListN.{length, take, drop}
use Rattle.graph.specs.Search.{first_bad}
use Rattle.graph.specs.Latches.{latch_inputs}
use Rattle.graph.specs.Leaves.{good_latch, Marks}
use Rattle.graph.proofs.leaves.first_bad_latch.Given as goal

abbrev pub invariant-loop-i : goal.invariant-loop-i
invariant-loop-i l =
    (l.i ≤ l.graph.counts.latches) × (length l.marks ≡ length l.initial.marks) × (drop l.graph.counts.rows l.marks ≡ drop l.graph.counts.rows l.initial.marks) × Marks l.graph.counts.rows
    (take l.graph.counts.inputs l.graph.inputs.now ++ latch_inputs l.graph.latches.now l.i) l.marks ×
    (first_bad (good_latch l.graph.rows.now l.graph.counts.rows (take l.graph.counts.inputs l.graph.inputs.now) l.graph.latches.now) 0 l.graph.counts.latches ≡ first_bad
    (good_latch l.graph.rows.now l.graph.counts.rows (take l.graph.counts.inputs l.graph.inputs.now) l.graph.latches.now) l.i (l.graph.counts.latches - l.i))

abbrev pub decreases-loop-i : goal.decreases-loop-i
decreases-loop-i l = l.graph.counts.latches - l.i
