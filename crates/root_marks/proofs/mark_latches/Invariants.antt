use Prim.Native.Nat.{◌-◌, ◌≤◌}
use mathlib.Core.Path.{◌≡◌}
use lib.ListN.{length}
use Rattle.root_marks.specs.Marking.{mark_edges}
use Rattle.root_marks.specs.Roots.{latch_roots}
use Rattle.root_marks.proofs.mark_latches.Given as goal

abbrev pub invariant-loop-i : goal.invariant-loop-i
invariant-loop-i l = (l.i ≤ l.n) × (length l.marks ≡ length l.initial.marks) × (l.marks ≡ mark_edges (latch_roots l.latches l.i) l.initial.marks)

abbrev pub decreases-loop-i : goal.decreases-loop-i
decreases-loop-i l = l.n - l.i
