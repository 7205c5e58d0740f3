use Prim.Native.Nat.{◌-◌, ◌≤◌}
use mathlib.Core.Path.{◌≡◌}
use lib.ListN.{length}
use Rattle.renumber.specs.Renumber.{latches_written, by}
use Rattle.renumber.proofs.write_latches.Given as goal

abbrev pub invariant-loop-j : goal.invariant-loop-j
invariant-loop-j l = (l.j ≤ l.n) × (length l.out ≡ length l.initial.out) × (l.out ≡ latches_written (by l.map) l.initial.out l.at l.latches l.j)

abbrev pub decreases-loop-j : goal.decreases-loop-j
decreases-loop-j l = l.n - l.j
