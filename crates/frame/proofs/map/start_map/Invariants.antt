use lib.ListN.{length}
use Prim.Native.Nat.{◌-◌, ◌≤◌}
use mathlib.Core.Path.{◌≡◌}
use Rattle.frame.specs.Map.{nexts_mapped}
use Rattle.frame.proofs.map.start_map.Given as goal

abbrev pub invariant-loop-j : goal.invariant-loop-j
invariant-loop-j l = (l.j ≤ l.j-end) × (length l.map ≡ length l.initial.map) × (l.map ≡ nexts_mapped l.target.latches.now l.j l.initial.map)

abbrev pub decreases-loop-j : goal.decreases-loop-j
decreases-loop-j l = l.j-end - l.j
