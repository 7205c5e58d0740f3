use Prim.Native.Nat.{◌≤◌}
use mathlib.Core.Path.{◌≡◌}
use lib.ListN.{length}
use Rattle.output.specs.Writing.{written}
use Rattle.merge.specs.Merge.{shifted}
use Rattle.merge.proofs.fill.Given as goal

abbrev pub invariant-loop-i : goal.invariant-loop-i
invariant-loop-i l = (l.i ≤ length l.map) × (l.map ≡ written l.initial.map 0 (shifted l.by) l.i)
