use Prim.Native.Nat.{◌-◌, ◌≤◌}
use mathlib.Core.Path.{◌≡◌}
use Rattle.rows.specs.Rows.{row_at}
use Rattle.graph.specs.Search.{first_bad}
use Rattle.graph.proofs.contents.first_bad_row.Given as goal

abbrev pub invariant-loop-i : goal.invariant-loop-i
invariant-loop-i l = (l.i ≤ l.used) × (first_bad (row_at l.rows) 0 l.used ≡ first_bad (row_at l.rows) l.i (l.used - l.i))

abbrev pub decreases-loop-i : goal.decreases-loop-i
decreases-loop-i l = l.used - l.i
