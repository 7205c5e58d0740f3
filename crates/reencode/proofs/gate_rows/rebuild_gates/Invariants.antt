use Prim.Native.Nat.{◌+◌, ◌≤◌}
use mathlib.Core.Path.{◌≡◌}
use lib.ListN.{drop}
use Rattle.renumber.specs.Renumber.{by}
use Rattle.graph.specs.Count.{gates_below}
use Rattle.reencode.specs.Numbers.{numbered}
use Rattle.reencode.specs.Rebuilding.{gates_added}
use Rattle.reencode.proofs.Numbering.{Halfway}
use Rattle.reencode.proofs.gate_rows.rebuild_gates.Given as goal

abbrev pub invariant-loop-i : goal.invariant-loop-i
invariant-loop-i l =
    (l.i ≤ l.used) × (l.k ≡ l.first + gates_below l.rows l.i) ×
    (l.out ≡ gates_added (numbered l.rows l.first (by l.initial.marks)) l.rows l.first l.initial.out l.i) × Halfway (numbered l.rows l.first (by l.initial.marks)) l.initial.marks l.i l.marks
    × (drop l.used l.marks ≡ drop l.used l.initial.marks)
