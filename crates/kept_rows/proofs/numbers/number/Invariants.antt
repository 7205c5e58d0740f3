use Rattle.kept_rows.proofs.Numbering.{Numbering}
use Prim.Native.Nat.{◌≤◌}
use lib.ListN.{length}
use Rattle.kept_rows.proofs.numbers.number.Given as goal

abbrev pub invariant-loop-mark : goal.invariant-loop-mark
invariant-loop-mark l = (l.mark-index ≤ length l.marks) × Numbering l.initial.marks l.mark-index l.marks l.k
