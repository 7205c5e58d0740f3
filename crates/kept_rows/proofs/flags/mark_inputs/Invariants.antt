use Prim.Native.Nat.{◌≤◌}
use mathlib.Core.Path.{◌≡◌}
use Rattle.root_marks.specs.Marking.{mark_edges}
use Rattle.kept_rows.specs.Kept.{input_edges}
use Rattle.kept_rows.proofs.flags.mark_inputs.Given as goal

abbrev pub invariant-loop-k : goal.invariant-loop-k
invariant-loop-k l = (l.k ≤ l.n) × (l.marks ≡ mark_edges (input_edges l.latches l.k) l.initial.marks)
