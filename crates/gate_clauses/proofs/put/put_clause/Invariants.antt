use Prim.Native.Nat.{◌+◌}
use mathlib.Core.Path.{◌≡◌}
use lib.ListN.{drop}
use lib.Seq.{sets}
use Rattle.gate_clauses.proofs.put.put_clause.Given as goal

abbrev pub invariant-loop-i : goal.invariant-loop-i
invariant-loop-i g l = sets l.clauses (l.at + 1 + l.i) (drop l.i l.literal-items) ≡ sets l.initial.clauses (l.at + 1) l.literal-items
