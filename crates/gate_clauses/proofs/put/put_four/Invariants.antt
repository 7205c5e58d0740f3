use Prim.Native.Nat.{◌+◌, ◌*◌}
use mathlib.Core.Path.{◌≡◌}
use lib.ListN.{length, drop}
use lib.Seq.{sets}
use Rattle.gate_clauses.specs.Shapes.{words}
use Rattle.gate_clauses.proofs.put.put_four.Given as goal

abbrev pub invariant-loop-i : goal.invariant-loop-i
invariant-loop-i l = (length l.clauses ≡ length l.initial.clauses) × (sets l.clauses (l.at + 4 * l.i) (words (drop l.i l.clause-items)) ≡ sets l.initial.clauses l.at (words l.clause-items))
