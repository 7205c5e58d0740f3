use Prim.Native.Nat.{◌+◌, ◌≤◌}
use mathlib.Core.Path.{◌≡◌}
use lib.ListN.{length}
use lib.Seq.{sets}
use Rattle.cnf.proofs.Walking.{words_left}
use Rattle.cnf.proofs.walk.put_rows.Given as goal

abbrev pub invariant-loop-i : goal.invariant-loop-i
invariant-loop-i l =
    (length l.marks ≡ length l.initial.marks) × (length l.clauses ≡ length l.initial.clauses) ×
    (l.at + length (words_left l.shortcuts l.rows l.i l.marks) ≡ 2 + length (words_left l.shortcuts l.rows (length l.initial.marks) l.initial.marks)) ×
    (2 + length (words_left l.shortcuts l.rows (length l.initial.marks) l.initial.marks) ≤ length l.initial.clauses → sets l.clauses l.at (words_left l.shortcuts l.rows l.i l.marks) ≡ sets
    l.initial.clauses 2 (words_left l.shortcuts l.rows (length l.initial.marks) l.initial.marks))
