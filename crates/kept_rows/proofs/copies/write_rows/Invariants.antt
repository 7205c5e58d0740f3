use Prim.Native.Nat.{ℕ, ◌≤◌}
use Rattle.renumber.specs.Renumber.{by}
use Rattle.kept_rows.specs.Keeping.{word_put, numbered}
use Rattle.kept_rows.specs.Copying.{row_put}
use Rattle.kept_rows.proofs.Copying.{Keeping}
use Rattle.kept_rows.proofs.copies.write_rows.Given as goal

abbrev pub invariant-loop-i : goal.invariant-loop-i
invariant-loop-i l = (l.i ≤ l.used) × Keeping (numbered l.map) (row_put (by l.map) l.rows) l.initial.out l.i l.out l.k × Keeping (numbered l.map) (word_put (λ (j : ℕ). j)) l.initial.old l.i l.old l.k
