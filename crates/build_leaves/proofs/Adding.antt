-- Laws of the calls that add a row or list a leaf.
-- Assumes nothing.
use Prim.Native.Nat.{ℕ, ◌≤◌, ◌<◌}
use native.Mathlib.Omega.{arith}
use mathlib.Core.Path.{◌≡◌}
use mathlib.Core.Bool.{Bool, true, ◌&&◌}
use mathlib.Core.List.{List}
use lib.Dec.{eqb, ltb}
use borrow.Author.Tests.{ltb-true}
use Rattle.edge.specs.Answers.{done}
use Rattle.edge.proofs.Tests.{both}
use Rattle.rows.specs.Sizes.{max_rows, max_entries, fits, rows_fit}
use Rattle.rows.proofs.Laws.{rows_fit_lem}
use Rattle.build_leaves.specs.Leaves.{free_row, leaf_answer, entry_answer}
use Rattle.build_leaves.proofs.Answering.{all_three}

-- ---- where nothing is refused, there is room
pub limit : (used : ℕ) (rows : List ℕ) → rows_fit used rows ≡ true → used ≤ max_rows
limit used rows h = let r = rows_fit_lem used rows h in omega (arith, r.fit.within, r.fit.limited)

pub leaf_fits : (rows : List ℕ) (used : ℕ) → done ≡ leaf_answer rows used → used ≤ max_rows
unfolding leaf_answer
leaf_fits rows used p = limit used rows (all_three (rows_fit used rows) true (free_row rows used) (rw (← p))).0

-- where an entry is taken
pub entry_told : (rows : List ℕ) (used n lent : ℕ) (good row : Bool) → eqb (entry_answer rows used n lent good row).number 0 ≡ true
    → (rows_fit used rows ≡ true) × (good ≡ true) × (row ≡ true) × (n < lent)
entry_told rows used n lent good row h =
    let t = all_three (rows_fit used rows && fits n lent max_entries) good (row && ltb n lent) h in
    let s = both {a = rows_fit used rows} {b = fits n lent max_entries} t.0 in
    let u = both {a = row} {b = ltb n lent} t.2 in
    (s.0, t.1, u.0, ltb-true n lent u.1)
