-- Laws of the loops that flag rows.
-- Assumes nothing.
use Prim.Native.Nat.{ℕ, suc, ◌-◌, ◌/◌, ◌≤◌, ◌<◌}
use native.Mathlib.Omega.{arith}
use mathlib.Core.Path.{◌≡◌, refl, ap, ◌∙◌}
use mathlib.Core.Bool.{true, false, ◌&&◌}
use mathlib.Core.List.{List, [], ◌∷◌}
use borrow.Author.Tests.{lt-ltb}
use lib.ListN.{length, get_or, replicate, length-replicate}
use lib.Dec.{eqb}
use Rattle.edge.proofs.Tests.{both, both_true}
use Rattle.rows.specs.Rows.{word0, word1, is_gate, gate_at}
use Rattle.rows.proofs.Laws.{gate_below}
use Rattle.graph.specs.Leaves.{used_edge}
use Rattle.graph.specs.Check.{cleared}
use Rattle.root_marks.specs.Arguments.{every}
use Rattle.root_marks.specs.Marking.{mark_edges}
use Rattle.root_marks.proofs.Marking.{edges_long}
use Rattle.root_marks.proofs.Flagging.{cleared_all}
use Rattle.cone.specs.Cone.{mark_row, mark_below, cone_of}

-- ---- one row
module _ (rows : List ℕ) (i : ℕ) (flags : List ℕ) where
  pub row_stays : eqb (get_or flags i 0) 1 && gate_at rows i ≡ false → mark_row rows i flags ≡ flags
  unfolding mark_row
  row_stays h = rw h

  pub row_marks : eqb (get_or flags i 0) 1 && gate_at rows i ≡ true → mark_row rows i flags ≡ mark_edges (word0 rows i ∷ word1 rows i ∷ []) flags
  unfolding mark_row mark_edges
  row_marks h = rw h

-- the fanins of a row that passed the test stand below it
pub test_below : (flag i a b : ℕ) → eqb flag 1 && is_gate i a b ≡ true → (a / 2 < i) × (b / 2 < i)
test_below flag i a b h = gate_below i a b (both {a = eqb flag 1} {b = is_gate i a b} h).1

-- two edges to used rows
pub two_used : (n a b : ℕ) → a / 2 < n → b / 2 < n → every (used_edge n) (a ∷ b ∷ []) ≡ true
unfolding every
two_used n a b p q = both_true {a = used_edge n a} (lt-ltb (a / 2) n p) (both_true {a = used_edge n b} (lt-ltb (b / 2) n q) refl)

-- ---- from the last row down
module _ (rows : List ℕ) (i : ℕ) (flags : List ℕ) where
  pub below_turn : 0 < i → mark_below rows i flags ≡ mark_below rows (i - 1) (mark_row rows (i - 1) flags)
  unfolding mark_below
  below_turn l = let e : i ≡ suc (i - 1) = omega arith in ap (λ (k : ℕ). mark_below rows k flags) e

  pub below_end : i ≤ 0 → mark_below rows i flags ≡ flags
  unfolding mark_below
  below_end l = let e : i ≡ 0 = omega arith in rw e

-- ---- the three in a row
module _ (rows roots flags : List ℕ) {one : List ℕ} (a : one ≡ cleared (length flags) flags) where
  zeros : one ≡ replicate (length flags) 0
  zeros = a ∙ cleared_all flags (length flags) refl

  one_long : length one ≡ length flags
  one_long = ap length zeros ∙ length-replicate (length flags) 0

  pub still_used : every (used_edge (length flags)) roots ≡ true → every (used_edge (length one)) roots ≡ true
  still_used u = rw one_long u

  pub cone_written : {two three : List ℕ} → two ≡ mark_edges roots one → three ≡ mark_below rows (length two) two → three ≡ cone_of rows (length flags) roots
  unfolding cone_of
  cone_written b c = c ∙ (rw (b, edges_long roots one, one_long, zeros) refl)
