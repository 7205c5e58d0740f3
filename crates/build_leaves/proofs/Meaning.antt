-- What the calls that make a row or a leaf mean.
-- Assumes nothing.
use Prim.Native.Nat.{ℕ, ◌+◌, ◌*◌, ◌≤◌, ◌<◌}
use native.Mathlib.Omega.{arith}
use mathlib.Core.Path.{◌≡◌, refl}
use mathlib.Core.Bool.{true}
use mathlib.Core.List.{List, []}
use lib.ListN.{length}
use lib.Dec.{ltb, leb}
use borrow.Author.Tests.{ltb-true, eq-eqb}
use Rattle.edge.specs.declared.answer.Given.{Given}
use Rattle.rows.specs.Sizes.{max_rows, rows_lent, rows_fit}
use Rattle.rows.specs.Rows.{word0, word1, false_word, none, is_false_row, is_row, leaf_at, AllRows}
use Rattle.rows.proofs.Laws.{rows_fit_lem}
use Rattle.rows.proofs.Value.{value_leaf}
use Rattle.graph.specs.declared.Counts.{Counts}
use Rattle.build_leaves.specs.Calls.{constructor_answer, counted, Left, left, call_of}
use Rattle.gates.specs.Gates.{state, first_row, leaf_added}
use Rattle.build_leaves.specs.Leaves.{new_call, free_row, leaf_answer, leaf_call, input_answer, new_input_call}
use Rattle.gates.specs.Meaning.{Grows}
use Rattle.build_leaves.specs.Meaning.{IsLeaf, Leaves}
use Rattle.build_leaves.proofs.Answering.{all_three}
use Rattle.build_leaves.proofs.Adding.{entry_told}
use Rattle.gates.proofs.Growing.{leaf_here, leaf_row, row_first, row_second, row_grows}
use Rattle.build_leaves.proofs.Keeping.{keeps}

-- ---- one is made
module _ (rows : List ℕ) (n : Counts) (sizes : rows_fit n.rows rows ≡ true) (free : free_row rows n.rows ≡ true) where
  some : 0 < n.rows
  some = (rows_fit_lem n.rows rows sizes).some

  room : n.rows + 1 ≤ rows_lent rows
  room = let l = ltb-true n.rows (rows_lent rows) free in omega arith

  limit : n.rows + 1 ≤ max_rows
  limit = omega (arith, room, (rows_fit_lem n.rows rows sizes).fit.limited)

  pub leaf_grows : Grows rows n.rows (state (leaf_added rows n.rows) (n.rows + 1) (2 * n.rows))
  leaf_grows = row_grows rows n.rows none 0 room (leaf_row n.rows some)

  is_leaf_lem : leaf_at (leaf_added rows n.rows) n.rows ≡ true
  is_leaf_lem = rw (row_first rows n.rows none 0 room, row_second rows n.rows none 0 room) (leaf_here n.rows some)

  pub leaf_made : (list : List ℕ) (i l : ℕ) → IsLeaf rows n.rows (left (leaf_added rows n.rows) list (counted n (n.rows + 1) i l) n.rows)
  unfolding counted
  leaf_made list i l =
      record {
        keeps = keeps rows n (state (leaf_added rows n.rows) (n.rows + 1) (2 * n.rows)) leaf_grows room list i l n.rows;
        id = refl;
        next = refl;
        is_leaf = is_leaf_lem;
        chosen = λ leaf. value_leaf (leaf_added rows n.rows) (n.rows + 1) leaf limit n.rows (omega arith) is_leaf_lem;
      }

-- ---- the calls
pub first_good : (rows : List ℕ) → 1 ≤ rows_lent rows → (i : ℕ) → i < 1 → is_row i (word0 (first_row rows) i) (word1 (first_row rows) i) ≡ true
unfolding is_row is_false_row
first_good rows l i m = (row_grows rows 0 false_word 0 l refl).good i (omega arith) m

-- a leaf is made where a call that asks for a free row is done
module _ (rows list : List ℕ) (n : Counts) (i l : ℕ) where
  abbrev pub after : List ℕ → Left
  after list = left (leaf_added rows n.rows) list (counted n (n.rows + 1) i l) n.rows

  pub went : (g : Given) (now : List ℕ) → (g.number ≡ 0 → (rows_fit n.rows rows ≡ true) × (free_row rows n.rows ≡ true)) → (call_of g rows list n (after now)).given.number ≡ 0
      → IsLeaf rows n.rows (call_of g rows list n (after now)).left
  unfolding call_of
  went g now told z =
      let t = told z in
      rw (eq-eqb g.number 0 z) (leaf_made rows n t.0 t.1 now i l)

module _ (rows : List ℕ) (n : Counts) where
  pub leaf_told : (leaf_answer rows n.rows).number ≡ 0 → (rows_fit n.rows rows ≡ true) × (free_row rows n.rows ≡ true)
  unfolding leaf_answer
  leaf_told z = let t = all_three (rows_fit n.rows rows) true (free_row rows n.rows) (eq-eqb _ 0 z) in (t.0, t.2)

  first : (new_call rows).given.number ≡ 0 → AllRows (new_call rows).left.rows 1
  unfolding new_call call_of
  first z =
      let h = eq-eqb (constructor_answer (leb (rows_lent rows) max_rows) true (ltb 0 (rows_lent rows))).number 0 z in
      let t = all_three (leb (rows_lent rows) max_rows) true (ltb 0 (rows_lent rows)) h in
      rw h (first_good rows (ltb-true 0 (rows_lent rows) t.2))

  pub leaves : Leaves rows n
  unfolding leaf_call new_input_call input_answer
  leaves =
      record {
        first = first;
        leaf = went rows [] n n.inputs n.latches (leaf_answer rows n.rows) [] leaf_told;
        input = λ inputs. went rows inputs n (n.inputs + 1) n.latches _ _ (λ z. let t = entry_told rows n.rows n.inputs (length inputs) true (free_row rows n.rows) (eq-eqb _ 0 z) in (t.0, t.2));
      }
