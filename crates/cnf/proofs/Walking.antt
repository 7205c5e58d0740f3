-- Laws of the walk over the rows, from the last one down.
-- Assumes nothing.
use Prim.Native.Nat.{ℕ, suc, ◌+◌, ◌-◌, ◌*◌, ◌≤◌, ◌<◌}
use native.Mathlib.Omega.{arith}
use mathlib.Core.Bool.{Bool, true, false, not, ◌&&◌}
use mathlib.Core.Logic.{◌⊎◌, inl, inr}
use mathlib.Core.Path.{◌≡◌, sym, ap, ◌∙◌}
use mathlib.Core.List.{List, [], ◌∷◌, ◌++◌}
use lib.ListN.{length, get_or, length-append}
use lib.Seq.{sets}
use lib.Dec.{eqb}
use borrow.Author.Tests.{ltb-true, lt-ltb, not-true, not-false}
use Rattle.edge.specs.Edges.{id_of}
use Rattle.edge.proofs.Tests.{both}
use Rattle.rows.specs.Sizes.{max_rows}
use Rattle.rows.specs.Rows.{word0, word1, gate_at}
use Rattle.graph.specs.Leaves.{used_edge}
use Rattle.root_marks.specs.Arguments.{every}
use Rattle.root_marks.specs.Marking.{mark_edges}
use Rattle.root_marks.proofs.Arguments.{every_at, at_every}
use Rattle.gate_clauses.specs.declared.Shape.{Shape}
use Rattle.gate_clauses.specs.declared.Shape.TheVariants.{Unwritten, Plain, Xor, Ite}
use Rattle.gate_clauses.specs.Shapes.{shape_of, operands, clauses_of, words, WrittenIfRoom}
use Rattle.cnf.specs.Clauses.{written_at, walk}
use Rattle.cnf.proofs.Fitting.{shape_fits}
use Rattle.graph.proofs.Counting.{count_within}
use Rattle.cnf.proofs.Decoding.{words_both, walk_few}
use Rattle.gate_clauses.proofs.Writing.{sets_both}

-- ---- the operands of a shape
pub no_operands : (s : Shape) → s ≡ Unwritten → operands s ≡ []
unfolding operands
no_operands s e = rw e

pub two_operands : (s : Shape) (a b : ℕ) → (s ≡ Plain a b) ⊎ (s ≡ Xor a b) → operands s ≡ a ∷ b ∷ []
unfolding operands
two_operands s a b (inl e) = rw e
two_operands s a b (inr e) = rw e

pub ite_operands : (s : Shape) (c t e : ℕ) → s ≡ Ite c t e → operands s ≡ c ∷ t ∷ e ∷ []
unfolding operands
ite_operands s c t e q = rw q

pub mark_none : (marks es : List ℕ) → es ≡ [] → marks ≡ mark_edges es marks
unfolding mark_edges
mark_none marks es e = rw e

-- ---- one row
module _ (shortcuts : Bool) (rows : List ℕ) (i : ℕ) (marks : List ℕ) {t : Bool} (p : t ≡ gate_at rows i) where
  pub row_passed : not (eqb (get_or marks i 0) 1 && t) ≡ true → Unwritten ≡ written_at shortcuts rows i marks
  unfolding written_at
  row_passed h = rw (← p, not-true (eqb (get_or marks i 0) 1 && t) h)

  module _ (h : not (eqb (get_or marks i 0) 1 && t) ≡ false) where
    pub row_gate : gate_at rows i ≡ true
    row_gate = sym p ∙ (both {a = eqb (get_or marks i 0) 1} {b = t} (not-false (eqb (get_or marks i 0) 1 && t) h)).1

    pub row_written : shape_of shortcuts rows (word0 rows i) (word1 rows i) ≡ written_at shortcuts rows i marks
    unfolding written_at
    row_written = rw (← p, not-false (eqb (get_or marks i 0) 1 && t) h)

    -- its operands stand below it
    pub row_low : i < length marks → every (used_edge (length marks)) (operands (shape_of shortcuts rows (word0 rows i) (word1 rows i))) ≡ true
    row_low l =
        let s = shape_of shortcuts rows (word0 rows i) (word1 rows i) in
        let low = (shape_fits shortcuts rows (λ (_ : ℕ). false) i row_gate).low in
        at_every (used_edge (length marks)) (operands s) (λ k b.
        let u : id_of (get_or (operands s) k 0) < i = ltb-true (id_of (get_or (operands s) k 0)) i (every_at (used_edge i) (operands s) low k b) in
        lt-ltb (id_of (get_or (operands s) k 0)) (length marks) (omega arith))

-- ---- all rows
abbrev pub words_left : Bool → List ℕ → ℕ → List ℕ → List ℕ
words_left shortcuts rows i marks = words (walk shortcuts rows i marks)

module _ (shortcuts : Bool) (rows : List ℕ) where
  pub left_end : (i : ℕ) (marks : List ℕ) → i ≤ 0 → words_left shortcuts rows i marks ≡ []
  unfolding walk words
  left_end i marks l = let e : i ≡ 0 = omega arith in rw e

  pub place_end : (i : ℕ) (marks : List ℕ) → i ≤ 0 → (n : ℕ) {total : ℕ} → n + length (words_left shortcuts rows i marks) ≡ total → n ≡ total
  place_end i marks l n h = omega (arith, ap length (left_end i marks l))

  pub write_end : (i : ℕ) (marks : List ℕ) → i ≤ 0 → (out : List ℕ) (at : ℕ) {whole : List ℕ} → sets out at (words_left shortcuts rows i marks) ≡ whole → out ≡ whole
  write_end i marks l out at h = rw (left_end i marks l) at h

  -- no more than fits in a word
  pub left_few : (i : ℕ) (marks : List ℕ) → i ≤ max_rows → length (words_left shortcuts rows i marks) ≤ 16777216
  left_few i marks l = omega (arith, walk_few shortcuts rows i marks, count_within (gate_at rows) i)

  -- row i - 1 is next, written as s
  module _ (i : ℕ) (marks : List ℕ) (l : 0 < i) (s : Shape) (e : s ≡ written_at shortcuts rows (i - 1) marks) where
    pub left_turn : words_left shortcuts rows i marks ≡ words (clauses_of (2 * (i - 1)) s) ++ words_left shortcuts rows (i - 1) (mark_edges (operands s) marks)
    unfolding walk
    left_turn =
        let d : i ≡ suc (i - 1) = omega arith in
        ap (λ (k : ℕ). words_left shortcuts rows k marks) d ∙
        (words_both (clauses_of (2 * (i - 1)) (written_at shortcuts rows (i - 1) marks)) (walk shortcuts rows (i - 1) (mark_edges (operands (written_at shortcuts rows (i - 1) marks)) marks)) ∙
        rw e)

    pub left_size : length (words_left shortcuts rows i marks) ≡ length (words (clauses_of (2 * (i - 1)) s)) + length (words_left shortcuts rows (i - 1) (mark_edges (operands s) marks))
    left_size = ap length left_turn ∙ length-append (words (clauses_of (2 * (i - 1)) s)) _

    -- ---- the loop: the clauses of row i - 1 are written, and the others after them
    module _ {after : List ℕ} (at : ℕ) {end : ℕ} (marked : after ≡ mark_edges (operands s) marks) (behind : end ≡ at + length (words (clauses_of (2 * (i - 1)) s))) where
      pub place_turn : {total : ℕ} → at + length (words_left shortcuts rows i marks) ≡ total → end + length (words_left shortcuts rows (i - 1) after) ≡ total
      place_turn h = rw marked (omega (arith, left_size))

      pub write_turn : (out : List ℕ) {next whole : List ℕ} → WrittenIfRoom out at (words (clauses_of (2 * (i - 1)) s)) next → at + length (words_left shortcuts rows i marks) ≤ length out
          → sets out at (words_left shortcuts rows i marks) ≡ whole → sets next end (words_left shortcuts rows (i - 1) after) ≡ whole
      write_turn out p room h =
          rw (marked, behind, p (omega (arith, left_size)))
          (sym (sets_both out (words (clauses_of (2 * (i - 1)) s)) (words_left shortcuts rows (i - 1) (mark_edges (operands s) marks)) at) ∙ (ap (sets out at) (sym left_turn) ∙ h))
