-- The clauses translate the circuit: its own values meet them, and what meets them has its values at the roots.
-- Assumes nothing.
use Prim.Native.Nat.{ℕ, zero, suc, ◌*◌, ◌≤◌, ◌<◌}
use native.Mathlib.Omega.{arith}
use native.Mathlib.Nat.{eq-or-lt_of_le}
use mathlib.Core.Bool.{Bool, true, false, not, ◌&&◌, ◌||◌, and_assoc, or-false}
use mathlib.Core.Path.{◌≡◌, refl, sym, ◌∙◌}
use mathlib.Core.Logic.{◌⊎◌, inl, inr, ⊎_elim}
use mathlib.Core.List.{List, [], ◌∷◌, ◌++◌}
use lib.ListN.{length, get_or, replicate, length-replicate}
use lib.Dec.{eqb}
use borrow.Author.Tests.{eq-eqb, eqb-true, ltb-true, not-true}
use Rattle.edge.specs.Edges.{id_of}
use Rattle.edge.specs.Meaning.{edge_value}
use Rattle.edge.proofs.Tests.{both, either}
use Rattle.rows.specs.Rows.{word0, word1, false_word, is_false_row, is_row, leaf_at, gate_at, AllRows}
use Rattle.rows.specs.Value.{value}
use Rattle.rows.proofs.Value.{value_zero, value_other, value_leaf}
use Rattle.graph.specs.Leaves.{used_edge}
use Rattle.graph.specs.Graph.{Lent, Sized}
use Rattle.graph.specs.WellFormed.{WellFormed}
use Rattle.root_marks.specs.Flags.{Flagged}
use Rattle.root_marks.specs.Marking.{mark_edges}
use Rattle.root_marks.specs.Roots.{roots_of}
use Rattle.root_marks.proofs.Arguments.{every_at}
use Rattle.root_marks.proofs.Flagging.{same_edge}
use Rattle.root_marks.proofs.Marking.{edges_long, edges_keep, edges_flagged}
use Rattle.root_marks.proofs.Roots.{roots_known}
use Rattle.gate_clauses.specs.declared.Shape.{Shape}
use Rattle.gate_clauses.specs.declared.Shape.TheVariants.{Unwritten}
use Rattle.gate_clauses.specs.Shapes.{shape_of, operands, clauses_of, unit}
use Rattle.cnf.specs.Clauses.{written_at, walk, clauses_in, cnf_of}
use Rattle.cnf.specs.Meaning.{holds, meets, Translates}
use Rattle.cnf.proofs.Booleans.{cond_case, beq_true, beq_same}
use Rattle.cnf.proofs.Fitting.{meaning, clauses_say, meaning_same, shape_fits}

meets_both : (v : ℕ → Bool) (cs ds : List (List ℕ)) → meets v (cs ++ ds) ≡ meets v cs && meets v ds
unfolding meets
meets_both v [] ds = refl
meets_both v (c ∷ cs) ds = rw (meets_both v cs ds) (sym (and_assoc (holds v c) (meets v cs) (meets v ds)))

-- ---- the circuit's own values meet the clauses
module _ (shortcuts : Bool) (rows : List ℕ) (leaf : ℕ → Bool) where
  row_met : (i : ℕ) (marks : List ℕ) → meets (value rows leaf) (clauses_of (2 * i) (written_at shortcuts rows i marks)) ≡ true
  unfolding written_at
  row_met i marks =
      cond_case (λ (s : Shape). meets (value rows leaf) (clauses_of (2 * i) s) ≡ true) (eqb (get_or marks i 0) 1 && gate_at rows i)
      (λ h.
      let s = shape_of shortcuts rows (word0 rows i) (word1 rows i) in
      let g = (both {a = eqb (get_or marks i 0) 1} {b = gate_at rows i} h).1 in
      clauses_say (value rows leaf) i s ∙ rw ((shape_fits shortcuts rows leaf i g).means (value rows leaf i)) (beq_same (value rows leaf i)))
      (λ _. unfold meets clauses_of in refl)

  pub walk_met : (n : ℕ) (marks : List ℕ) → meets (value rows leaf) (walk shortcuts rows n marks) ≡ true
  unfolding walk
  walk_met zero marks = unfold meets in refl
  walk_met (suc i) marks =
      rw (meets_both, row_met i marks) (walk_met i (mark_edges (operands (written_at shortcuts rows i marks)) marks))

-- ---- in an assignment that meets the clauses every referenced row has the circuit's value
module _ (shortcuts : Bool) (rows : List ℕ) (used : ℕ) (good : AllRows rows used) (v : ℕ → Bool) (false-zero : v 0 ≡ false) where
  abbrev Right : ℕ → Type 0
  Right j = v j ≡ value rows v j

  -- a gate whose clauses are met is right where its operands are
  gate_right : (i : ℕ) → gate_at rows i ≡ true → meets v (clauses_of (2 * i) (shape_of shortcuts rows (word0 rows i) (word1 rows i))) ≡ true
      → ((k : ℕ) → k < length (operands (shape_of shortcuts rows (word0 rows i) (word1 rows i))) → Right (id_of (get_or (operands (shape_of shortcuts rows (word0 rows i) (word1 rows i))) k 0)))
      → Right i
  gate_right i g h right =
      let s = shape_of shortcuts rows (word0 rows i) (word1 rows i) in
      beq_true (v i) (meaning (v i) v s) (sym (clauses_say v i s) ∙ h)
      ∙ (meaning_same (v i) v (value rows v) s (λ k l. same_edge v (value rows v) (get_or (operands s) k 0) (right k l))
      ∙ (shape_fits shortcuts rows v i g).means (v i))

  -- row 0 is false and a leaf is what it is
  other_right : (i : ℕ) → i < used → gate_at rows i ≡ false → Right i
  unfolding is_row is_false_row
  other_right i l h =
      ⊎_elim (λ k. ⊎_elim zero_row leaf_row (either {a = is_false_row i (word0 rows i) (word1 rows i)} k)) (λ k. absurd_gate k)
      (either {a = is_false_row i (word0 rows i) (word1 rows i) || leaf_at rows i} (good i l))
    where
      zero_row : is_false_row i (word0 rows i) (word1 rows i) ≡ true → Right i
      zero_row k =
          let t = both {a = eqb i 0} {b = eqb (word0 rows i) false_word} (both {a = eqb i 0 && eqb (word0 rows i) false_word} {b = eqb (word1 rows i) 0} k).0 in
          rw (eqb-true i 0 t.0) (false-zero ∙ sym (value_zero rows v))

      leaf_row : leaf_at rows i ≡ true → Right i
      leaf_row k = sym (value_other rows v i h ∙ rw k)

      absurd_gate : gate_at rows i ≡ true → Right i
      absurd_gate k = cc

  -- of the rows below n, in any marks with which the clauses of the walk are met
  abbrev RightBelow : ℕ → Type 0
  RightBelow n = (marks : List ℕ) → n ≤ length marks → meets v (walk shortcuts rows n marks) ≡ true → (j : ℕ) → j < n → Flagged marks j → Right j

  module _ (i : ℕ) (l : i < used) (below : RightBelow i) (marks : List ℕ) (long : suc i ≤ length marks) where
    -- with what row i is written as
    abbrev Rest : Shape → Type 0
    Rest s = meets v (clauses_of (2 * i) s) && meets v (walk shortcuts rows i (mark_edges (operands s) marks)) ≡ true → (j : ℕ) → (j ≡ i) ⊎ (j < i) → Flagged marks j → Right j

    written_right : gate_at rows i ≡ true → Rest (shape_of shortcuts rows (word0 rows i) (word1 rows i))
    written_right g h j d m = go d
      where
        s : Shape
        s = shape_of shortcuts rows (word0 rows i) (word1 rows i)

        after : List ℕ
        after = mark_edges (operands s) marks

        met : (meets v (clauses_of (2 * i) s) ≡ true) × (meets v (walk shortcuts rows i after) ≡ true)
        met = both {a = meets v (clauses_of (2 * i) s)} {b = meets v (walk shortcuts rows i after)} h

        right : (k : ℕ) → k < i → Flagged after k → Right k
        right = below after (omega (arith, edges_long (operands s) marks)) met.1

        operand_right : (k : ℕ) → k < length (operands s) → Right (id_of (get_or (operands s) k 0))
        operand_right k b =
            let u = ltb-true _ _ (every_at (used_edge i) (operands s) (shape_fits shortcuts rows v i g).low k b) in
            right (id_of (get_or (operands s) k 0)) u (edges_flagged (operands s) marks k b (omega arith))

        go : (j ≡ i) ⊎ (j < i) → Right j
        go (inl e) = rw e (gate_right i g met.0 operand_right)
        go (inr d) = right j d (edges_keep (operands s) marks j m)

    passed_right : eqb (get_or marks i 0) 1 && gate_at rows i ≡ false → Rest Unwritten
    passed_right t h j (inl e) m = rw e (other_right i l (rw (eq-eqb (get_or marks i 0) 1 (rw e at m)) at t))
    passed_right t h j (inr d) m = below marks (omega arith) (unfold meets clauses_of operands mark_edges in h) j d m

    row_right : Rest (written_at shortcuts rows i marks)
    unfolding written_at
    row_right =
        cond_case Rest (eqb (get_or marks i 0) 1 && gate_at rows i)
        (λ h. written_right (both {a = eqb (get_or marks i 0) 1} {b = gate_at rows i} h).1)
        (λ h. passed_right h)

  pub walk_right : (n : ℕ) → n ≤ used → RightBelow n
  unfolding walk
  walk_right zero u marks long h j l m = absurd (omega arith)
  walk_right (suc i) u marks long h j l m =
      row_right i (omega arith) (walk_right i (omega arith)) marks long (sym (meets_both v _ _) ∙ h) j (eq-or-lt_of_le (omega arith)) m

-- ---- the clauses of a graph
-- the unit clause says that row 0 is false
unit_says : (v : ℕ → Bool) → holds v unit ≡ not (v 0)
unfolding holds edge_value
unit_says v = or-false (not (v 0))

module _ (shortcuts : Bool) (g : Lent) (marks : ℕ) (s : Sized g marks) (w : WellFormed g) where
  abbrev start : List ℕ
  start = mark_edges (roots_of g) (replicate g.counts.rows 0)

  start_long : length start ≡ g.counts.rows
  start_long = edges_long (roots_of g) (replicate g.counts.rows 0) ∙ length-replicate g.counts.rows 0

  own_met : (leaf : ℕ → Bool) → meets (value g.rows leaf) (cnf_of shortcuts g) ≡ true
  unfolding clauses_in meets
  own_met leaf = rw (unit_says, value_zero) (walk_met shortcuts g.rows leaf g.counts.rows start)

  root_right : (v : ℕ → Bool) → meets v (cnf_of shortcuts g) ≡ true → (k : ℕ) → k < length (roots_of g) → edge_value v (get_or (roots_of g) k 0) ≡ edge_value (value g.rows v) (get_or (roots_of g) k 0)
  unfolding clauses_in meets
  root_right v h k l =
      let t = both {a = holds v unit} {b = meets v (walk shortcuts g.rows g.counts.rows start)} h in
      let u = ltb-true _ _ (every_at (used_edge g.counts.rows) (roots_of g) (roots_known g marks s w).used k l) in
      let m = edges_flagged (roots_of g) (replicate g.counts.rows 0) k l (rw (length-replicate {A = ℕ} g.counts.rows 0) u) in
      same_edge v (value g.rows v) (get_or (roots_of g) k 0)
      (walk_right shortcuts g.rows g.counts.rows w.rows v (not-true (v 0) (sym (unit_says v) ∙ t.0)) g.counts.rows (omega arith) start (omega (arith, start_long)) t.1
      (id_of (get_or (roots_of g) k 0)) u m)

  pub translates : Translates g (cnf_of shortcuts g)
  translates =
      record {
        extends = λ leaf. record {
          assignment = value g.rows leaf;
          agrees = value_leaf g.rows g.counts.rows leaf (omega (arith, s.rows.fit.within, s.rows.fit.limited));
          met = own_met leaf;
        };
        forced = root_right;
      }
