-- The examples, computed.
-- Assumes nothing.
use Prim.Native.Nat.{ℕ}
use native.Mathlib.Omega.{arith}
use mathlib.Core.Path.{◌≡◌, refl, sym, ◌∙◌}
use mathlib.Core.Bool.{Bool, true, false}
use lib.Dec.{eqb}
use Rattle.edge.specs.Edges.{complement}
use Rattle.edge.specs.Meaning.{edge_value}
use Rattle.edge.proofs.Tests.{false_true}
use Rattle.rows.specs.Rows.{is_leaf, is_gate}
use Rattle.rows.specs.Value.{row_value, value_below, value}
use Rattle.root_marks.specs.Marking.{mark_edges}
use Rattle.root_marks.specs.Roots.{latch_root, latch_roots}
use Rattle.gate_clauses.specs.Shapes.{is_xor, ite_or, pairing, recognised, shape_of, operands, clauses_of}
use Rattle.cnf.specs.Clauses.{written_at, walk, clauses_in}
use Rattle.cnf.specs.Meaning.{holds, meets}
use Rattle.cnf.specs.Examples.{ShutOut, Tempting}

-- the one leaf is true and the other false
abbrev differ : ℕ → Bool
differ i = eqb i 1

-- all rows but the last are false
abbrev last_only : ℕ → Bool
last_only i = eqb i 5

pub shut_out : ShutOut
unfolding edge_value is_leaf is_gate row_value value_below value latch_root latch_roots holds meets
shut_out = record {
  only_unit = λ t. false_true (sym (t.forced last_only refl 0 (omega arith)));
  one_list = λ clauses t u.
      let e = t.extends differ in
      let a : e.assignment 1 ≡ true = e.agrees 1 (omega arith) refl in
      let b : e.assignment 2 ≡ false = e.agrees 2 (omega arith) refl in
      let x : e.assignment 5 ≡ true = t.forced e.assignment e.met 0 (omega arith) ∙ rw (a, b) in
      let y : e.assignment 5 ≡ false = u.forced e.assignment e.met 0 (omega arith) ∙ rw (a, b) in
      false_true (sym y ∙ x);
}

pub tempting : Tempting
unfolding complement edge_value is_leaf is_gate row_value value_below value mark_edges latch_root latch_roots is_xor ite_or pairing recognised shape_of operands clauses_of written_at walk
    clauses_in holds meets
tempting = record { same_gate = refl; same_ids_xor = refl; same_ids_ite = refl; over_row_0 = refl; computes = refl; free_without = refl; not_free = refl }
