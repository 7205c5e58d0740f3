-- Worked cases, by computation.
-- Assumes nothing.
use Prim.Native.Nat.{ℕ}
use mathlib.Core.Path.{◌≡◌, refl}
use mathlib.Core.List.{[], ◌∷◌}
use Rattle.edge.specs.Answers.{done, no_room, or_else}
use Rattle.edge.specs.Edges.{complement}
use Rattle.rows.specs.Sizes.{fits, rows_fit}
use Rattle.rows.specs.Rows.{none, false_word, is_false_row, is_leaf, is_gate, is_row}
use Rattle.graph.specs.declared.Counts.{Counts}
use Rattle.graph.specs.Search.{first_bad}
use Rattle.graph.specs.Stages.{first_fault}
use Rattle.graph.specs.Latches.{latch_set, latch_inputs}
use Rattle.graph.specs.Leaves.{member, free_leaf, latch_edges}
use Rattle.graph.specs.Justice.{end_is, set_of}
use Rattle.graph.specs.Graph.{Lent, lent, sizes_right}
use Rattle.graph.specs.Check.{contents, check_call}
use Rattle.gates.specs.Gates.{row_added, first, second, add_gate, folded, add_and, add_step, steps}
use Rattle.gates.specs.Lists.{all_of, list_of, eq_of}
use Rattle.output.specs.Writing.{written}
use Rattle.output.specs.Copying.{copied}
use Rattle.property.specs.Checking.{change_checked}
use Rattle.property.specs.Compress.{or_of, one_bad, compressed, compress_room, compress_checked, compress_call}
use Rattle.property.specs.GateInit.{is_gated, constraint_of, gate_step, gate_steps, initless, inits_taken, gated_all, gated_counts, gated_part, gate_init, gate_room, gate_init_checked, gate_init_call}

abbrev counts : ℕ → ℕ → ℕ → ℕ → Counts
counts rows latches constraints bads = record { rows = rows; inputs = 0; latches = latches; constraints = constraints; bads = bads; outputs = 0; sets = 0; edges = 0; fairness = 0 }

-- ---- two leaves, and bads that name both and one of them twice
abbrev bad : Lent
bad = lent (false_word ∷ 0 ∷ none ∷ 0 ∷ none ∷ 0 ∷ 7 ∷ 7 ∷ 7 ∷ 7 ∷ []) [] [] [] (2 ∷ 4 ∷ 2 ∷ []) [] [] [] [] (counts 3 0 0 3)

-- rows 3 and 4 are made, and the old bads handed back
all_in_one : compress_call bad (8 ∷ 8 ∷ 8 ∷ 8 ∷ []) (9 ∷ 9 ∷ 9 ∷ 9 ∷ [])
    ≡ record {
      given = done;
      graph = lent (false_word ∷ 0 ∷ none ∷ 0 ∷ none ∷ 0 ∷ 3 ∷ 5 ∷ 3 ∷ 6 ∷ []) [] [] [] (9 ∷ 4 ∷ 2 ∷ []) [] [] [] [] (counts 5 0 0 1);
      old = 2 ∷ 4 ∷ 2 ∷ 8 ∷ [];
      marks = 0 ∷ 0 ∷ 0 ∷ 9 ∷ [];
    }
unfolding compress_call compress_checked change_checked compress_room or_of compressed one_bad or_else check_call sizes_right rows_fit fits contents first_fault first_bad is_row is_false_row
    is_leaf is_gate free_leaf member latch_inputs latch_edges end_is set_of list_of all_of steps add_step add_and add_gate folded first second row_added complement copied written
all_in_one = refl

-- the room for the old bads is one short
none_back : compress_call bad (8 ∷ 8 ∷ []) (9 ∷ 9 ∷ 9 ∷ 9 ∷ []) ≡ record { given = no_room; graph = bad; old = 8 ∷ 8 ∷ []; marks = 0 ∷ 0 ∷ 0 ∷ 9 ∷ [] }
unfolding compress_call compress_checked change_checked compress_room or_of compressed one_bad or_else check_call sizes_right rows_fit fits contents first_fault first_bad is_row is_false_row
    is_leaf is_gate free_leaf member latch_inputs latch_edges end_is set_of list_of all_of steps add_step add_and add_gate folded first second row_added complement
none_back = refl

-- ---- three latches: the first's init is its own complement, the second's is true, the third's is the second latch
abbrev gated : Lent
gated =
    lent (false_word ∷ 0 ∷ none ∷ 0 ∷ none ∷ 0 ∷ none ∷ 0 ∷ 7 ∷ 7 ∷ 7 ∷ 7 ∷ 7 ∷ 7 ∷ 7 ∷ 7 ∷ 7 ∷ 7 ∷ []) [] (3 ∷ 0 ∷ 7 ∷ 2 ∷ 0 ∷ 1 ∷ 1 ∷ 0 ∷ 4 ∷ 7 ∷ 7 ∷ 7 ∷ []) (8 ∷ 8 ∷ []) [] [] [] [] []
    (counts 4 3 0 0)

-- the new latch is row 4: the first constraint is that it is false, and of the third latch's the rows are made
two_constraints :
    gate_init_call gated (9 ∷ 9 ∷ 9 ∷ 9 ∷ []) ≡ record {
      given = done;
      graph = lent (false_word ∷ 0 ∷ none ∷ 0 ∷ none ∷ 0 ∷ none ∷ 0 ∷ none ∷ 0 ∷ 2 ∷ 4 ∷ 3 ∷ 5 ∷ 11 ∷ 13 ∷ 8 ∷ 14 ∷ []) [] (3 ∷ 0 ∷ none ∷ 2 ∷ 0 ∷ 1 ∷ 1 ∷ 0 ∷ none ∷ 4 ∷ 0 ∷ 1 ∷ []) (9 ∷ 17 ∷ [])
          [] [] [] [] [] (counts 9 4 2 0);
      marks = 0 ∷ 0 ∷ 0 ∷ 0 ∷ [];
    }
unfolding gate_init_call gate_init_checked change_checked gate_room gate_init gated_part gated_counts gated_all gate_steps gate_step constraint_of is_gated inits_taken initless latch_set
    or_else check_call sizes_right rows_fit fits contents first_fault first_bad is_row is_false_row is_leaf is_gate free_leaf member latch_inputs latch_edges end_is set_of eq_of list_of all_of
    steps add_step add_and add_gate folded first second row_added complement
two_constraints = refl
