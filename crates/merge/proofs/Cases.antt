-- A worked case, by computation.
-- Assumes nothing.
use Prim.Native.Nat.{ℕ}
use mathlib.Core.Path.{◌≡◌, refl}
use mathlib.Core.List.{[], ◌∷◌}
use Rattle.edge.specs.Answers.{done, no_room, or_else}
use Rattle.rows.specs.Sizes.{fits, rows_fit}
use Rattle.rows.specs.Rows.{none, false_word, is_false_row, is_leaf, is_gate, is_row, larger}
use Rattle.graph.specs.declared.Counts.{Counts}
use Rattle.graph.specs.Search.{first_bad}
use Rattle.graph.specs.Stages.{first_fault}
use Rattle.graph.specs.Latches.{latch_set, latch_inputs}
use Rattle.graph.specs.Leaves.{member, free_leaf, latch_edges}
use Rattle.graph.specs.Justice.{end_is, set_of}
use Rattle.graph.specs.Graph.{Lent, lent, sizes_right}
use Rattle.graph.specs.Check.{contents}
use Rattle.two_graphs.specs.Pair.{check_two_call}
use Rattle.output.specs.Writing.{written}
use Rattle.renumber.specs.Renumber.{renamed, renamed_latch, latches_written, renumber}
use Rattle.output.specs.Room.{fits_in}
use Rattle.merge.specs.Merge.{shifted, summed, merged}
use Rattle.merge.specs.Call.{merge_checked, merge_call}

abbrev counts : ℕ → ℕ → ℕ → ℕ → Counts
counts rows inputs latches sets = record { rows = rows; inputs = inputs; latches = latches; constraints = 0; bads = 0; outputs = 0; sets = sets; edges = sets; fairness = 0 }

-- a leaf and a gate over it, and one justice set of that gate; there is room for two rows, an input, a latch and a set
abbrev ours : Lent
ours =
    lent (false_word ∷ 0 ∷ none ∷ 0 ∷ 2 ∷ 3 ∷ 7 ∷ 7 ∷ 7 ∷ 7 ∷ []) (1 ∷ 7 ∷ []) (7 ∷ 7 ∷ 7 ∷ []) [] [] [] (1 ∷ 7 ∷ []) (4 ∷ 7 ∷ []) [] (counts 3 1 0 1)

-- the graph of M12: leaves 1 and 2, input 2, latch (1, 4, 5); and one justice set of edge 3
abbrev theirs : Lent
theirs = lent (false_word ∷ 0 ∷ none ∷ 0 ∷ none ∷ 0 ∷ []) (2 ∷ []) (1 ∷ 4 ∷ 5 ∷ []) [] [] [] (1 ∷ []) (3 ∷ []) [] (counts 3 1 1 1)

-- rows 1 and 2 become rows 3 and 4, in the input, in the latch's input, next and init, and in the justice set
rows_inputs_and_init : merge_call ours theirs (9 ∷ 9 ∷ 9 ∷ 9 ∷ [])
    ≡ record {
      given = done;
      graph = lent (false_word ∷ 0 ∷ none ∷ 0 ∷ 2 ∷ 3 ∷ none ∷ 0 ∷ none ∷ 0 ∷ []) (1 ∷ 4 ∷ []) (3 ∷ 8 ∷ 9 ∷ []) [] [] [] (1 ∷ 2 ∷ []) (4 ∷ 7 ∷ []) [] (counts 5 2 1 2);
      marks = 0 ∷ 0 ∷ 0 ∷ 9 ∷ [];
    }
unfolding merge_call merge_checked check_two_call larger sizes_right rows_fit fits contents first_fault first_bad is_row is_false_row is_leaf is_gate free_leaf member latch_inputs
    latch_edges end_is set_of or_else fits_in merged written renamed renamed_latch latches_written latch_set renumber shifted summed
rows_inputs_and_init = refl

-- the other way round there is no room, and nothing is changed
no_room_behind : merge_call theirs ours (9 ∷ 9 ∷ 9 ∷ 9 ∷ []) ≡ record { given = no_room; graph = theirs; marks = 0 ∷ 0 ∷ 0 ∷ 9 ∷ [] }
unfolding merge_call merge_checked check_two_call larger sizes_right rows_fit fits contents first_fault first_bad is_row is_false_row is_leaf is_gate free_leaf member latch_inputs
    latch_edges end_is set_of or_else fits_in merged written renamed renamed_latch latches_written latch_set renumber shifted summed
no_room_behind = refl
