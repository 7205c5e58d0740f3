-- Worked cases, by computation.
-- Assumes nothing.
use Prim.Native.Nat.{ℕ}
use mathlib.Core.Path.{◌≡◌, refl}
use mathlib.Core.List.{List, [], ◌∷◌}
use Rattle.edge.specs.Answers.{done, no_room, or_else}
use Rattle.edge.specs.Edges.{complement}
use Rattle.rows.specs.Sizes.{fits, rows_fit}
use Rattle.rows.specs.Rows.{none, false_word, is_false_row, is_leaf, is_gate, is_row, larger}
use Rattle.graph.specs.declared.Counts.{Counts}
use Rattle.graph.specs.Search.{first_bad}
use Rattle.graph.specs.Stages.{first_fault}
use Rattle.graph.specs.Latches.{latch_set, latch_inputs}
use Rattle.graph.specs.Leaves.{member, free_leaf, latch_edges}
use Rattle.graph.specs.Justice.{end_is, set_of}
use Rattle.graph.specs.Graph.{Lent, lent, sizes_right}
use Rattle.graph.specs.Check.{contents}
use Rattle.two_graphs.specs.Pair.{check_two_call}
use Rattle.gates.specs.Gates.{row_added, first, second, folded, add_gate, add_and}
use Rattle.output.specs.Writing.{written}
use Rattle.output.specs.Room.{fits_in}
use Rattle.frame.specs.Map.{mapped, nexts_mapped, start_map, next_set, nexts_set, lists_grown}
use Rattle.frame.specs.Frame.{frame_row, frame_rows, frame_of, raised, framed, frame_fits}
use Rattle.unroll.specs.Unroll.{start_is, unroll_checked, unroll_answer, unroll_call}

abbrev counts : ℕ → ℕ → ℕ → Counts
counts rows inputs outputs = record { rows = rows; inputs = inputs; latches = 1; constraints = 0; bads = 0; outputs = outputs; sets = 0; edges = 0; fairness = 0 }

-- ---- M13: "latch 1 with next 3: one unroll makes next 2, no row"
abbrev toggle : ℕ → Lent
toggle next = lent (false_word ∷ 0 ∷ none ∷ 0 ∷ []) [] (1 ∷ next ∷ none ∷ []) [] [] [] [] [] [] (counts 2 0 0)

pub m13 : unroll_call (toggle 3) (toggle 3) (9 ∷ 9 ∷ 9 ∷ []) ≡ record { given = done; graph = toggle 2; marks = 0 ∷ 0 ∷ 9 ∷ [] }
unfolding unroll_call unroll_answer unroll_checked start_is check_two_call larger sizes_right rows_fit fits contents first_fault first_bad is_row is_false_row is_leaf is_gate free_leaf
    member latch_inputs latch_edges end_is set_of or_else fits_in frame_fits framed raised frame_of frame_rows frame_row row_added first second folded add_gate add_and start_map nexts_mapped
    mapped complement lists_grown nexts_set next_set latch_set written
m13 = refl

-- ---- a latch 1 whose next is the gate 3 of it and the input 2, which is the output too; lent are rows and inputs for so much more
abbrev gate : List ℕ → List ℕ → ℕ → List ℕ → ℕ → ℕ → ℕ → Lent
gate rows inputs next outputs used listed shown =
    lent (false_word ∷ 0 ∷ none ∷ 0 ∷ none ∷ 0 ∷ 2 ∷ 4 ∷ rows) (2 ∷ inputs) (1 ∷ next ∷ 0 ∷ []) [] [] (6 ∷ outputs) [] [] [] (counts used listed shown)

-- the latch input goes to the next, 6; the input gets row 4; the gate becomes row 5, of 6 and 8; init stays
pub one_frame : unroll_call (gate (7 ∷ 7 ∷ 7 ∷ 7 ∷ []) (7 ∷ []) 6 (7 ∷ []) 4 1 1) (gate [] [] 6 [] 4 1 1) (9 ∷ 9 ∷ 9 ∷ 9 ∷ [])
    ≡ record { given = done; graph = gate (none ∷ 0 ∷ 6 ∷ 8 ∷ []) (4 ∷ []) 10 (10 ∷ []) 6 2 2; marks = 0 ∷ 0 ∷ 0 ∷ 0 ∷ [] }
unfolding unroll_call unroll_answer unroll_checked start_is check_two_call larger sizes_right rows_fit fits contents first_fault first_bad is_row is_false_row is_leaf is_gate free_leaf
    member latch_inputs latch_edges end_is set_of or_else fits_in frame_fits framed raised frame_of frame_rows frame_row row_added first second folded add_gate add_and start_map nexts_mapped
    mapped complement lists_grown nexts_set next_set latch_set written
one_frame = refl

-- with a row less there is no room, and nothing is changed
pub no_room_lem : unroll_call (gate (7 ∷ 7 ∷ []) (7 ∷ []) 6 (7 ∷ []) 4 1 1) (gate [] [] 6 [] 4 1 1) (9 ∷ 9 ∷ 9 ∷ 9 ∷ [])
    ≡ record { given = no_room; graph = gate (7 ∷ 7 ∷ []) (7 ∷ []) 6 (7 ∷ []) 4 1 1; marks = 0 ∷ 0 ∷ 0 ∷ 0 ∷ [] }
unfolding unroll_call unroll_answer unroll_checked start_is check_two_call larger sizes_right rows_fit fits contents first_fault first_bad is_row is_false_row is_leaf is_gate free_leaf
    member latch_inputs latch_edges end_is set_of or_else fits_in frame_fits framed raised frame_of frame_rows frame_row row_added first second folded add_gate add_and start_map nexts_mapped
    mapped complement lists_grown nexts_set next_set latch_set written
no_room_lem = refl
