-- M12: "reencode of leaves 1, 2, inputs 2, latch (1, 4, 5) gives latch (2, 2, 3)".
-- Assumes nothing.
use mathlib.Core.Path.{◌≡◌, refl}
use mathlib.Core.List.{[], ◌∷◌}
use Rattle.edge.specs.Answers.{done, or_else}
use Rattle.rows.specs.Sizes.{fits, rows_fit}
use Rattle.rows.specs.Rows.{false_word, none, is_false_row, is_leaf, is_gate, is_row}
use Rattle.graph.specs.declared.Counts.{Counts}
use Rattle.graph.specs.Search.{first_bad}
use Rattle.graph.specs.Stages.{first_fault}
use Rattle.graph.specs.Latches.{latch_inputs, latch_set}
use Rattle.graph.specs.Leaves.{member, free_leaf, latch_edges}
use Rattle.graph.specs.Justice.{end_is, set_of}
use Rattle.graph.specs.Graph.{Lent, lent, sizes_right}
use Rattle.graph.specs.Check.{contents, check_call}
use Rattle.gates.specs.Gates.{row_added}
use Rattle.root_marks.specs.Arguments.{args_call}
use Rattle.output.specs.Writing.{written}
use Rattle.graph.specs.Count.{count_below}
use Rattle.renumber.specs.Renumber.{renamed, renamed_latch, latches_written, renumber}
use Rattle.output.specs.Room.{limits_in, fits_in}
use Rattle.output.specs.Asking.{asked_in}
use Rattle.reencode.specs.Numbers.{place_from, numbered, number_of}
use Rattle.reencode.specs.Rebuilding.{leaves_added, gate_added, gates_added, rows_of, reencoded}
use Rattle.reencode.specs.Call.{reencode_checked, reencode_call}

abbrev counts : Counts
counts = record { rows = 3; inputs = 1; latches = 1; constraints = 0; bads = 0; outputs = 0; sets = 0; edges = 0; fairness = 0 }

abbrev given : Lent
given = lent (false_word ∷ 0 ∷ none ∷ 0 ∷ none ∷ 0 ∷ []) (2 ∷ []) (1 ∷ 4 ∷ 5 ∷ []) [] [] [] [] [] [] counts

abbrev room : Lent
room = lent (7 ∷ 7 ∷ 7 ∷ 7 ∷ 7 ∷ 7 ∷ []) (7 ∷ []) (7 ∷ 7 ∷ 7 ∷ []) [] [] [] [] [] [] counts

abbrev result : Lent
result = lent (false_word ∷ 0 ∷ none ∷ 0 ∷ none ∷ 0 ∷ []) (1 ∷ []) (2 ∷ 2 ∷ 3 ∷ []) [] [] [] [] [] [] counts

-- the answer, the whole graph and the marks
pub m12 : reencode_call given room (7 ∷ 7 ∷ 7 ∷ []) ≡ record { given = done; graph = result; marks = 0 ∷ 0 ∷ 0 ∷ [] }
unfolding reencode_call reencode_checked asked_in args_call or_else check_call contents first_fault first_bad sizes_right rows_fit fits member free_leaf latch_edges is_row is_false_row
    is_leaf is_gate end_is set_of limits_in fits_in reencoded rows_of leaves_added gates_added gate_added row_added number_of numbered place_from count_below written latches_written latch_set
    renumber renamed renamed_latch latch_inputs
m12 = refl
