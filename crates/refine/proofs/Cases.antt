-- A graph whose rows 1 and 5 no root reaches: row 5 is a gate without use, and row 1 an input that it alone reads.
-- Assumes nothing.
use mathlib.Core.Path.{◌≡◌, refl}
use mathlib.Core.List.{[], ◌∷◌}
use Rattle.edge.specs.Answers.{done, or_else}
use Rattle.rows.specs.Sizes.{fits, rows_fit}
use Rattle.rows.specs.Rows.{false_word, none, is_false_row, is_leaf, is_gate, is_row}
use Rattle.graph.specs.declared.Counts.{Counts}
use Rattle.graph.specs.Search.{first_bad}
use Rattle.graph.specs.Stages.{first_fault}
use Rattle.graph.specs.Latches.{latch_inputs, latch_set}
use Rattle.graph.specs.Leaves.{member, free_leaf, latch_edges}
use Rattle.graph.specs.Justice.{end_is, set_of}
use Rattle.graph.specs.Graph.{Lent, lent, sizes_right}
use Rattle.graph.specs.Check.{contents, check_call}
use Rattle.root_marks.specs.Arguments.{args_call}
use Rattle.coi.specs.Coi.{latch_of, steps_at, visited, visited_all, drained, searched}
use Rattle.output.specs.Writing.{written}
use Rattle.graph.specs.Count.{count_below}
use Rattle.renumber.specs.Renumber.{renamed, renamed_latch, latches_written, renumber}
use Rattle.output.specs.Room.{limits_in, fits_in}
use Rattle.output.specs.Asking.{asked_in}
use Rattle.kept_rows.specs.Kept.{init_root, init_roots, refine_roots, kept_flags}
use Rattle.kept_rows.specs.Keeping.{kept_written, kept_id, with_kept}
use Rattle.kept_rows.specs.Copying.{row_word, row_put}
use Rattle.refine.specs.Refining.{refined, old_rows}
use Rattle.refine.specs.Call.{refine_answer, refine_call}

-- leaves 1, 2, 3; 4 = (4, 6), 5 = (2, 4); inputs 1, 2; latch (3, 8, 5); output 8
abbrev counts : Counts
counts = record { rows = 6; inputs = 2; latches = 1; constraints = 0; bads = 0; outputs = 1; sets = 0; edges = 0; fairness = 0 }

abbrev given : Lent
given = lent (false_word ∷ 0 ∷ none ∷ 0 ∷ none ∷ 0 ∷ none ∷ 0 ∷ 4 ∷ 6 ∷ 2 ∷ 4 ∷ []) (1 ∷ 2 ∷ []) (3 ∷ 8 ∷ 5 ∷ []) [] [] (8 ∷ []) [] [] [] counts

abbrev room : Lent
room = lent (7 ∷ 7 ∷ 7 ∷ 7 ∷ 7 ∷ 7 ∷ 7 ∷ 7 ∷ 7 ∷ []) (7 ∷ 7 ∷ []) (7 ∷ 7 ∷ 7 ∷ []) [] [] (7 ∷ []) [] [] [] counts

-- leaves 1, 2; 3 = (2, 4); input 1; latch (2, 6, 3): init is mapped as well; output 6
abbrev fewer : Counts
fewer = record { rows = 4; inputs = 1; latches = 1; constraints = 0; bads = 0; outputs = 1; sets = 0; edges = 0; fairness = 0 }

abbrev result : Lent
result = lent (false_word ∷ 0 ∷ none ∷ 0 ∷ none ∷ 0 ∷ 2 ∷ 4 ∷ 7 ∷ []) (1 ∷ 7 ∷ []) (2 ∷ 6 ∷ 3 ∷ []) [] [] (6 ∷ []) [] [] [] fewer

-- the answer, the whole graph, the new-to-old list and the marks; words beyond stay
pub two_rows_dropped :
    refine_call given room (7 ∷ 7 ∷ 7 ∷ 7 ∷ 7 ∷ []) (7 ∷ 7 ∷ 7 ∷ 7 ∷ 7 ∷ 7 ∷ 7 ∷ []) ≡ record
    { given = done; graph = result; old = 0 ∷ 2 ∷ 3 ∷ 4 ∷ 7 ∷ []; marks = 0 ∷ 0 ∷ 0 ∷ 0 ∷ 0 ∷ 0 ∷ 7 ∷ [] }
unfolding refine_call refine_answer asked_in args_call or_else check_call contents first_fault first_bad sizes_right rows_fit fits member free_leaf latch_edges is_row is_false_row is_leaf
    is_gate end_is set_of limits_in fits_in refined old_rows kept_flags refine_roots init_roots init_root latch_inputs searched drained visited_all visited steps_at latch_of kept_written row_put
    row_word kept_id with_kept count_below written latches_written latch_set renumber renamed renamed_latch
two_rows_dropped = refl
