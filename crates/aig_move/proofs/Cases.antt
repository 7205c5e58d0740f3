-- A graph whose one constraint is an input. The chain over it takes no row, so three rows are added: the leaf, next, and the first bad's AND. There is no output.
-- Assumes nothing.
use mathlib.Core.Path.{◌≡◌, refl}
use mathlib.Core.List.{[], ◌∷◌}
use Rattle.edge.specs.Answers.{done, or_else}
use Rattle.edge.specs.Edges.{complement}
use Rattle.rows.specs.Sizes.{fits, rows_fit}
use Rattle.rows.specs.Rows.{false_word, none, is_false_row, is_leaf, is_gate, is_row}
use Rattle.graph.specs.declared.Counts.{Counts}
use Rattle.graph.specs.Search.{first_bad}
use Rattle.graph.specs.Stages.{first_fault}
use Rattle.graph.specs.Latches.{latch_inputs, latch_set}
use Rattle.graph.specs.Leaves.{member, free_leaf, latch_edges}
use Rattle.graph.specs.Justice.{end_is, set_of}
use Rattle.graph.specs.Graph.{Lent, lent, sizes_right}
use Rattle.graph.specs.Check.{contents, check_call}
use Rattle.gates.specs.Gates.{row_added, first, second, add_gate, folded, add_and, add_step, steps}
use Rattle.gates.specs.Lists.{all_of, list_of}
use Rattle.root_marks.specs.Arguments.{args_call}
use Rattle.output.specs.Writing.{written}
use Rattle.output.specs.Room.{limits_in, fits_in}
use Rattle.output.specs.Copying.{copied, copy_of}
use Rattle.output.specs.Asking.{asked_in}
use Rattle.aig_move.specs.Making.{next_of, guard_of, making_of}
use Rattle.aig_move.specs.Moving.{counts_with, first_set, finished, moved}
use Rattle.aig_move.specs.Call.{move_answer, move_call}

-- leaves 1, 2; inputs 1, 2; constraint 2; bads 4, 5
abbrev counts : Counts
counts = record { rows = 3; inputs = 2; latches = 0; constraints = 1; bads = 2; outputs = 0; sets = 0; edges = 0; fairness = 0 }

abbrev given : Lent
given = lent (false_word ∷ 0 ∷ none ∷ 0 ∷ none ∷ 0 ∷ []) (1 ∷ 2 ∷ []) [] (2 ∷ []) (4 ∷ 5 ∷ []) [] [] [] [] counts

-- room for six rows and a word more, and a constraint that is not asked for
abbrev room : Lent
room = lent (7 ∷ 7 ∷ 7 ∷ 7 ∷ 7 ∷ 7 ∷ 7 ∷ 7 ∷ 7 ∷ 7 ∷ 7 ∷ 7 ∷ 7 ∷ []) (7 ∷ 7 ∷ []) (7 ∷ 7 ∷ 7 ∷ []) (7 ∷ []) (7 ∷ 7 ∷ 7 ∷ []) [] [] [] [] counts

-- leaf 3; 4 = (2, 6), the next; 5 = (4, 8), the first bad by it; latch (3, 8, 1)
abbrev more : Counts
more = record { rows = 6; inputs = 2; latches = 1; constraints = 0; bads = 2; outputs = 0; sets = 0; edges = 0; fairness = 0 }

abbrev result : Lent
result = lent (false_word ∷ 0 ∷ none ∷ 0 ∷ none ∷ 0 ∷ none ∷ 0 ∷ 2 ∷ 6 ∷ 4 ∷ 8 ∷ 7 ∷ []) (1 ∷ 2 ∷ []) (3 ∷ 8 ∷ 1 ∷ []) (7 ∷ []) (10 ∷ 5 ∷ 7 ∷ []) [] [] [] [] more

-- the answer, the whole graph and the marks; words beyond stay
pub moved_case : move_call given room (9 ∷ 9 ∷ 9 ∷ 9 ∷ []) ≡ record { given = done; graph = result; marks = 0 ∷ 0 ∷ 0 ∷ 9 ∷ [] }
unfolding or_else complement fits rows_fit is_false_row is_leaf is_gate is_row first_bad first_fault latch_inputs latch_set member free_leaf latch_edges end_is set_of sizes_right contents
    check_call row_added first second add_gate folded add_and add_step steps all_of list_of args_call written limits_in fits_in copied copy_of asked_in next_of guard_of making_of counts_with
    first_set finished moved move_answer move_call
moved_case = refl
