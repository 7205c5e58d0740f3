-- M1 to M13, together.
-- Assumes nothing.
use mathlib.Core.Path.{refl}
use Rattle.edge.specs.Answers.{or_else}
use Rattle.edge.specs.Edges.{complement}
use Rattle.rows.specs.Sizes.{fits, rows_fit}
use Rattle.rows.specs.Rows.{is_false_row, is_leaf, is_gate, is_row, larger}
use Rattle.graph.specs.Search.{first_bad}
use Rattle.graph.specs.Stages.{first_fault}
use Rattle.graph.specs.Latches.{latch_inputs, latch_set}
use Rattle.graph.specs.Leaves.{member, free_leaf, latch_edges}
use Rattle.graph.specs.Graph.{sizes_right}
use Rattle.graph.specs.Check.{contents, check_call}
use Rattle.two_graphs.specs.Pair.{check_two_call}
use Rattle.graph.specs.Count.{count_below}
use Rattle.gates.specs.Gates.{row_added, first, second, folded, add_gate, add_and, add_step, steps}
use Rattle.gates.specs.Lists.{all_of, list_of, eq_of}
use Rattle.build_leaves.specs.Calls.{constructor_answer, counted, call_of}
use Rattle.build_nodes.specs.Nodes.{all_used, gate_call, list_call, eq_call}
use Rattle.ternary_run.specs.Codes.{and3, not3, edge3, all_codes}
use Rattle.ternary_run.specs.Run.{placed, row3, rows3, codes_of}
use Rattle.ternary.specs.Calls.{arguments_right, simulate_answer, run_call}
use Rattle.root_marks.specs.Marking.{mark_edges}
use Rattle.root_marks.specs.Roots.{latch_roots}
use Rattle.root_marks.specs.Arguments.{args_call}
use Rattle.gate_clauses.specs.Shapes.{is_xor, ite_or, pairing, recognised, shape_of, operands, clauses_of, words}
use Rattle.cnf.specs.Clauses.{written_at, walk, clauses_in}
use Rattle.cnf.specs.Call.{cnf_answer, cnf_call}
use Rattle.output.specs.Writing.{written}
use Rattle.renumber.specs.Renumber.{renamed, renamed_latch, latches_written, renumber}
use Rattle.output.specs.Room.{limits_in, fits_in}
use Rattle.output.specs.Asking.{asked_in}
use Rattle.reencode.specs.Numbers.{place_from, numbered, number_of}
use Rattle.reencode.specs.Rebuilding.{leaves_added, gate_added, gates_added, rows_of, reencoded}
use Rattle.reencode.specs.Call.{reencode_checked, reencode_call}
use Rattle.frame.specs.Map.{mapped, nexts_mapped, start_map, next_set, nexts_set, lists_grown}
use Rattle.frame.specs.Frame.{frame_row, frame_rows, frame_of, raised, framed, frame_fits}
use Rattle.unroll.specs.Unroll.{start_is, unroll_checked, unroll_answer, unroll_call}
use Rattle.marked.specs.Cases.{seen_of}
use Rattle.marked.specs.Table.{table}
use Rattle.marked.specs.Marked.{EveryCaseHolds}

-- every case of the table, by computation of the calls' own definitions
pub marked : EveryCaseHolds
unfolding or_else complement fits rows_fit is_false_row is_leaf is_gate is_row first_bad first_fault latch_inputs latch_set member free_leaf latch_edges sizes_right contents check_call
    larger check_two_call count_below row_added first second folded add_gate add_and add_step steps all_of list_of eq_of constructor_answer counted call_of all_used gate_call list_call eq_call
    and3 not3 edge3 all_codes placed row3 rows3 codes_of arguments_right simulate_answer run_call mark_edges latch_roots args_call is_xor ite_or pairing recognised shape_of operands clauses_of
    words written_at walk clauses_in cnf_answer cnf_call written renamed renamed_latch latches_written renumber limits_in fits_in place_from numbered number_of leaves_added gate_added
    gates_added rows_of reencoded asked_in reencode_checked reencode_call mapped nexts_mapped start_map next_set nexts_set lists_grown frame_row frame_rows frame_of raised framed frame_fits
    start_is unroll_checked unroll_answer unroll_call seen_of table
marked =
    (refl, (refl, (refl, (refl, (refl, (refl, (refl, (refl, (refl, (refl, (refl, (refl, (refl, (refl, (refl, (refl, (refl, tt)))))))))))))))))
