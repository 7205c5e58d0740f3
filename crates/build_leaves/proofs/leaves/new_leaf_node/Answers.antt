-- `build_leaves::leaves::new_leaf_node` meets its contract.
use native.Mathlib.Omega.{arith}
use Prim.Native.Nat.{◌≤◌}
use Rattle.rows.specs.Sizes.{max_rows}
use mathlib.Core.List.{[]}
use Rattle.build_leaves.specs.Calls.{counted}
use Rattle.build_leaves.specs.Leaves.{leaf_call, leaf_answer}
use Rattle.build_leaves.proofs.Answering.{add_refused, call_done}
use Rattle.build_leaves.proofs.Adding.{leaf_fits}
use Rattle.build_leaves.proofs.leaves.new_leaf_node.Goals as goal
use Rattle.build_leaves.proofs.leaves.new_leaf_node.Goals.{In_ok-answered}

room : (c : In_ok-answered) → c.args.counts.rows ≤ max_rows
unfolding leaf_answer
room c = leaf_fits c.args.rows.now c.args.counts.rows (rw (← c.rows_fit.ensures, ← c.free_row.ensures) c.in_ok-answered.ensures)

pub returns-in_err-answered : goal.returns-in_err-answered
unfolding leaf_call leaf_answer
returns-in_err-answered c =
    add_refused c.args.rows.now [] c.args.counts _ _ (rw (← c.rows_fit.ensures, ← c.free_row.ensures) c.in_err-answered.ensures) _ c.from_residual.ensures.1

pub add_row-requires : goal.add_row-requires
add_row-requires c = omega (arith, room (goal.at.add_row-requires c).In_ok-answered)

pub overflow_add-result : goal.overflow_add-result
overflow_add-result c = omega (arith, room (goal.at.overflow_add-result c).In_ok-answered)

pub overflow_cast-result : goal.overflow_cast-result
overflow_cast-result c = omega (arith, room (goal.at.overflow_cast-result c).In_ok-answered)

pub returns : goal.returns
unfolding leaf_call leaf_answer counted
returns c =
    call_done c.args.rows.now [] c.args.counts _ (rw (← c.rows_fit.ensures, ← c.free_row.ensures) c.in_ok-answered.ensures) _ (rw c.add_row.ensures)
