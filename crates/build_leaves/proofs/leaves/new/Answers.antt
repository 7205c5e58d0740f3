-- `build_leaves::leaves::new` meets its contract.
use mathlib.Core.List.{[]}
use Rattle.graph.specs.Graph.{no_counts}
use Rattle.build_leaves.specs.Calls.{counted}
use Rattle.build_leaves.specs.Leaves.{new_call}
use Rattle.build_leaves.proofs.Answering.{build_refused, call_done}
use Rattle.build_leaves.proofs.leaves.new.Goals as goal

pub returns-in_err-answered : goal.returns-in_err-answered
unfolding new_call
returns-in_err-answered c = build_refused c.args.rows.now no_counts _ _ c.in_err-answered.ensures _ c.from_residual.ensures.1

pub returns : goal.returns
unfolding new_call counted
returns c = call_done c.args.rows.now [] no_counts _ c.in_ok-answered.ensures _ (rw (c.add_row.ensures, c.no_counts.ensures))
