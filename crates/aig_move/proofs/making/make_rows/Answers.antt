-- `aig_move::making::make_rows` meets its contract.
use native.Mathlib.Omega.{arith}
use Rattle.aig_move.proofs.Steps.{next_most, bad_most, all_made}
use Rattle.aig_move.proofs.making.make_rows.Goals as goal

pub add_guard-bad-requires : goal.add_guard-bad-requires
add_guard-bad-requires c =
    let m = next_most c.args.rows.now c.args.used c.args.constraints.now c.args.bads.now c.args.outputs.now _
    c.add_next-next.ensures in
    omega (arith, m, c.requires.used_le_max_rows, c.requires.constraints_len_bound)

pub add_guard-output-requires : goal.add_guard-output-requires
add_guard-output-requires c =
    let m = bad_most c.args.rows.now c.args.used c.args.constraints.now c.args.bads.now c.args.outputs.now _ c.add_next-next.ensures _
    c.add_guard-bad.ensures in
    omega (arith, m, c.requires.used_le_max_rows, c.requires.constraints_len_bound)

pub returns : goal.returns
returns c =
    all_made c.args.rows.now c.args.used c.args.constraints.now c.args.bads.now c.args.outputs.now _ c.add_next-next.ensures _
    c.add_guard-bad.ensures _ c.add_guard-output.ensures
