-- `aig_move::making::add_next` meets its contract.
use native.Mathlib.Omega.{arith}
use mathlib.Core.Path.{◌∙◌}
use Rattle.aig_move.proofs.Steps.{list_most, next_built}
use Rattle.aig_move.proofs.making.add_next.Goals as goal

pub add_and-requires : goal.add_and-requires
add_and-requires c =
    let m = list_most _ _ _ _ _ _ c.add_list-all.ensures in
    omega (arith, m, c.requires.used_le_max_rows, c.requires.constraints_len_bound)

pub returns : goal.returns
returns c = c.add_and.ensures ∙ next_built _ _ _ c.add_row.ensures _ c.add_list-all.ensures
