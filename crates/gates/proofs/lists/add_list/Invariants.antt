use Prim.Native.Nat.{◌+◌, ◌≤◌}
use mathlib.Core.Path.{◌≡◌}
use lib.ListN.{drop}
use Rattle.gates.specs.Gates.{state_of, steps}
use Rattle.gates.specs.Lists.{all_of, signed}
use Rattle.gates.proofs.lists.add_list.Given as goal

abbrev pub invariant-loop-e : goal.invariant-loop-e
invariant-loop-e l =
    (l.grown.used ≤ l.used + l.e-index) × (steps l.trivial (state_of l.rows l.grown) (signed l.or (drop l.e-index l.rest)) ≡ all_of l.trivial l.initial.rows l.used (signed l.or l.edges))
