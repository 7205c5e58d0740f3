use Prim.Native.Nat.{◌≤◌}
use mathlib.Core.Path.{◌≡◌}
use lib.ListN.{length, drop}
use Rattle.ternary_run.specs.Run.{placed, input_row}
use Rattle.ternary_run.proofs.run.place_inputs.Given as goal

abbrev pub invariant-loop-x : goal.invariant-loop-x
invariant-loop-x l =
    (length l.yielded ≤ length l.inputs) × (length l.values ≡ length l.initial.values) × (l.x-iterator.a.rest.now ≡ drop (length l.yielded) l.inputs) ×
    (l.x-iterator.b.rest.now ≡ drop (length l.yielded) l.input) × (l.values ≡ placed (input_row l.inputs) l.input (length l.yielded) l.initial.values)
