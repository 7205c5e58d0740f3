use Prim.Native.Nat.{◌≤◌}
use lib.ListN.{length}
use Rattle.renumber.specs.Renumber.{ids_of, by}
use Rattle.kept_rows.specs.Keeping.{word_put, numbered, kept_input}
use Rattle.kept_rows.proofs.Copying.{Keeping}
use Rattle.kept_rows.proofs.copies.write_inputs.Given as goal

abbrev pub invariant-loop-input : goal.invariant-loop-input
invariant-loop-input l =
    (l.input-index ≤ length l.inputs) × Keeping (kept_input (numbered l.map) l.inputs) (word_put (ids_of (by l.map) l.inputs)) l.initial.out l.input-index l.out l.k
