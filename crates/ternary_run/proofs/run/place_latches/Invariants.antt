use mathlib.Core.Path.{◌≡◌}
use lib.ListN.{length}
use Rattle.ternary_run.specs.Run.{placed, latch_row}
use Rattle.ternary_run.proofs.run.place_latches.Given as goal

abbrev pub invariant-loop-i : goal.invariant-loop-i
invariant-loop-i l = (length l.values ≡ length l.initial.values) × (l.values ≡ placed (latch_row l.latches) l.state l.i l.initial.values)
