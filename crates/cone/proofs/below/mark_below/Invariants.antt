use mathlib.Core.Path.{◌≡◌}
use lib.ListN.{length}
use Rattle.cone.specs.Cone.{mark_below}
use Rattle.cone.proofs.below.mark_below.Given as goal

abbrev pub invariant-loop-i : goal.invariant-loop-i
invariant-loop-i l = mark_below l.rows l.i l.flags ≡ mark_below l.rows (length l.initial.flags) l.initial.flags
