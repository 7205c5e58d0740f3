-- `graph::latch::write_latch` meets its contract.
use native.Mathlib.Omega.{arith}
use mathlib.Core.Path.{refl}
use lib.ListN.{length-set}
use Rattle.graph.specs.Latches.{latch_set}
use Rattle.graph.proofs.latch.write_latch.Goals as goal

pub bounds-latches-at-2 : goal.bounds-latches-at-2
bounds-latches-at-2 c = simp length-set (omega arith)

pub bounds-latches-at-3 : goal.bounds-latches-at-3
bounds-latches-at-3 c = simp length-set (omega arith)

pub returns : goal.returns
unfolding latch_set
returns c = refl
