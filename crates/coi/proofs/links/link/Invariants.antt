use mathlib.Core.Path.{◌≡◌}
use lib.ListN.{length}
use Rattle.coi.specs.Steps.{Links}
use Rattle.coi.proofs.links.link.Given as goal

abbrev pub invariant-loop-k : goal.invariant-loop-k
invariant-loop-k l = (length l.marks ≡ length l.initial.marks) × Links l.graph.latches.now l.k l.marks
