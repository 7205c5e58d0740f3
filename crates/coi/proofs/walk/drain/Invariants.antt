use mathlib.Core.Path.{◌≡◌}
use lib.ListN.{length}
use Rattle.coi.specs.Coi.{drained}
use Rattle.coi.specs.Steps.{stacked, work_of, turns_left, Going, steps_by}
use Rattle.coi.proofs.walk.drain.Given as goal

abbrev pub invariant-loop-count : goal.invariant-loop-count
invariant-loop-count l =
    (length l.flags ≡ length l.initial.flags) × (length l.stack ≡ length l.initial.stack) × Going (length l.initial.flags) (length l.initial.stack) (work_of l.flags l.stack l.count) ×
    (drained (steps_by l.graph.rows.now l.graph.latches.now l.marks) (turns_left (work_of l.flags l.stack l.count)) l.flags (stacked l.stack l.count)
    ≡ drained (steps_by l.graph.rows.now l.graph.latches.now l.marks)
    (turns_left (work_of l.initial.flags l.initial.stack l.first)) l.initial.flags (stacked l.initial.stack l.first))

abbrev pub decreases-loop-count : goal.decreases-loop-count
decreases-loop-count l = turns_left (work_of l.flags l.stack l.count)
