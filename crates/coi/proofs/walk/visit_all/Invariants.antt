use mathlib.Core.Path.{◌≡◌}
use lib.ListN.{length, drop}
use Rattle.coi.specs.Coi.{visited_all}
use Rattle.coi.specs.Steps.{work_of, Going}
use Rattle.coi.proofs.walk.visit_all.Given as goal

abbrev pub invariant-loop-id : goal.invariant-loop-id
invariant-loop-id l =
    (length l.flags ≡ length l.initial.flags) × (length l.stack ≡ length l.initial.stack) × Going (length l.initial.flags) (length l.initial.stack) (work_of l.flags l.stack l.count) ×
    (visited_all (drop l.id-index l.ids) (work_of l.flags l.stack l.count) ≡ visited_all l.ids (work_of l.initial.flags l.initial.stack l.first))
