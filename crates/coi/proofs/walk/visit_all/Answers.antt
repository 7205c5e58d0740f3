-- `coi::walk::visit_all` meets its contract.
use Prim.Native.Nat.{◌<◌}
use mathlib.Core.Path.{refl, sym, ap, ◌∙◌}
use lib.ListN.{length, get_or}
use borrow.Author.Tests.{ltb-true}
use Rattle.root_marks.proofs.Arguments.{every_at}
use Rattle.coi.specs.Coi.{visited_all, used_row}
use Rattle.coi.proofs.Visiting.{going_on}
use Rattle.coi.proofs.Walking.{visits_turn, visits_end}
use borrow.Author.Rules.{rules}
use Rattle.coi.proofs.walk.visit_all.Goals as goal
use Rattle.coi.proofs.walk.visit_all.Goals.{In-loop-id}

-- the id is that of a used row
id_used : (c : In-loop-id) →
    get_or c.args.ids.now c.loop-id.id-index 0 < length c.args.flags.now
id_used c = ltb-true _ _ (every_at (used_row (length c.args.flags.now)) c.args.ids.now c.requires.ids_value c.loop-id.id-index c.loop-id-test.true)

pub loop-id-init : goal.loop-id-init
loop-id-init c = (refl, refl, c.requires.going, refl)

pub visit-count-requires : goal.visit-count-requires
visit-count-requires c = rw (c.loop-id.invariant.0, c.loop-id.invariant.1) record { j_in_bounds = id_used (goal.at.visit-count-requires c).In-loop-id; going = c.loop-id.invariant.2 }

pub loop-id-preserved : goal.loop-id-preserved
loop-id-preserved c = (
  search rules,
  search rules,
  going_on _ _ _ c.visit-count.ensures (id_used (goal.at.loop-id-preserved c).In-loop-id) c.loop-id.invariant.2,
  ap (visited_all _) c.visit-count.ensures ∙ (sym (visits_turn _ _ _ c.loop-id-test.true) ∙ c.loop-id.invariant.3),
)

pub returns : goal.returns
returns c = sym (visits_end _ _ _ c.loop-id-test.false) ∙ c.loop-id.invariant.3
