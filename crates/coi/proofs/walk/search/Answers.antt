-- `coi::walk::search` meets its contract.
use mathlib.Core.Path.{refl, ◌∙◌}
use lib.ListN.{length}
use Rattle.root_marks.proofs.Flagging.{cleared_all}
use Rattle.coi.specs.Steps.{steps_by}
use Rattle.coi.proofs.Visiting.{going_on, all_going_on}
use Rattle.coi.proofs.Walking.{start_going, walked}
use Rattle.coi.proofs.walk.search.Goals as goal

pub visit-first-requires : goal.visit-first-requires
visit-first-requires c =
    rw (c.flags-1.given, c.requires.stack_len) record {
      j_in_bounds = c.requires.known.some;
      going = start_going (length c.args.flags.now) _ c.args.stack.now (c.clear.ensures ∙ cleared_all c.args.flags.now (length c.args.flags.now) refl)
          c.requires.known.small;
    }

pub visit_all-count-requires : goal.visit_all-count-requires
visit_all-count-requires c =
    rw (c.flags-2-1.given, c.flags-1.given, c.stack-1.given, c.requires.stack_len) record {
      ids_value = c.requires.ids_value;
      going = going_on _ _ 0 c.visit-first.ensures c.requires.known.some
          (start_going (length c.args.flags.now) _ c.args.stack.now (c.clear.ensures ∙ cleared_all c.args.flags.now (length c.args.flags.now) refl)
          c.requires.known.small);
    }

pub drain-requires : goal.drain-requires
drain-requires c =
    rw (c.flags-3-1.given, c.flags-2-1.given, c.flags-1.given, c.stack-2-1.given, c.stack-1.given, c.requires.stack_len) record {
      known = c.requires.known;
      going = all_going_on _ _ c.args.ids.now c.visit_all-count.ensures c.requires.ids_value
          (going_on _ _ 0 c.visit-first.ensures c.requires.known.some
          (start_going (length c.args.flags.now) _ c.args.stack.now (c.clear.ensures ∙ cleared_all c.args.flags.now (length c.args.flags.now) refl)
          c.requires.known.small));
    }

pub returns : goal.returns
returns c =
    c.drain.ensures ∙ walked (length c.args.flags.now) _ c.args.stack.now
    (c.clear.ensures ∙ cleared_all c.args.flags.now (length c.args.flags.now) refl) c.requires.known.small c.requires.known.some
    (steps_by c.args.graph.now.rows.now c.args.graph.now.latches.now c.args.marks.now) c.args.ids.now c.requires.ids_value c.visit-first.ensures
    c.visit_all-count.ensures
