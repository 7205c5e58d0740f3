-- `coi::write` meets its contract.
use native.Mathlib.Omega.{arith}
use mathlib.Core.Path.{◌≡◌, ◌∙◌}
use lib.ListN.{length}
use Rattle.coi.proofs.Linking.{known, searched_same, zeros_long, all_zeros}
use Rattle.coi.proofs.write.Goals as goal
use Rattle.coi.proofs.write.Goals.{Start}

-- the marks are as many as the flags
marks_long : (c : Start) → length c.args.marks.now ≡ length c.args.flags.now
marks_long c = zeros_long c.args.marks.now (length c.args.flags.now) c.requires.marks_value

pub link-requires : goal.link-requires
link-requires c = rw (marks_long (goal.at.link-requires c).Start) record { latches_known = c.requires.coi_ready.latches_known; marks_value = c.requires.marks_value }

pub search-requires : goal.search-requires
search-requires c =
    record {
      known = known _ _ _ _ c.link.ensures _ c.requires.coi_ready (c.marks-1.given ∙ marks_long (goal.at.search-requires c).Start);
      ids_value = c.requires.ids_value;
      stack_len = c.requires.stack_len;
    }

pub clear-requires : goal.clear-requires
clear-requires c = omega (arith, c.marks-1.given, marks_long (goal.at.clear-requires c).Start, c.flags-1.given)

pub clear-requires-2 : goal.clear-requires-2
clear-requires-2 c = omega (arith, c.stack-1.given, c.requires.stack_len, c.flags-1.given)

pub returns : goal.returns
returns c =
    record {
      flags_after = c.search.ensures ∙ searched_same _ _ _ _ c.link.ensures (length c.args.flags.now) c.args.ids.now;
      marks_after = all_zeros _ _ _ c.clear.ensures c.flags-1.given (c.marks-1.given ∙ marks_long (goal.at.returns c).Start);
      stack_after = all_zeros _ _ _ c.clear-2.ensures c.flags-1.given (c.stack-1.given ∙ c.requires.stack_len);
    }
