-- `graph::leaves::check_leaves` meets its contract.
use mathlib.Core.Path.{sym, ap, ◌∙◌}
use Rattle.edge.specs.Answers.{told}
use Rattle.edge.proofs.Answers.{handed_on}
use Rattle.graph.specs.Stages.{entry_found}
use Rattle.graph.proofs.Stages.{entry_fault, entries_stop, entries_go, none_found}
use Rattle.graph.proofs.leaves.check_leaves.Goals as goal

pub first_bad_latch-first_bad-requires-clause-marks : goal.first_bad_latch-first_bad-requires-clause-marks
first_bad_latch-first_bad-requires-clause-marks c = c.first_bad_input-first_bad.ensures.listed (none_found 1 _ c.in_ok-no_bad_entry.ensures)

pub returns-in_err-no_bad_entry-clause-result_value : goal.returns-in_err-no_bad_entry-clause-result_value
returns-in_err-no_bad_entry-clause-result_value c =
    ap told (handed_on _ _ c.from_residual.ensures.1) ∙ entries_stop 1 _ _ _ c.first_bad_input-first_bad.ensures.value _ c.in_err-no_bad_entry.ensures

pub returns-clause-result_value : goal.returns-clause-result_value
returns-clause-result_value c =
    c.no_bad_entry-2.ensures ∙ ap (entry_found 2) c.first_bad_latch-first_bad.ensures.value ∙ entry_fault 2 _ _ ∙
    sym (entries_go 1 _ _ _ c.first_bad_input-first_bad.ensures.value c.in_ok-no_bad_entry.ensures)
