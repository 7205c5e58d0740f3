-- `graph::contents::check_stages` meets its contract.
use mathlib.Core.Path.{sym, ap, ◌∙◌}
use Rattle.edge.specs.Answers.{told}
use Rattle.edge.proofs.Answers.{handed_on}
use Rattle.graph.specs.Graph.{lent_of}
use Rattle.graph.proofs.Checked.{lists_lent, at_row, at_leaves, at_lists}
use Rattle.graph.proofs.contents.check_stages.Goals as goal

pub returns-in-Some-clause-result_value : goal.returns-in-Some-clause-result_value
returns-in-Some-clause-result_value c = sym (at_row (lent_of c.args.graph.now) (sym c.first_bad_row.ensures ∙ c.in-Some.is))

pub returns-in_err-check_leaves-clause-result_value : goal.returns-in_err-check_leaves-clause-result_value
returns-in_err-check_leaves-clause-result_value c =
    ap told (handed_on _ _ c.from_residual.ensures.1) ∙ sym
    (at_leaves (lent_of c.args.graph.now) (sym c.first_bad_row.ensures ∙ c.in_default.is) _ c.in_err-check_leaves.ensures.result_value)

pub returns-clause-result_value : goal.returns-clause-result_value
returns-clause-result_value c =
    c.check_lists.ensures ∙ sym
    (at_lists (lent_of c.args.graph.now) (sym c.first_bad_row.ensures ∙ c.in_default.is) c.in_ok-check_leaves.ensures.result_value)

pub check_lists-requires : goal.check_lists-requires
check_lists-requires c = lists_lent c.requires.sized
