-- `graph::contents::check_lists` meets its contract.
use mathlib.Core.Path.{◌≡◌, sym, ap, ◌∙◌}
use mathlib.Core.List.{[], ◌∷◌, ◌++◌}
use Rattle.edge.specs.Answers.{told}
use Rattle.edge.proofs.Answers.{handed_on}
use Rattle.graph.specs.Graph.{lent_of}
use Rattle.graph.specs.Stages.{first_fault}
use Rattle.graph.specs.Check.{edge_stage, justice_stages, list_stages_of}
use Rattle.graph.proofs.Stages.{edges_taken, edges_stop, edges_go, stops_within, goes_beyond}
use Rattle.graph.proofs.Checked.{justice_entries}
use Rattle.graph.proofs.contents.check_lists.Goals as goal
use Rattle.graph.proofs.contents.check_lists.Goals.{In_ok-check_edges, In_ok-check_edges-2, In_ok-check_edges-3}

-- what is left of the lists behind the constraints, the bads, the outputs
past_constraints : (c : In_ok-check_edges)
    → let g = lent_of c.args.graph.now in
    first_fault (list_stages_of g) ≡ first_fault
    (edge_stage g.counts.rows 4 g.bads g.counts.bads ∷ (edge_stage g.counts.rows 5 g.outputs g.counts.outputs
    ∷ (justice_stages g.counts.rows g.ends g.counts.sets g.edges g.counts.edges ++ (edge_stage g.counts.rows 7 g.fairness g.counts.fairness ∷ []))))
past_constraints c = edges_go _ 3 _ _ c.requires.constraints _ c.in_ok-check_edges.ensures

past_bads : (c : In_ok-check_edges-2)
    → let g = lent_of c.args.graph.now in
    first_fault (list_stages_of g) ≡ first_fault
    (edge_stage g.counts.rows 5 g.outputs g.counts.outputs
    ∷ (justice_stages g.counts.rows g.ends g.counts.sets g.edges g.counts.edges ++ (edge_stage g.counts.rows 7 g.fairness g.counts.fairness ∷ [])))
past_bads c = past_constraints (goal.at.In_ok-check_edges-2 c).In_ok-check_edges ∙ edges_go _ 4 _ _ c.requires.bads _ c.in_ok-check_edges-2.ensures

past_outputs : (c : In_ok-check_edges-3)
    → let g = lent_of c.args.graph.now in
    first_fault (list_stages_of g)
    ≡ first_fault (justice_stages g.counts.rows g.ends g.counts.sets g.edges g.counts.edges ++ (edge_stage g.counts.rows 7 g.fairness g.counts.fairness ∷ []))
past_outputs c = past_bads (goal.at.In_ok-check_edges-3 c).In_ok-check_edges-2 ∙ edges_go _ 5 _ _ c.requires.outputs _ c.in_ok-check_edges-3.ensures

pub returns-in_err-check_edges : goal.returns-in_err-check_edges
returns-in_err-check_edges c =
    ap told (handed_on _ _ c.from_residual.ensures.1) ∙ edges_stop _ 3 _ _ c.requires.constraints _ _ c.in_err-check_edges.ensures

pub returns-in_err-check_edges-2 : goal.returns-in_err-check_edges-2
returns-in_err-check_edges-2 c =
    ap told (handed_on _ _ c.from_residual-in_err-check_edges-2.ensures.1) ∙ edges_stop _ 4 _ _ c.requires.bads _ _ c.in_err-check_edges-2.ensures ∙
    sym (past_constraints (goal.at.returns-in_err-check_edges-2 c).In_ok-check_edges)

pub returns-in_err-check_edges-3 : goal.returns-in_err-check_edges-3
returns-in_err-check_edges-3 c =
    ap told (handed_on _ _ c.from_residual-in_err-check_edges-3.ensures.1) ∙ edges_stop _ 5 _ _ c.requires.outputs _ _ c.in_err-check_edges-3.ensures ∙
    sym (past_bads (goal.at.returns-in_err-check_edges-3 c).In_ok-check_edges-2)

pub returns-in_err-check_justice : goal.returns-in_err-check_justice
returns-in_err-check_justice c =
    let g = lent_of c.args.graph.now in
    ap told (handed_on _ _ c.from_residual-in_err-check_justice.ensures.1) ∙
    sym (past_outputs (goal.at.returns-in_err-check_justice c).In_ok-check_edges-3 ∙
    stops_within _ (justice_entries g.counts.rows g.ends g.counts.sets g.edges g.counts.edges) _ c.in_err-check_justice.ensures)

pub returns : goal.returns
returns c =
    let g = lent_of c.args.graph.now in
    c.check_edges-4.ensures ∙ edges_taken _ 7 _ _ c.requires.fairness ∙
    sym (past_outputs (goal.at.returns c).In_ok-check_edges-3 ∙
    goes_beyond _ (justice_entries g.counts.rows g.ends g.counts.sets g.edges g.counts.edges) c.in_ok-check_justice.ensures)
