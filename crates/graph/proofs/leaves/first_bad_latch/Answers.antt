-- `graph::leaves::first_bad_latch` meets its contract.
use native.Mathlib.Omega.{arith}
use native.Mathlib.Nat.{sub-zero, le_antisymm}
use mathlib.Core.Path.{◌≡◌, refl, sym, ap, ap₂, ◌∙◌}
use mathlib.Core.Bool.{◌&&◌}
use mathlib.Core.List.{◌++◌, append-nil}
use borrow.Author.Tests.{not-true, not-false}
use lib.ListN.{take}
use Rattle.edge.proofs.Tests.{both}
use Rattle.graph.specs.Latches.{latch_inputs}
use Rattle.graph.specs.Leaves.{free_leaf, latch_edges, good_latch}
use Rattle.graph.specs.declared.latch.Latch.{Latch}
use Rattle.graph.proofs.Searching.{stops, goes_on, ended, at_nothing}
use Rattle.graph.proofs.Marked.{inputs_more, claim_beyond, claim_free, claim_marks}
use borrow.Author.Rules.{rules}
use Rattle.graph.proofs.leaves.first_bad_latch.Goals as goal
use Rattle.graph.proofs.leaves.first_bad_latch.Goals.{After-latch_edges}

-- the test of a latch
judged : (c : After-latch_edges) →
    c.claim.result && c.latch_edges.result ≡ good_latch c.args.graph.now.rows.now c.args.graph.now.counts.rows (take c.args.graph.now.counts.inputs c.args.graph.now.inputs.now)
    c.args.graph.now.latches.now c.loop-i.i
judged c =
    let a = c.args in
    ap₂ ◌&&◌
    (claim_free _ _ _ _ _ _ c.claim.ensures.value c.claim.ensures.marks_after _ c.loop-i.invariant.3 ∙ ap
    (λ (l : Latch). free_leaf a.graph.now.rows.now a.graph.now.counts.rows (take a.graph.now.counts.inputs a.graph.now.inputs.now ++ latch_inputs a.graph.now.latches.now c.loop-i.i) l.input)
    c.latch_at-l.ensures) (c.latch_edges.ensures ∙ ap (latch_edges a.graph.now.counts.rows) c.latch_at-l.ensures)

pub loop-i-init : goal.loop-i-init
unfolding latch_inputs
loop-i-init c = (search rules, refl, refl, rw append-nil c.requires.marks, rw sub-zero)

pub returns-then-not-claim-latch_edges : goal.returns-then-not-claim-latch_edges
returns-then-not-claim-latch_edges c =
    let stopped = c.loop-i.invariant.4 ∙ stops _ _ _ c.loop-i-test.true
    (sym (judged (goal.at.returns-then-not-claim-latch_edges c).After-latch_edges) ∙ not-true _ c.if-not-claim-latch_edges.true-raw) in
    record { value = sym stopped; marks_unchanged = claim_beyond _ _ _ _ _ _ c.claim.ensures.value c.claim.ensures.marks_after ∙ c.loop-i.invariant.2; listed = λ e. absurd (at_nothing e) }

pub loop-i-preserved : goal.loop-i-preserved
loop-i-preserved c = (
  search rules,
  search rules,
  claim_beyond _ _ _ _ _ _ c.claim.ensures.value c.claim.ensures.marks_after ∙ c.loop-i.invariant.2,
  claim_marks _ _ _ _ _ _ c.claim.ensures.value c.claim.ensures.marks_after _ c.loop-i.invariant.3
      (rw c.latch_at-l.ensures (inputs_more (take c.args.graph.now.counts.inputs c.args.graph.now.inputs.now) c.args.graph.now.latches.now c.loop-i.i)) (omega arith)
      (both (not-false _ c.if-not-claim-latch_edges.false-raw)).0,
  c.loop-i.invariant.4 ∙ goes_on _ _ _ c.loop-i-test.true (sym (judged (goal.at.loop-i-preserved c).After-latch_edges) ∙ not-false _ c.if-not-claim-latch_edges.false-raw),
)

pub returns : goal.returns
returns c =
    record {
      value = sym (c.loop-i.invariant.4 ∙ ended _ _ _ c.loop-i-test.false);
      marks_unchanged = c.loop-i.invariant.2;
      listed = λ _. rw (← (le_antisymm c.loop-i.invariant.0 c.loop-i-test.false)) c.loop-i.invariant.3;
    }
