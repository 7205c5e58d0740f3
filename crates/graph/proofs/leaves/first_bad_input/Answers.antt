-- `graph::leaves::first_bad_input` meets its contract.
use Prim.Native.Nat.{◌<◌}
use native.Mathlib.Omega.{arith}
use native.Mathlib.Nat.{sub-zero, le_antisymm}
use mathlib.Core.Path.{◌≡◌, refl, sym, ◌∙◌}
use borrow.Author.Tests.{not-true, not-false}
use lib.ListN.{length}
use Rattle.graph.specs.Leaves.{good_input}
use Rattle.graph.proofs.Searching.{stops, goes_on, ended, at_nothing}
use Rattle.graph.proofs.Marked.{take_more, claim_beyond, claim_free, claim_marks}
use borrow.Author.Rules.{rules}
use Rattle.graph.proofs.leaves.first_bad_input.Goals as goal
use Rattle.graph.proofs.leaves.first_bad_input.Goals.{After-claim}

-- the test of an input
judged : (c : After-claim) →
    c.claim.result ≡ good_input c.args.graph.now.rows.now c.args.graph.now.counts.rows c.args.graph.now.inputs.now c.loop-i.i
judged c = claim_free _ _ _ _ _ _ c.claim.ensures.value c.claim.ensures.marks_after _ c.loop-i.invariant.3

pub loop-i-init : goal.loop-i-init
loop-i-init c = (search rules, refl, refl, c.requires.marks, rw sub-zero)

pub returns-then-not-claim : goal.returns-then-not-claim
returns-then-not-claim c =
    let stopped = c.loop-i.invariant.4 ∙ stops _ _ _ c.loop-i-test.true (sym (judged (goal.at.returns-then-not-claim c).After-claim) ∙ not-true _ c.if-not-claim.true-raw) in
    record { value = sym stopped; marks_unchanged = claim_beyond _ _ _ _ _ _ c.claim.ensures.value c.claim.ensures.marks_after ∙ c.loop-i.invariant.2; listed = λ e. absurd (at_nothing e) }

pub loop-i-preserved : goal.loop-i-preserved
loop-i-preserved c =
    let a = c.args in
    let h : c.loop-i.i < length a.graph.now.inputs.now = omega arith in (
      search rules,
      search rules,
      claim_beyond _ _ _ _ _ _ c.claim.ensures.value c.claim.ensures.marks_after ∙ c.loop-i.invariant.2,
      claim_marks _ _ _ _ _ _ c.claim.ensures.value c.claim.ensures.marks_after _ c.loop-i.invariant.3
          (take_more a.graph.now.inputs.now c.loop-i.i h) (omega arith) (not-false _ c.if-not-claim.false-raw),
      c.loop-i.invariant.4 ∙ goes_on _ _ _ c.loop-i-test.true (sym (judged (goal.at.loop-i-preserved c).After-claim) ∙ not-false _ c.if-not-claim.false-raw),
    )

pub returns : goal.returns
returns c =
    record {
      value = sym (c.loop-i.invariant.4 ∙ ended _ _ _ c.loop-i-test.false);
      marks_unchanged = c.loop-i.invariant.2;
      listed = λ _. rw (← (le_antisymm c.loop-i.invariant.0 c.loop-i-test.false)) c.loop-i.invariant.3;
    }
