-- A refused constructor leaves the record as it was.
-- Assumes nothing.
use Rattle.std.proofs.Common.{ℕ, ◌≡◌, List, sym, ap, ◌∙◌}
use Rattle.std.specs.Prelude.{Result, Err, IsErrAnd}
use Rattle.edge.specs.declared.answer.Given.{Given}
use Rattle.edge.specs.declared.answer.Refusal.{Refusal}
use Rattle.edge.specs.Answers.{refused}
use Rattle.edge.proofs.Answers.{handed_on, not_done}
use Rattle.graph.specs.declared.Counts.{Counts}
use Rattle.build_leaves.specs.declared.calls.Added.{Added}
use Rattle.build_leaves.specs.Calls.{Left, Seen, call_of, added_seen}

module _ (g : Given) (rows list : List ℕ) (n : Counts) (after : Left) (f : Refusal) (c : Counts) (x v : List ℕ) (p : added_seen c (Err f) x v ≡ call_of g rows list n after) where
  given_refused : g ≡ refused f
  unfolding call_of
  given_refused = sym (ap (λ (z : Seen). z.given) p)

  counts_kept : c ≡ n
  unfolding call_of
  counts_kept = rw (given_refused, not_done f) at (ap (λ (z : Seen). z.left.counts) p)

  pub lent_refused : (r : Result Added Refusal) → IsErrAnd r (λ e. e ≡ f) → added_seen n r x v ≡ call_of g rows list n after
  lent_refused r e = ap (λ q. added_seen n q x v) (handed_on r f e) ∙ (ap (λ m. added_seen m (Err f) x v) (sym counts_kept) ∙ p)
