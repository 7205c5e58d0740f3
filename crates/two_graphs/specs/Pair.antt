-- What `check_two` answers: "with two graphs, all of 1 for both, then 2 and 3 for the first (`self`), then for the second".
-- Assumes nothing.
use Rattle.std.specs.Prelude.{ℕ, ◌≡◌, List, Bool, cond, ◌&&◌, length, Result}
use Rattle.std.proofs.Common.{ap}
use Rattle.edge.specs.declared.answer.Refusal.{Refusal}
use Rattle.edge.specs.Answers.{done, bad_sizes, or_else, told_injective, determined}
use Rattle.rows.specs.Rows.{larger}
use Rattle.graph.specs.Graph.{Lent, sizes_right, Sized}
use Rattle.graph.specs.Check.{contents, cleared, CheckSeen, check_seen, check_call}
use Rattle.graph.specs.WellFormed.{WellFormed}

-- no answer 1 for either: the marks cover the larger used number where they cover both
abbrev pub sizes_of_two : Lent → Lent → ℕ → Bool
sizes_of_two a b marks = sizes_right a marks && sizes_right b marks

-- 1, where the marks are untouched; then 2 and 3 of the first, then of the second. They are cleared over the used rows, "of two graphs, the larger number"
unfoldable pub check_two_call : Lent → Lent → List ℕ → CheckSeen
check_two_call a b marks =
    cond (sizes_of_two a b (length marks))
    (record { given = or_else (contents a) (contents b); marks = cleared (larger a.counts.rows b.counts.rows) marks })
    (record { given = bad_sizes; marks = marks })

-- any two results that the promise allows are equal
pub check_two_determined : (a b : Lent) (marks : List ℕ) (r s : Result Unit Refusal) (m n : List ℕ) → check_seen r m ≡ check_two_call a b marks → check_seen s n ≡ check_two_call a b marks → (r ≡ s) × (m ≡ n)
check_two_determined a b marks r s m n p q =
    let t = determined (check_two_call a b) marks (check_seen r m) (check_seen s n) p q in
    (told_injective r s (ap (λ (x : CheckSeen). x.given) t), ap (λ (x : CheckSeen). x.marks) t)

-- the sizes of both are right
pub record SizedTwo (a b : Lent) (marks : ℕ) : Type 0 where
  pub first : Sized a marks
  pub second : Sized b marks

-- `check_two` gives each answer exactly in its case. Where it is 2 or 3, it is what `check` says of the first graph, or of the second where the first is
-- well-formed; so it names the first fault (`Exact`).
pub record ExactTwo (a b : Lent) (marks : List ℕ) : Type 0 where
  -- 0: both are of right sizes and well-formed
  pub accepts : SizedTwo a b (length marks) → WellFormed a → WellFormed b → (check_two_call a b marks).given ≡ done
  pub accepted : (check_two_call a b marks).given.number ≡ 0 → SizedTwo a b (length marks) × WellFormed a × WellFormed b
  -- 1: the sizes of one are wrong
  pub refuses : (SizedTwo a b (length marks) → ⊥) → (check_two_call a b marks).given ≡ bad_sizes
  pub refused : (check_two_call a b marks).given.number ≡ 1 → SizedTwo a b (length marks) → ⊥
  -- 2 and 3
  pub of_first : SizedTwo a b (length marks) → (WellFormed a → ⊥) → (check_two_call a b marks).given ≡ (check_call a marks).given
  pub of_second : SizedTwo a b (length marks) → WellFormed a → (check_two_call a b marks).given ≡ (check_call b marks).given
  -- the marks
  pub untouched : (check_two_call a b marks).given.number ≡ 1 → (check_two_call a b marks).marks ≡ marks
  pub clear : SizedTwo a b (length marks) → (check_two_call a b marks).marks ≡ cleared (larger a.counts.rows b.counts.rows) marks
