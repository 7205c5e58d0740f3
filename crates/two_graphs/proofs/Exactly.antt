-- The answers of a call on two graphs are those of document 01's table, each exactly in its case.
-- Assumes nothing.
use Prim.Native.Nat.{ℕ}
use mathlib.Core.Path.{◌≡◌, refl, sym, ap, ◌∙◌}
use mathlib.Core.Bool.{Bool, true, false}
use mathlib.Core.Logic.{inl, inr}
use mathlib.Core.List.{List}
use lib.ListN.{length}
use lib.Dec.{eqb}
use borrow.Author.Tests.{eqb-true, eqb-false}
use Rattle.edge.specs.declared.answer.Given.{Given}
use Rattle.edge.proofs.Tests.{both_true, false_true}
use Rattle.graph.specs.Graph.{Lent, Sized, sizes_right}
use Rattle.graph.specs.Check.{cleared, check_call}
use Rattle.graph.specs.WellFormed.{WellFormed}
use Rattle.graph.specs.Exactly.{Exactly, all_right, wrong_sizes, faulty}
use Rattle.two_graphs.specs.Exactly.{FaultOfTwo, AnswersTwo}
use Rattle.rows.specs.Rows.{larger}
use Rattle.two_graphs.specs.Pair.{sizes_of_two, SizedTwo, check_two_call}
use Rattle.graph.proofs.WellFormed.{sizes_true, all_clean, exact}
use Rattle.graph.proofs.Exactly.{names_refused, names_one, no_fault}
use Rattle.two_graphs.proofs.Pair.{sized_two, exact_two}

pub two_refused : (a b : Lent) (p : Given) → FaultOfTwo a b p → p.number ≡ 0 → ⊥
two_refused a b p (inl names) = names_refused a p names
two_refused a b p (inr second) = names_refused b p second.1

module _ (a b : Lent) (marks : List ℕ) where
  abbrev two : Given
  two = (check_two_call a b marks).given

  -- the sizes are right, or they are not
  data Sizes : Type 0 where
    right : SizedTwo a b (length marks) → Sizes
    wrong : (SizedTwo a b (length marks) → ⊥) → Sizes

  by_sizes : Sizes
  by_sizes = go (sizes_of_two a b (length marks)) refl
    where
      go : (t : Bool) → sizes_of_two a b (length marks) ≡ t → Sizes
      go true e = right (sized_two a b (length marks) e)
      go false e = wrong (λ s. false_true (sym e ∙ both_true {a = sizes_right a (length marks)} (sizes_true a (length marks) s.first) (sizes_true b (length marks) s.second)))

  -- of two graphs of right sizes
  judged_two : SizedTwo a b (length marks) → Exactly (SizedTwo a b (length marks)) (WellFormed a × WellFormed b) (FaultOfTwo a b) true true two
  judged_two s = first (eqb (check_call a marks).given.number 0) refl
    where
      faults : (g : Lent) → Sized g (length marks) → eqb (check_call g marks).given.number 0 ≡ false → WellFormed g → ⊥
      faults g z e w = eqb-false _ _ e (ap (λ (p : Given). p.number) ((exact g marks).accepts z w))

      second : WellFormed a → (t : Bool) → eqb (check_call b marks).given.number 0 ≡ t
          → Exactly (SizedTwo a b (length marks)) (WellFormed a × WellFormed b) (FaultOfTwo a b) true true (check_call b marks).given
      second w true e = let v = ((exact b marks).accepted (eqb-true _ _ e)).1 in rw ((exact b marks).accepts s.second v) (all_right s (w, v) refl refl)
      second w false e = let n = faults b s.second e in faulty s (λ both. n both.1) (inr (w, (exact b marks).names s.second n))

      first : (t : Bool) → eqb (check_call a marks).given.number 0 ≡ t → Exactly (SizedTwo a b (length marks)) (WellFormed a × WellFormed b) (FaultOfTwo a b) true true two
      first true e =
          let w = ((exact a marks).accepted (eqb-true _ _ e)).1 in
          rw ((exact_two a b marks).of_second s w) (second w (eqb (check_call b marks).given.number 0) refl)
      first false e =
          let n = faults a s.first e in
          rw ((exact_two a b marks).of_first s n) (faulty s (λ both. n both.0) (inl ((exact a marks).names s.first n)))

  pub check_two_answers : AnswersTwo true true a b marks two (check_two_call a b marks).marks
  check_two_answers = record { exactly = exactly by_sizes; untouched = (exact_two a b marks).untouched; zeroed = zeroed by_sizes }
    where
      exactly : Sizes → Exactly (SizedTwo a b (length marks)) (WellFormed a × WellFormed b) (FaultOfTwo a b) true true two
      exactly (right s) = judged_two s
      exactly (wrong n) = rw ((exact_two a b marks).refuses n) (wrong_sizes n)

      zeroed : Sizes → (two.number ≡ 1 → ⊥) → (check_two_call a b marks).marks ≡ cleared (larger a.counts.rows b.counts.rows) marks
      zeroed (right s) h = (exact_two a b marks).clear s
      zeroed (wrong n) h = absurd (h (ap (λ (p : Given). p.number) ((exact_two a b marks).refuses n)))

pub two_one : (a b : Lent) (marks : ℕ) → SizedTwo a b marks → (p q : Given) → FaultOfTwo a b p → FaultOfTwo a b q → p ≡ q
two_one a b marks s p q (inl x) (inl y) = names_one p q x y
two_one a b marks s p q (inl x) (inr y) = absurd (no_fault (all_clean a marks s.first y.0) x)
two_one a b marks s p q (inr x) (inl y) = absurd (no_fault (all_clean a marks s.first x.0) y)
two_one a b marks s p q (inr x) (inr y) = names_one p q x.1 y.1
