-- `check_two` is exact, by `check` of each graph.
-- Assumes nothing.
use Prim.Native.Nat.{ℕ, zero, suc, ◌+◌, ◌-◌, ◌≤◌}
use native.Mathlib.Omega.{arith}
use mathlib.Core.Path.{◌≡◌, refl, sym, ap, ◌∙◌}
use mathlib.Core.Bool.{Bool, true, false, cond}
use mathlib.Core.List.{List, ◌∷◌, ◌++◌}
use lib.ListN.{length, drop, replicate, length-replicate}
use lib.Seq.{drop-drop, drop-append-add}
use lib.Dec.{leb, eqb}
use borrow.Author.Tests.{leb-true, leb-false, eqb-true, eqb-false}
use Rattle.std.specs.Prelude.{Result, Err}
use Rattle.edge.specs.declared.answer.Refusal.{Refusal}
use Rattle.edge.specs.declared.answer.Refusal.TheVariants.{BadSizes}
use Rattle.edge.specs.declared.answer.Given.{Given}
use Rattle.edge.specs.Answers.{done, bad_sizes, refused, told, or_else}
use Rattle.edge.proofs.Tests.{both, both_true, false_true}
use Rattle.edge.proofs.Answers.{stops_here, goes_past, none_of_two, not_done}
use Rattle.graph.specs.Graph.{Lent, sizes_right, Sized}
use Rattle.graph.specs.Check.{contents, cleared, CheckSeen, check_seen, check_call}
use Rattle.graph.specs.WellFormed.{WellFormed}
use Rattle.rows.specs.Rows.{larger}
use Rattle.two_graphs.specs.Pair.{sizes_of_two, check_two_call, SizedTwo, ExactTwo}
use Rattle.graph.proofs.Checked.{sized}
use Rattle.graph.proofs.WellFormed.{sizes_true, exact}

-- ---- clearing twice
zeros : (m n : ℕ) (l : List ℕ) → m ≤ n → replicate m 0 ++ drop m (replicate n 0 ++ l) ≡ replicate n 0 ++ l
zeros zero n l h = refl
zeros (suc m) zero l h = absurd (omega arith)
zeros (suc m) (suc n) l h = ap (λ (t : List ℕ). 0 ∷ t) (zeros m n l (omega arith))

-- fewer after more
pub cleared_fewer : (m n : ℕ) (marks : List ℕ) → m ≤ n → cleared m (cleared n marks) ≡ cleared n marks
cleared_fewer m n marks h = zeros m n (drop n marks) h

-- more after fewer
cleared_more : (d n : ℕ) (marks : List ℕ) → cleared (n + d) (cleared n marks) ≡ cleared (n + d) marks
cleared_more d n marks =
    ap (λ (l : List ℕ). replicate (n + d) 0 ++ l)
    (ap (λ (k : ℕ). drop (k + d) (cleared n marks)) (sym (length-replicate {A = ℕ} n 0))
    ∙ (drop-append-add (replicate n 0) (drop n marks) d ∙ drop-drop d n marks))

pub cleared_both : (m n : ℕ) (marks : List ℕ) → cleared m (cleared n marks) ≡ cleared (larger m n) marks
unfolding larger
cleared_both m n marks = go (leb m n) refl
  where
    go : (t : Bool) → leb m n ≡ t → cleared m (cleared n marks) ≡ cleared (cond t n m) marks
    go true e = cleared_fewer m n marks (leb-true m n e)
    go false e =
        let l = leb-false m n e in
        let q : m ≡ n + (m - n) = omega arith in
        ap (λ (k : ℕ). cleared k (cleared n marks)) q ∙ (cleared_more (m - n) n marks ∙ ap (λ (k : ℕ). cleared k marks) (sym q))

module _ (m n : ℕ) where
  pub larger_first : m ≤ larger m n
  unfolding larger
  larger_first = go (leb m n) refl
    where
      go : (t : Bool) → leb m n ≡ t → m ≤ cond t n m
      go true e = leb-true m n e
      go false e = omega arith

  pub larger_second : n ≤ larger m n
  unfolding larger
  larger_second = go (leb m n) refl
    where
      go : (t : Bool) → leb m n ≡ t → n ≤ cond t n m
      go true e = omega arith
      go false e = omega (arith, leb-false m n e)

-- ---- the call
pub sized_two : (a b : Lent) (marks : ℕ) → sizes_of_two a b marks ≡ true → SizedTwo a b marks
sized_two a b marks e =
    let t = both {a = sizes_right a marks} {b = sizes_right b marks} e in
    record { first = sized a marks t.0; second = sized b marks t.1 }

-- so many marks after some were changed
pub sizes_kept : (g : Lent) {m n : ℕ} → m ≡ n → sizes_right g m ≡ true → sizes_right g n ≡ true
sizes_kept g e h = rw (sym e) h

module _ (a b : Lent) (marks : List ℕ) where
  abbrev cleared_two : List ℕ
  cleared_two = cleared (larger a.counts.rows b.counts.rows) marks

  pub two_refused : sizes_of_two a b (length marks) ≡ false → check_seen (Err BadSizes) marks ≡ check_two_call a b marks
  unfolding check_two_call
  two_refused e = rw e

  module _ (e : sizes_of_two a b (length marks) ≡ true) (r : Result Unit Refusal) (after : List ℕ) where
    seen : told r ≡ or_else (contents a) (contents b) → after ≡ cleared_two → check_seen r after ≡ check_two_call a b marks
    unfolding check_two_call
    seen t w = rw (e, t, w)

    -- the first is refused; `old` are the marks before its check
    module _ {old : List ℕ} (o : old ≡ cleared b.counts.rows marks) where
      emptied : {now : List ℕ} → now ≡ cleared a.counts.rows old → now ≡ cleared_two
      emptied w = w ∙ (ap (cleared a.counts.rows) o ∙ cleared_both a.counts.rows b.counts.rows marks)

      pub two_first : (f : Refusal) → r ≡ Err f → refused f ≡ contents a → after ≡ cleared a.counts.rows old → check_seen r after ≡ check_two_call a b marks
      two_first f is t w =
          let stopped : (contents a).number ≡ 0 → ⊥ = λ z. eqb-false _ _ (not_done f) (ap (λ (g : Given). g.number) t ∙ z) in
          seen (ap (λ (q : Result Unit Refusal). told q) is ∙ (t ∙ sym (stops_here (contents a) (contents b) stopped))) (emptied w)

      pub two_second : {between : List ℕ} → told r ≡ contents b → done ≡ contents a → between ≡ cleared a.counts.rows old → after ≡ cleared b.counts.rows between
          → check_seen r after ≡ check_two_call a b marks
      two_second t n u w =
          seen (t ∙ sym (goes_past (contents a) (contents b) (ap (λ (g : Given). g.number) (sym n))))
          (w ∙ (ap (cleared b.counts.rows) (emptied u) ∙ cleared_fewer b.counts.rows (larger a.counts.rows b.counts.rows) marks (larger_second a.counts.rows b.counts.rows)))

  -- ---- each answer in its case
  -- where the sizes are right, `check` of each answers its contents
  alone : (g : Lent) → Sized g (length marks) → (check_call g marks).given ≡ contents g
  unfolding check_call
  alone g s = rw (sizes_true g (length marks) s)

  module _ (s : SizedTwo a b (length marks)) where
    right : sizes_of_two a b (length marks) ≡ true
    right = both_true {a = sizes_right a (length marks)} (sizes_true a (length marks) s.first) (sizes_true b (length marks) s.second)

    answer : (check_two_call a b marks).given ≡ or_else (contents a) (contents b)
    unfolding check_two_call
    answer = rw right

    of_second : WellFormed a → (check_two_call a b marks).given ≡ (check_call b marks).given
    of_second w =
        let d = sym (alone a s.first) ∙ (exact a marks).accepts s.first w in
        answer ∙ (ap (λ (g : Given). or_else g (contents b)) d ∙ (goes_past done (contents b) refl ∙ sym (alone b s.second)))

    of_first : (WellFormed a → ⊥) → (check_two_call a b marks).given ≡ (check_call a marks).given
    of_first n =
        answer ∙
        (stops_here (contents a) (contents b) (λ (z : (contents a).number ≡ 0). n ((exact a marks).accepted (ap (λ (g : Given). g.number) (alone a s.first) ∙ z)).1) ∙ sym
        (alone a s.first))

    clear : (check_two_call a b marks).marks ≡ cleared_two
    unfolding check_two_call
    clear = rw right

  -- the two cases of the sizes
  data Sizes : Type 0 where
    good : SizedTwo a b (length marks) → Sizes
    bad : (SizedTwo a b (length marks) → ⊥) → check_two_call a b marks ≡ record { given = bad_sizes; marks = marks } → Sizes

  by_sizes : Sizes
  unfolding check_two_call
  by_sizes = go (sizes_of_two a b (length marks)) refl
    where
      go : (t : Bool) → sizes_of_two a b (length marks) ≡ t → Sizes
      go true e = good (sized_two a b (length marks) e)
      go false e = bad (λ s. false_true (sym e ∙ right s)) (rw e)

  pub exact_two : ExactTwo a b marks
  exact_two =
      record {
        accepts = λ s w v. of_second s w ∙ (exact b marks).accepts s.second v;
        accepted = λ z. accepted z by_sizes;
        refuses = λ n. refuses n by_sizes;
        refused = λ z s. refused z s;
        of_first = of_first;
        of_second = of_second;
        untouched = λ z. untouched z by_sizes;
        clear = clear;
      }
    where
      number : {x y : Given} → x ≡ y → x.number ≡ y.number
      number e = ap (λ (g : Given). g.number) e

      accepted : (check_two_call a b marks).given.number ≡ 0 → Sizes → SizedTwo a b (length marks) × WellFormed a × WellFormed b
      accepted z (good s) =
          let t = none_of_two (contents a) (contents b) (number (sym (answer s)) ∙ z) in
          (s, ((exact a marks).accepted (number (alone a s.first) ∙ t.0)).1, ((exact b marks).accepted (number (alone b s.second) ∙ t.1)).1)
      accepted z (bad n e) = absurd (omega (arith, ap (λ (x : CheckSeen). x.given.number) e))

      refuses : (SizedTwo a b (length marks) → ⊥) → Sizes → (check_two_call a b marks).given ≡ bad_sizes
      refuses n (good s) = absurd (n s)
      refuses n (bad m e) = ap (λ (x : CheckSeen). x.given) e

      -- `check` of a graph of right sizes does not answer 1
      refused : (check_two_call a b marks).given.number ≡ 1 → SizedTwo a b (length marks) → ⊥
      refused z s = go (eqb (contents a).number 0) refl
        where
          go : (t : Bool) → eqb (contents a).number 0 ≡ t → ⊥
          go true e =
              let w = ((exact a marks).accepted (number (alone a s.first) ∙ eqb-true _ _ e)).1 in
              (exact b marks).refused (number (sym (of_second s w)) ∙ z) s.second
          go false e =
              (exact a marks).refused (number (alone a s.first ∙ sym (stops_here (contents a) (contents b) (eqb-false (contents a).number 0 e)) ∙ sym (answer s)) ∙ z) s.first

      untouched : (check_two_call a b marks).given.number ≡ 1 → Sizes → (check_two_call a b marks).marks ≡ marks
      untouched z (good s) = absurd (refused z s)
      untouched z (bad n e) = ap (λ (x : CheckSeen). x.marks) e
