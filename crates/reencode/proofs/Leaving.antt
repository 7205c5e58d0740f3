-- The used rows, counted: row 0, the listed leaves, the orphans and the gates.
-- Assumes nothing.
use Prim.Native.Nat.{ℕ, zero, suc, ◌+◌, ◌-◌, ◌*◌, ◌≤◌, ◌<◌}
use native.Mathlib.Omega.{arith}
use mathlib.Core.Path.{◌≡◌, refl, sym, ap, ◌∙◌}
use mathlib.Core.Bool.{Bool, true, false, not, ◌&&◌, ◌||◌}
use mathlib.Core.Logic.{◌⊎◌, inl, inr, ⊎_elim}
use mathlib.Core.List.{List}
use lib.ListN.{length, get_or}
use lib.Dec.{ltb, eqb}
use borrow.Author.Tests.{le-ltb, lt-ltb, ltb-true, eqb-true, ne_eqb}
use Rattle.edge.proofs.Tests.{both, either, or_right, lt_or_le}
use Rattle.rows.specs.Sizes.{max_rows}
use Rattle.rows.specs.Rows.{word0, word1, false_word, none, is_false_row, is_leaf, is_gate, is_row, leaf_at, gate_at, AllRows}
use Rattle.rows.proofs.Value.{leaf_no_gate}
use Rattle.graph.specs.Leaves.{member}
use Rattle.graph.specs.Graph.{Lent, Sized}
use Rattle.graph.specs.WellFormed.{UsedLeaf, listed, WellFormed}
use Rattle.graph.proofs.Listed.{stands, all_long, input_at, latch_at_lem}
use Rattle.graph.specs.Count.{count_below, gates_below}
use Rattle.graph.proofs.Counting.{count_either, count_members}
use Rattle.reencode.specs.Numbers.{first_gate, orphan_at, orphans}

-- ---- row 0 is no leaf and no gate
pub zero_no_gate : (rows : List ℕ) → gate_at rows 0 ≡ false
unfolding is_gate
zero_no_gate rows = rw (le-ltb (word0 rows 0) 0 (omega arith))

pub zero_no_leaf : (rows : List ℕ) → leaf_at rows 0 ≡ false
unfolding is_leaf
zero_no_leaf rows = refl

-- ---- of well-formed rows a leaf alone has the none word
pub none_leaf : (rows : List ℕ) (used i : ℕ) → used ≤ max_rows → AllRows rows used → i < used → word0 rows i ≡ none → leaf_at rows i ≡ true
unfolding is_row is_false_row is_gate
none_leaf rows used i few all l e =
    ⊎_elim
    (λ h. ⊎_elim
    (λ z. absurd
    (omega (
      arith,
      e,
      eqb-true (word0 rows i) false_word (both {a = eqb i 0} {b = eqb (word0 rows i) false_word} (both {a = eqb i 0 && eqb (word0 rows i) false_word} {b = eqb (word1 rows i) 0} z).0).1,
    )))
    (λ k. k) (either {a = is_false_row i (word0 rows i) (word1 rows i)} h))
    (λ k. absurd (omega (arith, e, ltb-true (word0 rows i) (2 * i) (both {a = ltb (word0 rows i) (2 * i)} {b = ltb (word1 rows i) (2 * i)} k).0)))
    (either {a = is_false_row i (word0 rows i) (word1 rows i) || is_leaf i (word0 rows i) (word1 rows i)} (all i l))

pub else_no_leaf : (rows : List ℕ) (i : ℕ) → (word0 rows i ≡ none → ⊥) → leaf_at rows i ≡ false
unfolding is_leaf
else_no_leaf rows i n = rw (ne_eqb (word0 rows i) none n) (go (ltb 0 i))
  where
    go : (t : Bool) → t && false && eqb (word1 rows i) 0 ≡ false
    go true = refl
    go false = refl

-- how many rows stand behind row 0
behind_zero : (n : ℕ) → 0 < n → 1 + count_below (λ (i : ℕ). ltb 0 i) n ≡ n
unfolding count_below
behind_zero zero l = absurd (omega arith)
behind_zero (suc zero) l = refl
behind_zero (suc (suc n)) l =
    let h : 1 + count_below (λ (i : ℕ). ltb 0 i) (suc n) ≡ suc n = behind_zero (suc n) (omega arith) in
    rw (lt-ltb 0 (suc n) (omega arith)) (omega arith)

module _ (g : Lent) (marks : ℕ) (s : Sized g marks) (w : WellFormed g) where
  abbrev used : ℕ
  used = g.counts.rows

  pub listed_long : length (listed g) ≡ g.counts.inputs + g.counts.latches
  listed_long = all_long g.inputs g.counts.inputs g.latches g.counts.latches s.inputs.within

  -- ---- each listed id is a used leaf
  pub listed_leaf : (j : ℕ) → j < length (listed g) → UsedLeaf g (get_or (listed g) j 0)
  listed_leaf j l = ⊎_elim in_inputs in_latches (lt_or_le j g.counts.inputs)
    where
      in_inputs : j < g.counts.inputs → UsedLeaf g (get_or (listed g) j 0)
      in_inputs h = rw (input_at g.inputs g.counts.inputs g.latches g.counts.latches s.inputs.within j h) (w.inputs j h)

      in_latches : g.counts.inputs ≤ j → UsedLeaf g (get_or (listed g) j 0)
      in_latches h =
          let q : j ≡ g.counts.inputs + (j - g.counts.inputs) = omega arith in
          let k : j - g.counts.inputs < g.counts.latches = omega (arith, listed_long) in
          rw (q, latch_at_lem g.inputs g.counts.inputs g.latches g.counts.latches s.inputs.within (j - g.counts.inputs) k) (w.latches (j - g.counts.inputs) k)

  pub member_leaf : (x : ℕ) → member x (listed g) ≡ true → UsedLeaf g x
  member_leaf x h = let t = stands x (listed g) h in rw (← t.same) (listed_leaf t.at t.within)

  -- ---- a leaf is listed or an orphan
  pub leaves_counted : count_below (leaf_at g.rows) used ≡ g.counts.inputs + g.counts.latches + orphans g
  leaves_counted =
      count_either (λ (x : ℕ). member x (listed g)) (orphan_at g) (leaf_at g.rows) used (λ x l. split (member x (listed g)) x refl) (λ x l. apart (leaf_at g.rows x) (member x (listed g)))
      ∙ ap (λ (k : ℕ). k + orphans g) (count_members used (listed g) (λ k l. (listed_leaf k l).0) w.once ∙ listed_long)
    where
      alone : (a : Bool) → a ≡ false || a && not false
      alone true = refl
      alone false = refl

      split : (t : Bool) (x : ℕ) → member x (listed g) ≡ t → leaf_at g.rows x ≡ t || leaf_at g.rows x && not t
      split true x h = (member_leaf x h).1
      split false x h = alone (leaf_at g.rows x)

      apart : (a b : Bool) → b && (a && not b) ≡ false
      apart true true = refl
      apart true false = refl
      apart false true = refl
      apart false false = refl

  -- ---- a row behind row 0 is a leaf or a gate
  pub leaf_or_gate : (i : ℕ) → i < used → 0 < i → (leaf_at g.rows i ≡ true) ⊎ (gate_at g.rows i ≡ true)
  unfolding is_row is_false_row
  leaf_or_gate i l p =
      ⊎_elim
      (λ h. ⊎_elim
      (λ z. absurd
      (omega
      (arith, eqb-true i 0 (both {a = eqb i 0} {b = eqb (word0 g.rows i) false_word} (both {a = eqb i 0 && eqb (word0 g.rows i) false_word} {b = eqb (word1 g.rows i) 0} z).0).0)))
      (λ k. inl k) (either {a = is_false_row i (word0 g.rows i) (word1 g.rows i)} h)) (λ k. inr k)
      (either {a = is_false_row i (word0 g.rows i) (word1 g.rows i) || is_leaf i (word0 g.rows i) (word1 g.rows i)} (w.rows i l))

  pub leaf_gate : (i : ℕ) → i < used → leaf_at g.rows i ≡ true → gate_at g.rows i ≡ false
  leaf_gate i l h = leaf_no_gate i (word0 g.rows i) (word1 g.rows i) (omega (arith, s.rows.fit.within, s.rows.fit.limited)) h

  rows_split : count_below (λ (i : ℕ). ltb 0 i) used ≡ count_below (leaf_at g.rows) used + gates_below g.rows used
  rows_split = count_either (leaf_at g.rows) (gate_at g.rows) (λ (i : ℕ). ltb 0 i) used (λ i l. kinds i l (lt_or_le 0 i)) (λ i l. apart i l (leaf_at g.rows i) refl)
    where
      kinds : (i : ℕ) → i < used → (0 < i) ⊎ (i ≤ 0) → ltb 0 i ≡ leaf_at g.rows i || gate_at g.rows i
      kinds i l (inl p) = lt-ltb 0 i p ∙ ⊎_elim (λ h. rw h) (λ h. sym (or_right (leaf_at g.rows i) h)) (leaf_or_gate i l p)
      kinds i l (inr z) = let e : i ≡ 0 = omega arith in rw (e, zero_no_leaf g.rows, zero_no_gate g.rows)

      apart : (i : ℕ) → i < used → (t : Bool) → leaf_at g.rows i ≡ t → t && gate_at g.rows i ≡ false
      apart i l true h = leaf_gate i l h
      apart i l false h = refl

  -- so the rows without orphans are as many as are written
  pub rows_counted : used ≡ first_gate g.counts + gates_below g.rows used + orphans g
  rows_counted = omega (arith, behind_zero used s.rows.some, rows_split, leaves_counted)
