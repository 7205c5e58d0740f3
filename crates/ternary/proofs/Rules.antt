-- The run obeys the rules, and nothing else does.
-- Assumes nothing.
use Prim.Native.Nat.{ℕ, zero, suc, ◌+◌, ◌≤◌, ◌<◌}
use native.Mathlib.Omega.{arith}
use mathlib.Core.Path.{◌≡◌, refl, sym, ap₂, ◌∙◌}
use mathlib.Core.Bool.{Bool, true, false, ◌&&◌, ◌||◌}
use mathlib.Core.Logic.{◌⊎◌, inl, inr, ⊎_elim}
use mathlib.Core.List.{List}
use lib.ListN.{length, get_or, replicate, length-replicate, get_or-replicate}
use lib.Seq.{ext_get_or, get_or-set_same}
use lib.Dec.{eqb, ltb}
use borrow.Author.Tests.{ltb-true, le-ltb, eqb-true, eqb-false}
use Rattle.edge.specs.Edges.{id_of}
use Rattle.edge.proofs.Tests.{both, either, lt_or_le}
use Rattle.rows.specs.Rows.{word0, word1, false_word, none, is_false_row, is_leaf, is_gate, is_row, leaf_at, gate_at}
use Rattle.rows.proofs.Laws.{gate_below}
use Rattle.rows.proofs.Value.{leaf_no_gate}
use Rattle.graph.specs.Graph.{Lent, Sized}
use Rattle.graph.specs.WellFormed.{WellFormed, listed}
use Rattle.graph.proofs.Listed.{all_long, input_at, latch_at_lem}
use Rattle.ternary_run.specs.Codes.{unknown, and3, edge3}
use Rattle.ternary_run.specs.Run.{blank, placed, input_row, latch_row, leaves, codes_of, run}
use Rattle.ternary.specs.Rules.{Listed, Rules, Obeys}
use Rattle.ternary.specs.Rules.Listed.{as_input, as_latch}
use Rattle.ternary_run.proofs.Coding.{edge_same, stored}
use Rattle.ternary_run.proofs.Running.{placed_long, placed_has, placed_there, blank_long, row_gate, row_other, rows_at}
use Rattle.ternary.proofs.Answering.{run_long}

-- ---- the run, row by row
module _ (g : Lent) (input state : List ℕ) where
  -- the codes of the leaves
  abbrev pub leaf_codes : List ℕ
  leaf_codes = leaves g.inputs g.latches g.counts input state

  pub run_gate : (i : ℕ) → i < g.counts.rows → gate_at g.rows i ≡ true
      → get_or (run g input state) i 0 ≡ and3 (edge3 (run g input state) (word0 g.rows i)) (edge3 (run g input state) (word1 g.rows i))
  unfolding codes_of
  run_gate i l h = rows_at g.rows leaf_codes g.counts.rows i l ∙ row_gate g.rows leaf_codes i (run g input state) h

  pub run_other : (i : ℕ) → i < g.counts.rows → gate_at g.rows i ≡ false → get_or (run g input state) i 0 ≡ get_or leaf_codes i 0
  unfolding codes_of
  run_other i l h = rows_at g.rows leaf_codes g.counts.rows i l ∙ row_other g.rows leaf_codes i (run g input state) h

-- ---- is a row listed?
-- does one of n entries name row x?
record Named (row : ℕ → ℕ) (n x : ℕ) : Type 0 where
  at : ℕ
  below : at < n
  same : row at ≡ x

named : (row : ℕ → ℕ) (n x : ℕ) → Named row n x ⊎ (Named row n x → ⊥)
named row zero x = inr (λ (m : Named row 0 x). omega (arith, m.below))
named row (suc n) x = go (eqb (row n) x) refl (named row n x)
  where
    go : (t : Bool) → eqb (row n) x ≡ t → Named row n x ⊎ (Named row n x → ⊥) → Named row (suc n) x ⊎ (Named row (suc n) x → ⊥)
    go true e r = inl (record { at = n; below = omega arith; same = eqb-true _ _ e })
    go false e (inl m) = inl (record { at = m.at; below = omega (arith, m.below); same = m.same })
    go false e (inr none) = inr (λ (m : Named row (suc n) x). earlier m (lt_or_le m.at n))
      where
        earlier : (m : Named row (suc n) x) → (m.at < n) ⊎ (n ≤ m.at) → ⊥
        earlier m (inl l) = none (record { at = m.at; below = l; same = m.same })
        earlier m (inr l) = let q : m.at ≡ n = omega (arith, m.below) in eqb-false _ _ e (rw q at m.same)

pub is_listed : (g : Lent) (x : ℕ) → Listed g x ⊎ (Listed g x → ⊥)
is_listed g x = go (named (input_row g.inputs) g.counts.inputs x) (named (latch_row g.latches) g.counts.latches x)
  where
    neither : (Named (input_row g.inputs) g.counts.inputs x → ⊥) → (Named (latch_row g.latches) g.counts.latches x → ⊥) → Listed g x → ⊥
    neither p q (as_input i l e) = p (record { at = i; below = l; same = e })
    neither p q (as_latch i l e) = q (record { at = i; below = l; same = e })

    go : Named (input_row g.inputs) g.counts.inputs x ⊎ (Named (input_row g.inputs) g.counts.inputs x → ⊥)
        → Named (latch_row g.latches) g.counts.latches x ⊎ (Named (latch_row g.latches) g.counts.latches x → ⊥) → Listed g x ⊎ (Listed g x → ⊥)
    go (inl m) r = inl (as_input m.at m.below m.same)
    go (inr p) (inl m) = inl (as_latch m.at m.below m.same)
    go (inr p) (inr q) = inr (neither p q)

-- two places are one, where neither comes before the other
one_place : (i j : ℕ) → (i < j → ⊥) → (j < i → ⊥) → i ≡ j
one_place i j p q = ⊎_elim (λ l. absurd (p l)) (λ (h : j ≤ i). ⊎_elim (λ l. absurd (q l)) (λ (k : i ≤ j). omega arith) (lt_or_le j i)) (lt_or_le i j)

-- ---- a graph that is well-formed
module _ (g : Lent) (m : ℕ) (size : Sized g m) (w : WellFormed g) where
  -- row i is row 0, a leaf or a gate
  pub row_kind : (P : Type 0) (i : ℕ) → i < g.counts.rows → (i ≡ 0 → P) → (leaf_at g.rows i ≡ true → P) → (gate_at g.rows i ≡ true → P) → P
  unfolding is_row is_false_row
  row_kind P i l zero_row leaf_row gate_row =
      ⊎_elim (λ h. ⊎_elim zeroth leaf_row (either {a = is_false_row i (word0 g.rows i) (word1 g.rows i)} h)) gate_row
      (either {a = is_false_row i (word0 g.rows i) (word1 g.rows i) || is_leaf i (word0 g.rows i) (word1 g.rows i)} (w.rows i l))
    where
      zeroth : is_false_row i (word0 g.rows i) (word1 g.rows i) ≡ true → P
      zeroth h = zero_row (eqb-true i 0 (both {a = eqb i 0} {b = eqb (word0 g.rows i) false_word} (both {a = eqb i 0 && eqb (word0 g.rows i) false_word} {b = eqb (word1 g.rows i) 0} h).0).0)

  pub no_gate : (i : ℕ) → i < g.counts.rows → leaf_at g.rows i ≡ true → gate_at g.rows i ≡ false
  no_gate i l h = leaf_no_gate i (word0 g.rows i) (word1 g.rows i) (omega (arith, size.rows.fit.within, size.rows.fit.limited)) h

  pub zero_no_gate : gate_at g.rows 0 ≡ false
  unfolding is_gate
  zero_no_gate = rw (le-ltb (word0 g.rows 0) 0 (omega arith))

  -- a listed row is not row 0
  pub listed_later : (x : ℕ) → leaf_at g.rows x ≡ true → 0 < x
  unfolding is_leaf
  listed_later x h = ltb-true 0 x (both {a = ltb 0 x} (both {a = ltb 0 x && eqb (word0 g.rows x) none} h).0).0

  -- "no leaf is listed twice over inputs and latches together"
  abbrev inputs_lent : g.counts.inputs ≤ length g.inputs
  inputs_lent = size.inputs.within

  both_long : length (listed g) ≡ g.counts.inputs + g.counts.latches
  both_long = all_long g.inputs g.counts.inputs g.latches g.counts.latches inputs_lent

  at_input : (i : ℕ) → i < g.counts.inputs → get_or (listed g) i 0 ≡ input_row g.inputs i
  at_input = input_at g.inputs g.counts.inputs g.latches g.counts.latches inputs_lent

  at_latch : (i : ℕ) → i < g.counts.latches → get_or (listed g) (g.counts.inputs + i) 0 ≡ latch_row g.latches i
  at_latch = latch_at_lem g.inputs g.counts.inputs g.latches g.counts.latches inputs_lent

  twice_input : (i j : ℕ) → i < j → j < g.counts.inputs → input_row g.inputs i ≡ input_row g.inputs j → ⊥
  twice_input i j l h e = w.once i j l (rw both_long (omega arith)) (at_input i (omega arith) ∙ (e ∙ sym (at_input j h)))

  twice_latch : (i j : ℕ) → i < j → j < g.counts.latches → latch_row g.latches i ≡ latch_row g.latches j → ⊥
  twice_latch i j l h e =
      w.once (g.counts.inputs + i) (g.counts.inputs + j) (omega arith) (rw both_long (omega arith)) (at_latch i (omega arith) ∙ (e ∙ sym (at_latch j h)))

  twice_both : (i j : ℕ) → i < g.counts.inputs → j < g.counts.latches → input_row g.inputs i ≡ latch_row g.latches j → ⊥
  twice_both i j l h e = w.once i (g.counts.inputs + j) (omega arith) (rw both_long (omega arith)) (at_input i l ∙ (e ∙ sym (at_latch j h)))

  once_input : (i j : ℕ) → i < g.counts.inputs → j < g.counts.inputs → input_row g.inputs i ≡ input_row g.inputs j → i ≡ j
  once_input i j l h e = one_place i j (λ k. twice_input i j k h e) (λ k. twice_input j i k l (sym e))

  once_latch : (i j : ℕ) → i < g.counts.latches → j < g.counts.latches → latch_row g.latches i ≡ latch_row g.latches j → i ≡ j
  once_latch i j l h e = one_place i j (λ k. twice_latch i j k h e) (λ k. twice_latch j i k l (sym e))

  module _ (input state : List ℕ) where
    abbrev inputs_placed : List ℕ
    inputs_placed = placed (input_row g.inputs) input g.counts.inputs (blank g.counts.rows)

    inputs_long : length inputs_placed ≡ g.counts.rows
    inputs_long = placed_long (input_row g.inputs) input g.counts.inputs (blank g.counts.rows) ∙ blank_long g.counts.rows

    -- what the blank rows have, and each code placed at x, stands there
    pub leaf_has : (P : ℕ → Type 0) (x : ℕ) → ((i : ℕ) → i < g.counts.inputs → input_row g.inputs i ≡ x → P (get_or input i 0))
        → ((i : ℕ) → i < g.counts.latches → latch_row g.latches i ≡ x → P (get_or state i 0)) → P (get_or (blank g.counts.rows) x 0) → P (get_or (leaf_codes g input state) x 0)
    leaf_has P x i s b =
        placed_has (latch_row g.latches) state P x g.counts.latches inputs_placed s (placed_has (input_row g.inputs) input P x g.counts.inputs (blank g.counts.rows) i b)

    -- and of a listed row, what the codes placed there have
    pub leaf_listed : (P : ℕ → Type 0) (x : ℕ) → x < g.counts.rows → Listed g x → ((i : ℕ) → i < g.counts.inputs → input_row g.inputs i ≡ x → P (get_or input i 0))
        → ((i : ℕ) → i < g.counts.latches → latch_row g.latches i ≡ x → P (get_or state i 0)) → P (get_or (leaf_codes g input state) x 0)
    leaf_listed P x l (as_input j h e) i s =
        placed_has (latch_row g.latches) state P x g.counts.latches inputs_placed s
        (placed_there (input_row g.inputs) input P x g.counts.inputs (blank g.counts.rows) (rw (blank_long g.counts.rows) l) j h e i)
    leaf_listed P x l (as_latch j h e) i s = placed_there (latch_row g.latches) state P x g.counts.latches inputs_placed (rw inputs_long l) j h e s

    pub blank_later : (x : ℕ) → x < g.counts.rows → 0 < x → get_or (blank g.counts.rows) x 0 ≡ unknown
    blank_later x l h =
        stored (λ (n : ℕ). n ≡ unknown) (replicate g.counts.rows unknown) 0 0 x (λ (e : 0 ≡ x). absurd (omega arith)) (get_or-replicate {A = ℕ} g.counts.rows x unknown 0 l)

    pub blank_zero : get_or (blank g.counts.rows) 0 0 ≡ 0
    blank_zero = get_or-set_same (replicate g.counts.rows unknown) 0 0 0 (rw (length-replicate {A = ℕ} g.counts.rows unknown) size.rows.some)

    pub leaf_zero : get_or (leaf_codes g input state) 0 0 ≡ 0
    leaf_zero =
        leaf_has (λ (n : ℕ). n ≡ 0) 0 (λ i l e. absurd (never (input_row g.inputs i) (w.inputs i l).1 e)) (λ i l e. absurd (never (latch_row g.latches i) (w.latches i l).1 e)) blank_zero
      where
        never : (x : ℕ) → leaf_at g.rows x ≡ true → x ≡ 0 → ⊥
        never x h e = omega (arith, listed_later x h)

    at_leaf : (x : ℕ) → x < g.counts.rows → leaf_at g.rows x ≡ true → get_or (run g input state) x 0 ≡ get_or (leaf_codes g input state) x 0
    at_leaf x l h = run_other g input state x l (no_gate x l h)

    rules : Rules g input state (run g input state)
    rules =
        record {
          long = run_long g input state;
          constant = run_other g input state 0 size.rows.some zero_no_gate ∙ leaf_zero;
          inputs = input_rule;
          latches = latch_rule;
          orphans = orphan_rule;
          gates = run_gate g input state;
        }
      where
        input_rule : (i : ℕ) → i < g.counts.inputs → get_or (run g input state) (input_row g.inputs i) 0 ≡ get_or input i 0
        input_rule i l =
            let u = w.inputs i l in
            at_leaf (input_row g.inputs i) u.0 u.1 ∙ leaf_listed (λ (n : ℕ). n ≡ get_or input i 0) (input_row g.inputs i) u.0 (as_input i l refl)
            (λ j h e. let q = once_input j i h l e in rw q) (λ j h e. absurd (twice_both i j l h (sym e)))

        latch_rule : (i : ℕ) → i < g.counts.latches → get_or (run g input state) (latch_row g.latches i) 0 ≡ get_or state i 0
        latch_rule i l =
            let u = w.latches i l in
            at_leaf (latch_row g.latches i) u.0 u.1
            ∙ leaf_listed (λ (n : ℕ). n ≡ get_or state i 0) (latch_row g.latches i) u.0 (as_latch i l refl) (λ j h e. absurd (twice_both j i h l e)) (λ j h e. let q = once_latch j i h l e in rw q)

        orphan_rule : (x : ℕ) → x < g.counts.rows → leaf_at g.rows x ≡ true → (Listed g x → ⊥) → get_or (run g input state) x 0 ≡ unknown
        orphan_rule x l h none =
            at_leaf x l h
            ∙ leaf_has (λ (n : ℕ). n ≡ unknown) x (λ j k e. absurd (none (as_input j k e))) (λ j k e. absurd (none (as_latch j k e))) (blank_later x l (listed_later x h))

    module _ (codes : List ℕ) (r : Rules g input state codes) where
      -- a leaf
      only_leaf : (x : ℕ) → x < g.counts.rows → leaf_at g.rows x ≡ true → Listed g x ⊎ (Listed g x → ⊥) → get_or codes x 0 ≡ get_or (run g input state) x 0
      only_leaf x l h (inl (as_input i k e)) = rw (← e) (r.inputs i k ∙ sym (rules.inputs i k))
      only_leaf x l h (inl (as_latch i k e)) = rw (← e) (r.latches i k ∙ sym (rules.latches i k))
      only_leaf x l h (inr none) = r.orphans x l h none ∙ sym (rules.orphans x l h none)

      only_below : (n i : ℕ) → i < n → i < g.counts.rows → get_or codes i 0 ≡ get_or (run g input state) i 0
      only_below zero i k l = absurd (omega arith)
      only_below (suc n) i k l =
          row_kind (get_or codes i 0 ≡ get_or (run g input state) i 0) i l (λ (e : i ≡ 0). rw e (r.constant ∙ sym rules.constant)) (λ h. only_leaf i l h (is_listed g i)) (λ h. gate h (only_below n))
        where
          gate : gate_at g.rows i ≡ true → ((j : ℕ) → j < n → j < g.counts.rows → get_or codes j 0 ≡ get_or (run g input state) j 0) → get_or codes i 0 ≡ get_or (run g input state) i 0
          gate h below =
              let t = gate_below i (word0 g.rows i) (word1 g.rows i) h in
              let a = edge_same codes (run g input state) (word0 g.rows i) (below (id_of (word0 g.rows i)) (omega (arith, t.0)) (omega (arith, t.0))) in
              let b = edge_same codes (run g input state) (word1 g.rows i) (below (id_of (word1 g.rows i)) (omega (arith, t.1)) (omega (arith, t.1))) in
              r.gates i l h ∙ (ap₂ and3 a b ∙ sym (rules.gates i l h))

    pub obeys : Obeys g input state
    obeys =
        record {
          obeys = rules;
          only = λ codes r. ext_get_or 0 codes (run g input state) (r.long ∙ sym rules.long) (λ i l. only_below codes r (suc i) i (omega arith) (rw r.long at l));
        }
