-- Laws of the gates' numbers, and of the marks that come to hold them while the gates are rebuilt.
-- Assumes nothing.
use Prim.Native.Nat.{ℕ, zero, suc, ◌+◌, ◌≤◌, ◌<◌}
use native.Mathlib.Omega.{arith}
use native.Mathlib.Nat.{eq-or-lt_of_le}
use native.Mathlib.Numerals.{add-one}
use mathlib.Core.Path.{◌≡◌, refl, sym, ap, ◌∙◌}
use mathlib.Core.Bool.{Bool, true, false, cond}
use mathlib.Core.Logic.{inr, ⊎_elim}
use mathlib.Core.List.{List}
use lib.ListN.{length, get_or, set, drop}
use lib.Seq.{drop-set-lt, get_or-set_same, get_or-set_other}
use Rattle.edge.specs.Edges.{id_of}
use Rattle.rows.specs.Sizes.{max_rows}
use Rattle.rows.specs.Rows.{word0, word1, gate_at}
use Rattle.rows.proofs.Laws.{gate_below}
use Rattle.gates.specs.Gates.{add_gate}
use Rattle.renumber.specs.Renumber.{renamed, by}
use Rattle.renumber.specs.Steps.{MarksHold, Small}
use Rattle.graph.proofs.Counting.{count_more, count_rises}
use Rattle.renumber.proofs.Mapping.{renamed_by_lem, known}
use Rattle.graph.specs.Count.{gates_below}
use Rattle.reencode.specs.Numbers.{numbered}
use Rattle.reencode.specs.Rebuilding.{gate_added, gates_added}
use Rattle.reencode.specs.Steps.{GateReady, GatesReady}

-- ---- one number
module _ (rows : List ℕ) (first : ℕ) (f : ℕ → ℕ) (x : ℕ) where
  pub gate_number : gate_at rows x ≡ true → numbered rows first f x ≡ first + gates_below rows x
  unfolding numbered
  gate_number g = rw g

  pub other_number : gate_at rows x ≡ false → numbered rows first f x ≡ f x
  unfolding numbered
  other_number g = rw g

pub numbered_same : (rows : List ℕ) (first : ℕ) (f h : ℕ → ℕ) (x : ℕ) → f x ≡ h x → numbered rows first f x ≡ numbered rows first h x
unfolding numbered
numbered_same rows first f h x e = rw e

pub numbered_small : (rows : List ℕ) (used first : ℕ) (f : ℕ → ℕ) → first + gates_below rows used ≤ max_rows → Small used f → Small used (numbered rows first f)
unfolding numbered
numbered_small rows used first f few small x l = go (gate_at rows x)
  where
    go : (t : Bool) → cond t (first + gates_below rows x) (f x) ≤ max_rows
    go true = omega (arith, count_rises (gate_at rows) used x (omega arith))
    go false = small x l

-- ---- a gate by maps that agree on the rows below it
gate_same : (m : ℕ → ℕ) (map : List ℕ) (rows : List ℕ) (i k : ℕ) (out : List ℕ) → MarksHold i m map → gate_added (by map) rows i k out ≡ gate_added m rows i k out
unfolding gate_added
gate_same m map rows i k out h = go (gate_at rows i) refl
  where
    go : (t : Bool) → gate_at rows i ≡ t
        → cond t (add_gate out k (renamed (by map) (word0 rows i)) (renamed (by map) (word1 rows i))).rows out ≡ cond t (add_gate out k (renamed m (word0 rows i)) (renamed m (word1 rows i))).rows out
    go true e =
        let b = gate_below i (word0 rows i) (word1 rows i) e in
        rw (renamed_by_lem i m map h (word0 rows i) (inr b.0), renamed_by_lem i m map h (word1 rows i) (inr b.1))
    go false e = refl

-- ---- halfway: the rows below i have their numbers, and the marks of the others are as they were
pub record Halfway (m : ℕ → ℕ) (old : List ℕ) (i : ℕ) (marks : List ℕ) : Type 0 where
  pub below : MarksHold i m marks
  pub above : (x : ℕ) → i ≤ x → get_or marks x 0 ≡ get_or old x 0

pub half_start : (m : ℕ → ℕ) (marks : List ℕ) → Halfway m marks 0 marks
half_start m marks = record { below = λ x l. absurd (omega arith); above = λ x l. refl }

module _ (rows : List ℕ) (first : ℕ) (old : List ℕ) (i : ℕ) {k : ℕ} {marks : List ℕ} (e : k ≡ first + gates_below rows i) (h : Halfway (numbered rows first (by old)) old i marks) where
  abbrev m : ℕ → ℕ
  m = numbered rows first (by old)

  -- the number of the gate after row i
  pub next_number : {r : ℕ} → r ≡ cond (gate_at rows i) (k + 1) k → r ≡ first + gates_below rows (i + 1)
  next_number w = w ∙ (go (gate_at rows i) ∙ ap (λ (n : ℕ). first + n) (sym (count_more (gate_at rows) i)))
    where
      go : (t : Bool) → cond t (k + 1) k ≡ first + cond t (gates_below rows i + 1) (gates_below rows i)
      go true = omega arith
      go false = e

  pub half_turn : i < length marks → {after : List ℕ} → after ≡ cond (gate_at rows i) (set marks i k) marks → Halfway m old (i + 1) after
  half_turn l w =
      record {
        below = λ x b. rw w
            (⊎_elim (λ q. same (gate_at rows i) refl x q) (λ u. other (gate_at rows i) x (λ q. absurd (omega arith)) ∙ h.below x (omega arith)) (eq-or-lt_of_le {n = suc x} {m = i + 1} (omega arith)));
        above = λ x b. rw w (other (gate_at rows i) x (λ q. absurd (omega arith)) ∙ h.above x (omega arith));
      }
    where
      other : (t : Bool) (x : ℕ) → (x ≡ i → ⊥) → get_or (cond t (set marks i k) marks) x 0 ≡ get_or marks x 0
      other true x n = get_or-set_other marks i x k 0 n
      other false x n = refl

      here : (t : Bool) → gate_at rows i ≡ t → get_or (cond t (set marks i k) marks) i 0 ≡ m i
      here true g = get_or-set_same marks i k 0 l ∙ (e ∙ sym (gate_number rows first (by old) i g))
      here false g = h.above i (omega arith) ∙ sym (other_number rows first (by old) i g)

      same : (t : Bool) → gate_at rows i ≡ t → (x : ℕ) → suc x ≡ i + 1 → get_or (cond t (set marks i k) marks) x 0 ≡ m x
      same t g x q = let p : x ≡ i = omega arith in rw p (here t g)

  pub half_beyond : (used : ℕ) → i < used → {after start : List ℕ} → after ≡ cond (gate_at rows i) (set marks i k) marks → drop used marks ≡ start → drop used after ≡ start
  half_beyond used u w s = rw w (go (gate_at rows i) ∙ s)
    where
      go : (t : Bool) → drop used (cond t (set marks i k) marks) ≡ drop used marks
      go true = drop-set-lt used marks i k u
      go false = refl

  pub gates_turn : (out : List ℕ) {now after : List ℕ} → now ≡ gates_added m rows first out i → after ≡ gate_added (by marks) rows i k now → after ≡ gates_added m rows first out (i + 1)
  unfolding gates_added
  gates_turn out {now} q w =
      let s : i + 1 ≡ suc i = add-one i in
      w ∙
      (gate_same m marks rows i k now h.below ∙
      (ap (λ (n : ℕ). gate_added m rows i n now) e ∙ (ap (gate_added m rows i (first + gates_below rows i)) q ∙ ap (λ (j : ℕ). gates_added m rows first out j) (sym s))))

  pub gate_ready : (used : ℕ) → GatesReady rows used first old → i < used → length marks ≡ length old → GateReady rows i k marks
  gate_ready used r l s =
      record {
        row = omega (arith, r.rows_long);
        mark = omega (arith, r.marks_long);
        few = omega (arith, r.few, count_rises (gate_at rows) used i (omega arith));
        small = omega (arith, r.used_few);
        known = known i m marks h.below (λ x b. r.small x (omega arith)) (omega (arith, r.marks_long));
      }

-- ---- all gates by maps that agree
pub renamed_same : (m n : ℕ → ℕ) (e : ℕ) → m (id_of e) ≡ n (id_of e) → renamed m e ≡ renamed n e
unfolding renamed
renamed_same m n e h = rw h

pub gates_same : (m n : ℕ → ℕ) (rows : List ℕ) (first : ℕ) (out : List ℕ) (i : ℕ) → ((x : ℕ) → x < i → m x ≡ n x) → gates_added m rows first out i ≡ gates_added n rows first out i
unfolding gates_added gate_added
gates_same m n rows first out zero h = refl
gates_same m n rows first out (suc i) h = rw (gates_same m n rows first out i (λ x l. h x (omega arith))) (go (gate_at rows i) refl)
  where
    rest : List ℕ
    rest = gates_added n rows first out i

    go :
        (t : Bool) → gate_at rows i ≡ t → cond t (add_gate rest (first + gates_below rows i) (renamed m (word0 rows i)) (renamed m (word1 rows i))).rows rest ≡ cond t
        (add_gate rest (first + gates_below rows i) (renamed n (word0 rows i)) (renamed n (word1 rows i))).rows rest
    go true e =
        let b = gate_below i (word0 rows i) (word1 rows i) e in
        rw (renamed_same m n (word0 rows i) (h (id_of (word0 rows i)) (omega (arith, b.0))), renamed_same m n (word1 rows i) (h (id_of (word1 rows i)) (omega (arith, b.1))))
    go false e = refl
