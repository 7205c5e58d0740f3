-- Laws of the run: what is placed, what the rows give, what the latches take.
-- Assumes nothing.
use Prim.Native.Nat.{ℕ, zero, suc, ◌+◌, ◌≤◌, ◌<◌}
use native.Mathlib.Omega.{arith}
use native.Mathlib.Numerals.{add-one}
use native.Mathlib.Nat.{eq-or-lt_of_le, le_of_suc-le-suc}
use mathlib.Core.Path.{◌≡◌, refl, sym, ap, ap₂, ◌∙◌}
use mathlib.Core.Bool.{Bool, true, false, cond}
use mathlib.Core.Logic.{⊎_elim}
use mathlib.Core.List.{List, [], ◌∷◌, ◌++◌, append_assoc}
use lib.ListN.{length, get_or, set, take, drop, replicate, drop_of_length-le, length-set, length-replicate, length-append, get_or-replicate, get_or-append}
use lib.Seq.{length-take-le, get_or-take, drop-cons, set_at, get_or_at, drop_at, set-append_left, get_or-set_same, get_or-set_other}
use lib.Dec.{eqb}
use borrow.Author.Tests.{eqb-true, eqb-false}
use Rattle.edge.specs.Edges.{id_of}
use Rattle.edge.proofs.Tests.{lt_or_le}
use Rattle.rows.specs.Rows.{word0, word1, gate_at}
use Rattle.rows.proofs.Laws.{gate_below}
use Rattle.graph.specs.declared.Counts.{Counts}
use Rattle.graph.specs.Latches.{latch_at}
use Rattle.graph.specs.Graph.{Lent}
use Rattle.ternary_run.specs.Codes.{unknown, and3, edge3, Codes}
use Rattle.ternary_run.specs.Run.{blank, placed, input_row, latch_row, next_row, leaves, row3, rows3, codes_of, run, nexts}
use Rattle.ternary_run.specs.Steps.{Within, RunReady}
use Rattle.ternary_run.proofs.Coding.{and_code, edge_same, stored}

-- ---- the next of a list
-- x is entry k of a list, and `rest` is what stands behind it
pub record Next (xs : List ℕ) (k x : ℕ) (rest : List ℕ) : Type 0 where
  pub within : k < length xs
  pub is : x ≡ get_or xs k 0
  pub left : rest ≡ drop (k + 1) xs

pub next_of : (xs : List ℕ) (k x : ℕ) (rest : List ℕ) → drop k xs ≡ x ∷ rest → Next xs k x rest
next_of xs k x rest e =
    ⊎_elim
    (λ (l : k < length xs).
    let q : get_or xs k 0 ∷ drop (suc k) xs ≡ x ∷ rest = sym (drop-cons xs k 0 l) ∙ e in
    record { within = l; is = sym (ap (λ (ys : List ℕ). get_or ys 0 0) q); left = rw add-one (sym (ap (λ (ys : List ℕ). drop 1 ys) q)) })
    (λ (l : length xs ≤ k). let z : 0 ≡ suc (length rest) = ap length (sym (drop_of_length-le xs l) ∙ e) in absurd (omega arith))
    (lt_or_le k (length xs))

-- ---- what is placed
module _ (row : ℕ → ℕ) (codes : List ℕ) where
  pub placed_long : (n : ℕ) (into : List ℕ) → length (placed row codes n into) ≡ length into
  unfolding placed
  placed_long zero into = refl
  placed_long (suc n) into = simp (length-set, placed_long n into)

  pub placed_more : (n : ℕ) (into : List ℕ) → set (placed row codes n into) (row n) (get_or codes n 0) ≡ placed row codes (n + 1) into
  unfolding placed
  placed_more n into = rw add-one

  -- n items are taken, and one more
  pub placed_next : {I : Type 0} (items : List I) (item : I) (into : List ℕ) {before : List ℕ} (x code : ℕ)
      → before ≡ placed row codes (length items) into → x ≡ row (length items) → code ≡ get_or codes (length items) 0
      → set before x code ≡ placed row codes (length (items ++ (item ∷ []))) into
  placed_next items item into x code e p q =
      let n : length (items ++ (item ∷ [])) ≡ length items + 1 = length-append items (item ∷ []) in
      rw (e, p, q, n) (placed_more (length items) into)

  -- what stands behind stays
  pub placed_append : (n : ℕ) (into rest : List ℕ) → Within row n (length into) → placed row codes n (into ++ rest) ≡ placed row codes n into ++ rest
  unfolding placed
  placed_append zero into rest h = refl
  placed_append (suc n) into rest h =
      let l : row n < length (placed row codes n into) = rw (placed_long n into) (h n (omega arith)) in
      rw (placed_append n into rest (λ i k. h i (omega arith))) (set-append_left (placed row codes n into) rest (row n) (get_or codes n 0) l)

  module _ (P : ℕ → Type 0) (j : ℕ) where
    -- what stood at j has P, and so has each code that is placed there
    pub placed_has : (n : ℕ) (into : List ℕ) → ((i : ℕ) → i < n → row i ≡ j → P (get_or codes i 0)) → P (get_or into j 0) → P (get_or (placed row codes n into) j 0)
    unfolding placed
    placed_has zero into h k = k
    placed_has (suc n) into h k = stored P (placed row codes n into) (row n) (get_or codes n 0) j (h n (omega arith)) (placed_has n into (λ i l. h i (omega arith)) k)

    -- a code is placed at j, and each that is has P
    pub placed_there : (n : ℕ) (into : List ℕ) → j < length into → (i : ℕ) → i < n → row i ≡ j → ((i : ℕ) → i < n → row i ≡ j → P (get_or codes i 0)) → P (get_or (placed row codes n into) j 0)
    unfolding placed
    placed_there zero into h i l e all = absurd (omega arith)
    placed_there (suc n) into h i l e all = go (eqb j (row n)) refl (λ (m : i < n). placed_there n into h i m e (λ k o. all k (omega arith)))
      where
        go : (t : Bool) → eqb j (row n) ≡ t → (i < n → P (get_or (placed row codes n into) j 0)) → P (get_or (set (placed row codes n into) (row n) (get_or codes n 0)) j 0)
        go true q earlier =
            let same = eqb-true j (row n) q in
            let m : row n < length (placed row codes n into) = rw (placed_long n into, ← same) h in
            rw (same, get_or-set_same (placed row codes n into) (row n) (get_or codes n 0) 0 m) (all n (omega arith) (sym same))
        go false q earlier =
            let other = eqb-false j (row n) q in
            rw (get_or-set_other (placed row codes n into) (row n) j (get_or codes n 0) 0 other)
            (⊎_elim (λ (s : i ≡ n). absurd (other (sym e ∙ ap row s))) (λ (m : i < n). earlier m) (eq-or-lt_of_le (le_of_suc-le-suc l)))

-- other names for the same rows
placed_same : (row other : ℕ → ℕ) (codes : List ℕ) (n : ℕ) (into : List ℕ) → ((i : ℕ) → i < n → row i ≡ other i) → placed row codes n into ≡ placed other codes n into
unfolding placed
placed_same row other codes zero into h = refl
placed_same row other codes (suc n) into h = rw (placed_same row other codes n into (λ i l. h i (omega arith)), h n (omega arith)) refl

-- the first n inputs
module _ (inputs : List ℕ) (n : ℕ) (l : n ≤ length inputs) where
  pub inputs_within : {rows : ℕ} → Within (input_row inputs) n rows → Within (input_row (take n inputs)) (length (take n inputs)) rows
  inputs_within h i k =
      let m : i < n = omega (arith, length-take-le n inputs l) in
      rw (get_or-take n inputs i 0 m) (h i m)

  pub inputs_placed : (codes into : List ℕ) → placed (input_row (take n inputs)) codes (length (take n inputs)) into ≡ placed (input_row inputs) codes n into
  inputs_placed codes into =
      rw (length-take-le n inputs l) (placed_same (input_row (take n inputs)) (input_row inputs) codes n into (λ i k. get_or-take n inputs i 0 k))

pub blank_long : (used : ℕ) → length (blank used) ≡ used
blank_long used = simp (length-set, length-replicate {A = ℕ} used unknown)

blank_codes : (used : ℕ) → Codes used (blank used)
blank_codes used i l = stored (λ (n : ℕ). n < 3) (replicate used unknown) 0 0 i (λ (_ : 0 ≡ i). omega arith) (rw (get_or-replicate {A = ℕ} used i unknown 0 l) (omega arith))

module _ (inputs latches : List ℕ) (counts : Counts) (input state : List ℕ) where
  pub leaves_long : length (leaves inputs latches counts input state) ≡ counts.rows
  leaves_long =
      placed_long (latch_row latches) state counts.latches (placed (input_row inputs) input counts.inputs (blank counts.rows))
      ∙ (placed_long (input_row inputs) input counts.inputs (blank counts.rows) ∙ blank_long counts.rows)

  pub leaves_codes : Codes counts.inputs input → Codes counts.latches state → Codes counts.rows (leaves inputs latches counts input state)
  leaves_codes h k i l =
      placed_has (latch_row latches) state (λ (n : ℕ). n < 3) i counts.latches (placed (input_row inputs) input counts.inputs (blank counts.rows)) (λ j m _. k j m)
      (placed_has (input_row inputs) input (λ (n : ℕ). n < 3) i counts.inputs (blank counts.rows) (λ j m _. h j m) (blank_codes counts.rows i l))

-- ---- a row
-- it hangs on the rows below it, and on its leaf
row_same : (rows leaf leaf' : List ℕ) (i : ℕ) (below below' : List ℕ) → get_or leaf i 0 ≡ get_or leaf' i 0 → ((j : ℕ) → j < i → get_or below j 0 ≡ get_or below' j 0)
    → row3 rows leaf i below ≡ row3 rows leaf' i below'
unfolding row3
row_same rows leaf leaf' i below below' q p = go (gate_at rows i) refl
  where
    go : (t : Bool) → gate_at rows i ≡ t
        → cond t (and3 (edge3 below (word0 rows i)) (edge3 below (word1 rows i))) (get_or leaf i 0) ≡ cond t (and3 (edge3 below' (word0 rows i)) (edge3 below' (word1 rows i))) (get_or leaf' i 0)
    go true g =
        let h = gate_below i (word0 rows i) (word1 rows i) g in
        ap₂ and3 (edge_same below below' (word0 rows i) (p _ h.0)) (edge_same below below' (word1 rows i) (p _ h.1))
    go false g = q

row_code : (rows leaf : List ℕ) (i : ℕ) (below : List ℕ) → get_or leaf i 0 < 3 → row3 rows leaf i below < 3
unfolding row3
row_code rows leaf i below h = go (gate_at rows i)
  where
    go : (t : Bool) → cond t (and3 (edge3 below (word0 rows i)) (edge3 below (word1 rows i))) (get_or leaf i 0) < 3
    go true = and_code (edge3 below (word0 rows i)) (edge3 below (word1 rows i))
    go false = h

module _ (rows leaf : List ℕ) (i : ℕ) (below : List ℕ) where
  pub row_gate : gate_at rows i ≡ true → row3 rows leaf i below ≡ and3 (edge3 below (word0 rows i)) (edge3 below (word1 rows i))
  unfolding row3
  row_gate g = rw g

  pub row_other : gate_at rows i ≡ false → row3 rows leaf i below ≡ get_or leaf i 0
  unfolding row3
  row_other g = rw g

-- ---- the rows, one after the other
module _ (rows leaf : List ℕ) where
  pub rows_long : (n : ℕ) → length (rows3 rows leaf n) ≡ n
  unfolding rows3
  rows_long zero = refl
  rows_long (suc n) = simp (length-append, rows_long n) (omega arith)

  rows_last : (n : ℕ) → get_or (rows3 rows leaf (suc n)) n 0 ≡ row3 rows leaf n (rows3 rows leaf n)
  unfolding rows3
  rows_last n = get_or_at (rows3 rows leaf n) _ [] 0 n (rows_long n)

  rows_early : (n i : ℕ) → i < n → get_or (rows3 rows leaf (suc n)) i 0 ≡ get_or (rows3 rows leaf n) i 0
  unfolding rows3
  rows_early n i l = get_or-append (rows3 rows leaf n) _ 0 i (rw (rows_long n) l)

  -- row i of n, by all of them
  pub rows_at : (n i : ℕ) → i < n → get_or (rows3 rows leaf n) i 0 ≡ row3 rows leaf i (rows3 rows leaf n)
  rows_at zero i l = absurd (omega arith)
  rows_at (suc n) i l = ⊎_elim last (λ (h : i < n). early h (rows_at n i h)) (eq-or-lt_of_le (le_of_suc-le-suc l))
    where
      same : (i' : ℕ) → i' ≤ n → row3 rows leaf i' (rows3 rows leaf n) ≡ row3 rows leaf i' (rows3 rows leaf (suc n))
      same i' h = row_same rows leaf leaf i' (rows3 rows leaf n) (rows3 rows leaf (suc n)) refl (λ j k. sym (rows_early n j (omega arith)))

      last : i ≡ n → get_or (rows3 rows leaf (suc n)) i 0 ≡ row3 rows leaf i (rows3 rows leaf (suc n))
      last e = rw e (rows_last n ∙ same n (omega arith))

      early : i < n → get_or (rows3 rows leaf n) i 0 ≡ row3 rows leaf i (rows3 rows leaf n) → get_or (rows3 rows leaf (suc n)) i 0 ≡ row3 rows leaf i (rows3 rows leaf (suc n))
      early h e = rows_early n i h ∙ (e ∙ same i (omega arith))

  pub rows_codes : (n : ℕ) → Codes n leaf → Codes n (rows3 rows leaf n)
  rows_codes n k i l = rw (rows_at n i l) (row_code rows leaf i (rows3 rows leaf n) (k i l))

  -- a turn of the loop: in a buffer that held d the first n rows are written
  module _ (n : ℕ) (d : List ℕ) (l : n < length d) where
    front : (j : ℕ) → j < n → get_or (rows3 rows leaf n ++ drop n d) j 0 ≡ get_or (rows3 rows leaf n) j 0
    front j h = get_or-append (rows3 rows leaf n) _ 0 j (rw (rows_long n) h)

    module _ (values : List ℕ) (p : values ≡ rows3 rows leaf n ++ drop n d) where
      pub turn_codes : Codes n leaf → Codes n values
      turn_codes k j h = rw (p, front j h) (rows_codes n k j h)

      turn_leaf : get_or values n 0 ≡ get_or d n 0
      turn_leaf = rw (p, drop-cons d n 0 l) (get_or_at (rows3 rows leaf n) (get_or d n 0) (drop (suc n) d) 0 n (rows_long n))

      put : (v : ℕ) → v ≡ row3 rows leaf n (rows3 rows leaf n) → set (rows3 rows leaf n ++ drop n d) n v ≡ rows3 rows leaf (n + 1) ++ drop (n + 1) d
      unfolding rows3
      put v q = rw (q, add-one, drop-cons d n 0 l, append_assoc) (set_at (rows3 rows leaf n) _ _ _ n (rows_long n))

      pub turn : get_or d n 0 ≡ get_or leaf n 0 → (v : ℕ) → v ≡ row3 rows values n values → set values n v ≡ rows3 rows leaf (n + 1) ++ drop (n + 1) d
      turn q v r =
          rw p (put v (r ∙ row_same rows values leaf n values (rows3 rows leaf n) (turn_leaf ∙ q) (λ j h. ap (λ (t : List ℕ). get_or t j 0) p ∙ front j h)))

-- the first n rows hang on the first n leaves
rows_same : (rows leaf leaf' : List ℕ) (n : ℕ) → ((i : ℕ) → i < n → get_or leaf i 0 ≡ get_or leaf' i 0) → rows3 rows leaf n ≡ rows3 rows leaf' n
unfolding rows3
rows_same rows leaf leaf' zero h = refl
rows_same rows leaf leaf' (suc n) h =
    let t = rows_same rows leaf leaf' n (λ i l. h i (omega arith)) in
    rw t (ap (λ (x : ℕ). rows3 rows leaf' n ++ (x ∷ [])) (row_same rows leaf leaf' n (rows3 rows leaf' n) (rows3 rows leaf' n) (h n (omega arith)) (λ j l. refl)))

-- ---- the whole run, in a buffer
module _ (g : Lent) (input state values : List ℕ) (ready : RunReady g input state values) where
  abbrev first : List ℕ
  first = blank g.counts.rows ++ drop g.counts.rows values

  abbrev second : List ℕ
  second = placed (input_row g.inputs) input g.counts.inputs first

  abbrev third : List ℕ
  third = placed (latch_row g.latches) state g.counts.latches second

  pub placed_all : third ≡ leaves g.inputs g.latches g.counts input state ++ drop g.counts.rows values
  placed_all =
      let a = placed_append (input_row g.inputs) input g.counts.inputs (blank g.counts.rows) (drop g.counts.rows values) (λ i l. rw (blank_long g.counts.rows) (ready.input_rows i l)) in
      let h : length (placed (input_row g.inputs) input g.counts.inputs (blank g.counts.rows)) ≡ g.counts.rows = placed_long (input_row g.inputs) input g.counts.inputs (blank g.counts.rows) ∙
      blank_long g.counts.rows in
      rw a
      (placed_append (latch_row g.latches) state g.counts.latches (placed (input_row g.inputs) input g.counts.inputs (blank g.counts.rows)) (drop g.counts.rows values)
      (λ i l. rw h (ready.latch_rows i l)))

  front_leaf : (i : ℕ) → i < g.counts.rows → get_or third i 0 ≡ get_or (leaves g.inputs g.latches g.counts input state) i 0
  front_leaf i l =
      ap (λ (t : List ℕ). get_or t i 0) placed_all
      ∙ get_or-append (leaves g.inputs g.latches g.counts input state) (drop g.counts.rows values) 0 i (rw (leaves_long g.inputs g.latches g.counts input state) l)

  -- the buffer after each part of the run
  module _ (v₁ v₂ v₃ : List ℕ) (p₁ : v₁ ≡ first) (p₂ : v₂ ≡ placed (input_row g.inputs) input g.counts.inputs v₁) (p₃ : v₃ ≡ placed (latch_row g.latches) state g.counts.latches v₂) where
    all_placed : v₃ ≡ third
    all_placed = p₃ ∙ ap (placed (latch_row g.latches) state g.counts.latches) (p₂ ∙ ap (placed (input_row g.inputs) input g.counts.inputs) p₁)

    pub placed_codes : Codes g.counts.rows v₃
    placed_codes i l = rw (all_placed, front_leaf i l) (leaves_codes g.inputs g.latches g.counts input state ready.input_codes ready.state_codes i l)

    pub run_whole : rows3 g.rows v₃ g.counts.rows ++ drop g.counts.rows v₃ ≡ run g input state ++ drop g.counts.rows values
    unfolding codes_of
    run_whole =
        rw all_placed
        (ap₂ ◌++◌ (rows_same g.rows third (leaves g.inputs g.latches g.counts input state) g.counts.rows front_leaf)
        (ap (drop g.counts.rows) placed_all ∙ drop_at (leaves g.inputs g.latches g.counts input state) (drop g.counts.rows values) g.counts.rows (leaves_long g.inputs g.latches g.counts input state)))

-- ---- what the latches take
module _ (latches codes : List ℕ) where
  pub nexts_long : (n : ℕ) → length (nexts latches codes n) ≡ n
  unfolding nexts
  nexts_long zero = refl
  nexts_long (suc n) = simp (length-append, nexts_long n) (omega arith)

  pub nexts_at : (n i : ℕ) → i < n → get_or (nexts latches codes n) i 0 ≡ edge3 codes (latch_at latches i).next
  unfolding nexts
  nexts_at zero i l = absurd (omega arith)
  nexts_at (suc n) i l =
      ⊎_elim
      (λ (e : i ≡ n). rw e (get_or_at (nexts latches codes n) (edge3 codes (latch_at latches n).next) [] 0 n (nexts_long n)))
      (λ (h : i < n). get_or-append (nexts latches codes n) (edge3 codes (latch_at latches n).next ∷ []) 0 i (rw (nexts_long n) h) ∙ nexts_at n i h)
      (eq-or-lt_of_le (le_of_suc-le-suc l))

  -- a turn of the loop
  pub nexts_turn :
      (n : ℕ) (d : List ℕ) → n < length d → (v : ℕ) → v ≡ edge3 codes (latch_at latches n).next → set (nexts latches codes n ++ drop n d) n v ≡ nexts latches codes (n + 1) ++ drop (n + 1) d
  unfolding nexts
  nexts_turn n d l v q = rw (q, add-one n, drop-cons d n 0 l, append_assoc) (set_at (nexts latches codes n) _ _ _ n (nexts_long n))

  -- what stands behind the rows does not matter
  pub nexts_front : (rest : List ℕ) (n : ℕ) → Within (next_row latches) n (length codes) → nexts latches (codes ++ rest) n ≡ nexts latches codes n
  unfolding nexts
  nexts_front rest zero h = refl
  nexts_front rest (suc n) h =
      let e = (latch_at latches n).next in
      let t = nexts_front rest n (λ i l. h i (omega arith)) in
      rw t (ap (λ (x : ℕ). nexts latches codes n ++ (x ∷ [])) (edge_same (codes ++ rest) codes e (get_or-append codes rest 0 (id_of e) (h n (omega arith)))))
