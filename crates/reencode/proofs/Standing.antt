-- What stands in the rows that are written.
-- Assumes nothing.
use Prim.Native.Nat.{ℕ, zero, suc, ◌+◌, ◌*◌, ◌≤◌, ◌<◌}
use native.Mathlib.Omega.{arith}
use native.Mathlib.Nat.{eq-or-lt_of_le}
use mathlib.Core.Path.{◌≡◌, refl, ap, ◌∙◌}
use mathlib.Core.Bool.{Bool, true, false, cond}
use mathlib.Core.Logic.{⊎_elim}
use mathlib.Core.List.{List}
use lib.ListN.{length}
use Rattle.rows.specs.Sizes.{rows_lent}
use Rattle.rows.specs.Rows.{word0, word1, false_word, none, gate_at}
use Rattle.gates.specs.Gates.{row_added, first as first_edge, second as second_edge, add_gate}
use Rattle.gates.proofs.Building.{row_long}
use Rattle.gates.proofs.Growing.{row_kept, row_first, row_second}
use Rattle.renumber.specs.Renumber.{renamed}
use Rattle.graph.proofs.Counting.{count_more, count_past}
use Rattle.graph.specs.Count.{gates_below}
use Rattle.reencode.specs.Rebuilding.{leaves_added, gate_added, gates_added}

-- row r of a table is the words a and b
pub record Row (table : List ℕ) (r a b : ℕ) : Type 0 where
  pub first : word0 table r ≡ a
  pub second : word1 table r ≡ b

-- ---- one row more
module _ (table : List ℕ) (k a b : ℕ) (room : k + 1 ≤ rows_lent table) where
  row_new : Row (row_added table k a b) k a b
  row_new = record { first = row_first table k a b room; second = row_second table k a b room }

  row_stays : {r x y : ℕ} → r < k → Row table r x y → Row (row_added table k a b) r x y
  row_stays {r} l w = record { first = row_kept table k a b room (2 * r) (omega arith) ∙ w.first; second = row_kept table k a b room (2 * r + 1) (omega arith) ∙ w.second }

-- ---- row 0 and the leaves
pub leaves_long : (out : List ℕ) (n : ℕ) → length (leaves_added out n) ≡ length out
unfolding leaves_added
leaves_long out zero = row_long out 0 false_word 0
leaves_long out (suc n) = row_long (leaves_added out n) (n + 1) none 0 ∙ leaves_long out n

pub zero_stands : (out : List ℕ) (n : ℕ) → n + 1 ≤ rows_lent out → Row (leaves_added out n) 0 false_word 0
unfolding leaves_added
zero_stands out zero r = row_new out 0 false_word 0 (omega arith)
zero_stands out (suc n) r = row_stays (leaves_added out n) (n + 1) none 0 (omega (arith, leaves_long out n)) (omega arith) (zero_stands out n (omega arith))

pub leaf_stands : (out : List ℕ) (n i : ℕ) → n + 1 ≤ rows_lent out → i < n → Row (leaves_added out n) (i + 1) none 0
unfolding leaves_added
leaf_stands out zero i r l = absurd (omega arith)
leaf_stands out (suc n) i r l =
    ⊎_elim
    (λ (e : suc i ≡ suc n). let q : i ≡ n = omega arith in rw q (row_new (leaves_added out n) (n + 1) none 0 (omega (arith, leaves_long out n))))
    (λ (h : suc i < suc n). row_stays (leaves_added out n) (n + 1) none 0 (omega (arith, leaves_long out n)) (omega arith) (leaf_stands out n i (omega arith) (omega arith)))
    (eq-or-lt_of_le l)

-- ---- the gates
module _ (m : ℕ → ℕ) (rows : List ℕ) (first : ℕ) (out : List ℕ) where
  abbrev a : ℕ → ℕ
  a i = first_edge (renamed m (word0 rows i)) (renamed m (word1 rows i))

  abbrev b : ℕ → ℕ
  b i = second_edge (renamed m (word0 rows i)) (renamed m (word1 rows i))

  added : (i k : ℕ) (table : List ℕ) → gate_added m rows i k table ≡ cond (gate_at rows i) (row_added table k (a i) (b i)) table
  unfolding gate_added add_gate
  added i k table = refl

  one_long : (i k : ℕ) (table : List ℕ) → length (gate_added m rows i k table) ≡ length table
  one_long i k table = ap length (added i k table) ∙ go (gate_at rows i)
    where
      go : (t : Bool) → length (cond t (row_added table k (a i) (b i)) table) ≡ length table
      go true = row_long table k (a i) (b i)
      go false = refl

  pub gates_long : (n : ℕ) → length (gates_added m rows first out n) ≡ length out
  unfolding gates_added
  gates_long zero = refl
  gates_long (suc n) = one_long n (first + gates_below rows n) (gates_added m rows first out n) ∙ gates_long n

  -- a row below the next gate's stays
  stays : (n r x y : ℕ) → first + gates_below rows (n + 1) ≤ rows_lent out → r < first + gates_below rows n → Row (gates_added m rows first out n) r x y
      → Row (gate_added m rows n (first + gates_below rows n) (gates_added m rows first out n)) r x y
  stays n r x y room l w = rw (added n (first + gates_below rows n) (gates_added m rows first out n)) (go (gate_at rows n) refl)
    where
      go : (t : Bool) → gate_at rows n ≡ t → Row (cond t (row_added (gates_added m rows first out n) (first + gates_below rows n) (a n) (b n)) (gates_added m rows first out n)) r x y
      go true g =
          let c : gates_below rows (n + 1) ≡ gates_below rows n + 1 = count_more (gate_at rows) n ∙ rw g in
          row_stays (gates_added m rows first out n) (first + gates_below rows n) (a n) (b n) (omega (arith, gates_long n)) l w
      go false g = w

  less : (n : ℕ) → gates_below rows n ≤ gates_below rows (n + 1)
  less n = go (gate_at rows n) (count_more (gate_at rows) n)
    where
      go : (t : Bool) → gates_below rows (n + 1) ≡ cond t (gates_below rows n + 1) (gates_below rows n) → gates_below rows n ≤ gates_below rows (n + 1)
      go true h = omega arith
      go false h = omega arith

  pub below_stands : (n r x y : ℕ) → first + gates_below rows n ≤ rows_lent out → r < first → Row out r x y → Row (gates_added m rows first out n) r x y
  unfolding gates_added
  below_stands zero r x y room l w = w
  below_stands (suc n) r x y room l w =
      let s : suc n ≡ n + 1 = omega arith in
      let room' : first + gates_below rows (n + 1) ≤ rows_lent out = rw (← s) room in
      stays n r x y room' (omega arith) (below_stands n r x y (omega (arith, less n)) l w)

  pub gate_stands : (n i : ℕ) → first + gates_below rows n ≤ rows_lent out → i < n → gate_at rows i ≡ true → Row (gates_added m rows first out n) (first + gates_below rows i) (a i) (b i)
  unfolding gates_added
  gate_stands zero i room l g = absurd (omega arith)
  gate_stands (suc n) i room l g =
      let s : suc n ≡ n + 1 = omega arith in
      let room' : first + gates_below rows (n + 1) ≤ rows_lent out = rw (← s) room in
      ⊎_elim (λ (e : suc i ≡ suc n). let q : n ≡ i = omega arith in here n q room')
      (λ (h : suc i < suc n). stays n (first + gates_below rows i) (a i) (b i) room' (omega (arith, count_past (gate_at rows) n i (omega arith) g))
      (gate_stands n i (omega (arith, less n)) (omega arith) g)) (eq-or-lt_of_le l)
    where
      here :
          (n : ℕ) → n ≡ i → first + gates_below rows (n + 1) ≤ rows_lent out → Row (gate_added m rows n (first + gates_below rows n) (gates_added m rows first out n)) (first + gates_below rows i)
          (a i) (b i)
      here n q room =
          let c : gates_below rows (i + 1) ≡ gates_below rows i + 1 = count_more (gate_at rows) i ∙ rw g in
          let room' : first + gates_below rows (i + 1) ≤ rows_lent out = rw (← q) room in
          rw (q, added i (first + gates_below rows i) (gates_added m rows first out i), g)
          (row_new (gates_added m rows first out i) (first + gates_below rows i) (a i) (b i) (omega (arith, gates_long i)))
