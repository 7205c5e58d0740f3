-- Laws of keeping some of many things.
-- Assumes nothing.
use Prim.Native.Nat.{ℕ, zero, suc, ◌+◌, ◌*◌, ◌%◌, ◌≤◌, ◌<◌}
use native.Mathlib.Omega.{arith}
use native.Mathlib.Numerals.{add-one}
use mathlib.Core.Path.{◌≡◌, refl, sym, ap, ◌∙◌}
use mathlib.Core.Bool.{Bool, true, false, cond}
use mathlib.Core.List.{List}
use lib.ListN.{length, set, take, length-set}
use Rattle.std.proofs.lemmas.List.{get_or-take, length-take-le}
use lib.Dec.{eqb}
use Rattle.edge.specs.Edges.{id_of}
use Rattle.rows.specs.Sizes.{max_rows}
use Rattle.rows.specs.Rows.{none, word0, word1, gate_at}
use Rattle.rows.proofs.Laws.{gate_below}
use Rattle.graph.specs.Count.{count_below}
use Rattle.renumber.specs.Renumber.{renamed, ids_of}
use Rattle.renumber.specs.Steps.{Known, MappedEdge}
use Rattle.graph.proofs.Counting.{count_taken, count_left, count_past, count_same}
use Rattle.kept_rows.specs.Keeping.{kept_written, word_put, kept_input}
use Rattle.kept_rows.specs.Copying.{row_word, row_put, inputs_kept}
use Rattle.kept_rows.specs.Steps.{WordReady}

-- ---- a loop that keeps, before thing i
pub record Keeping (p : ℕ → Bool) (put : List ℕ → ℕ → ℕ → List ℕ) (out : List ℕ) (i : ℕ) (now : List ℕ) (k : ℕ) : Type 0 where
  pub count : k ≡ count_below p i
  pub is : now ≡ kept_written p put out i

module _ (p : ℕ → Bool) (put : List ℕ → ℕ → ℕ → List ℕ) (out : List ℕ) where
  kept_more : (i : ℕ) → kept_written p put out (i + 1) ≡ cond (p i) (put (kept_written p put out i) (count_below p i) i) (kept_written p put out i)
  unfolding kept_written
  kept_more i = let e : i + 1 ≡ suc i = add-one i in ap (λ (k : ℕ). kept_written p put out k) e

  pub keep_start : Keeping p put out 0 out 0
  unfolding kept_written count_below
  keep_start = record { count = refl; is = refl }

  module _ (i : ℕ) {now : List ℕ} {k : ℕ} (h : Keeping p put out i now k) {after : List ℕ} {k' : ℕ} where
    pub keep_taken : p i ≡ true → after ≡ put now k i → k' ≡ k + 1 → Keeping p put out (i + 1) after k'
    keep_taken t q e =
        record {
          count = count_taken p i h.count t e;
          is = q ∙ rw (kept_more i, t, h.is, h.count);
        }

    pub keep_left : p i ≡ false → after ≡ now → k' ≡ k → Keeping p put out (i + 1) after k'
    keep_left t q e = record { count = count_left p i h.count t e; is = q ∙ rw (kept_more i, t, h.is) }

  -- there is room for thing i, where there is for all that are kept
  module _ (i n : ℕ) {now : List ℕ} {k : ℕ} (h : Keeping p put out i now k) (l : i < n) (t : p i ≡ true) where
    pub keep_room : k < count_below p n
    keep_room = rw h.count (count_past p n i l t)

-- ---- rows
pub row_put_length : (m : ℕ → ℕ) (rows out : List ℕ) (k i : ℕ) → length (row_put m rows out k i) ≡ length out
unfolding row_put
row_put_length m rows out k i = rw (length-set, length-set)

module _ (m : ℕ → ℕ) (rows out : List ℕ) (k i : ℕ) where
  -- two words as they are worked out, where t tells whether the row is a gate
  pub row_is : {t : Bool} {x y : ℕ} → t ≡ gate_at rows i → x ≡ cond t (renamed m (word0 rows i)) (word0 rows i) → y ≡ cond t (renamed m (word1 rows i)) (word1 rows i)
      → set (set out (2 * k) x) (2 * k + 1) y ≡ row_put m rows out k i
  unfolding row_put row_word
  row_is e p q = rw (← e, ← p, ← q)

-- the edges of a gate go to rows below it
module _ (rows : List ℕ) (i : ℕ) (map : List ℕ) (small : i ≤ max_rows) (known : (j : ℕ) → j < i → Known map j) {t : Bool} (e : t ≡ gate_at rows i) where
  word_ready : (w : ℕ) → id_of w < i → MappedEdge map w
  word_ready w l = record { edge = omega arith; known = known (id_of w) l }

  pub first_ready : WordReady t (word0 rows i) map
  first_ready g = word_ready (word0 rows i) (gate_below i (word0 rows i) (word1 rows i) (sym e ∙ g)).0

  pub second_ready : WordReady t (word1 rows i) map
  second_ready g = word_ready (word1 rows i) (gate_below i (word0 rows i) (word1 rows i) (sym e ∙ g)).1

-- ---- things that agree
pub kept_same : (p q : ℕ → Bool) (put put' : List ℕ → ℕ → ℕ → List ℕ) (out : List ℕ) (n : ℕ)
    → ((i : ℕ) → i < n → p i ≡ q i) → ((l : List ℕ) (k i : ℕ) → i < n → put l k i ≡ put' l k i) → kept_written p put out n ≡ kept_written q put' out n
unfolding kept_written
kept_same p q put put' out zero h f = refl
kept_same p q put put' out (suc n) h f =
    let w = kept_same p q put put' out n (λ i l. h i (omega arith)) (λ l k i m. f l k i (omega arith)) in
    let c = count_same p q n (λ i l. h i (omega arith)) in
    rw (h n (omega arith), w, c, f (kept_written q put' out n) (count_below q n) n (omega arith))

-- a row under two maps that agree on the rows below it
pub row_put_same : (m m' : ℕ → ℕ) (rows : List ℕ) (i : ℕ) → ((j : ℕ) → j < i → m j ≡ m' j) → (l : List ℕ) (k : ℕ) → row_put m rows l k i ≡ row_put m' rows l k i
unfolding row_put row_word renamed
row_put_same m m' rows i h l k = go (gate_at rows i) refl
  where
    go :
        (t : Bool) → gate_at rows i ≡ t → set (set l (2 * k) (cond t (cond (eqb (word0 rows i) none) none (2 * m (id_of (word0 rows i)) + word0 rows i % 2)) (word0 rows i))) (2 * k + 1)
        (cond t (cond (eqb (word1 rows i) none) none (2 * m (id_of (word1 rows i)) + word1 rows i % 2)) (word1 rows i)) ≡ set
        (set l (2 * k) (cond t (cond (eqb (word0 rows i) none) none (2 * m' (id_of (word0 rows i)) + word0 rows i % 2)) (word0 rows i))) (2 * k + 1)
        (cond t (cond (eqb (word1 rows i) none) none (2 * m' (id_of (word1 rows i)) + word1 rows i % 2)) (word1 rows i))
    go true e = let b = gate_below i (word0 rows i) (word1 rows i) e in rw (h (id_of (word0 rows i)) b.0, h (id_of (word1 rows i)) b.1)
    go false e = refl

-- the kept of the first n inputs
pub inputs_front : (kept : ℕ → Bool) (m : ℕ → ℕ) (inputs out : List ℕ) (n : ℕ) → n ≤ length inputs
    → inputs_kept kept m (take n inputs) out (length (take n inputs)) ≡ inputs_kept kept m inputs out n
inputs_front kept m inputs out n h =
    rw (length-take-le n inputs h)
    (kept_same (kept_input kept (take n inputs)) (kept_input kept inputs) (word_put (ids_of m (take n inputs))) (word_put (ids_of m inputs)) out n
    (λ j l. ap kept (get_or-take n inputs j 0 l)) (λ o k j l. ap (λ (x : ℕ). set o k (m x)) (get_or-take n inputs j 0 l)))

pub count_front : (kept : ℕ → Bool) (inputs : List ℕ) (n : ℕ) → n ≤ length inputs
    → count_below (kept_input kept (take n inputs)) (length (take n inputs)) ≡ count_below (kept_input kept inputs) n
count_front kept inputs n h =
    rw (length-take-le n inputs h) (count_same (kept_input kept (take n inputs)) (kept_input kept inputs) n (λ j l. ap kept (get_or-take n inputs j 0 l)))
