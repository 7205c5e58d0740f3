-- Building keeps the rows that were there, and adds rows that are rows.
-- Assumes nothing.
use Prim.Native.Nat.{ℕ, zero, suc, ◌+◌, ◌*◌, ◌≤◌, ◌<◌}
use native.Mathlib.Omega.{arith}
use native.Mathlib.Nat.{le_antisymm}
use mathlib.Core.Path.{◌≡◌, refl, ◌∙◌}
use mathlib.Core.Bool.{Bool, true, false, cond, ◌||◌, or-true}
use mathlib.Core.Logic.{⊎_elim}
use mathlib.Core.List.{List, [], ◌∷◌}
use lib.ListN.{length, get_or, set, length-set}
use lib.Seq.{get_or-set_same, get_or-set_other}
use lib.Dec.{eqb}
use borrow.Author.Tests.{lt-ltb}
use Rattle.edge.specs.Edges.{id_of, complement, complement_if}
use Rattle.edge.proofs.Meaning.{complementing}
use Rattle.edge.proofs.Tests.{lt_or_le}
use Rattle.rows.specs.Sizes.{rows_lent}
use Rattle.rows.specs.Rows.{none, word0, word1, is_false_row, is_leaf, is_gate, is_row, row_at}
use Rattle.std.specs.Prelude.{Option, Some, None}
use Rattle.gates.specs.Gates.{State, state, row_added, Ordered, first, second, add_gate, folded, or_gate, add_and, add_step, step, steps}
use Rattle.gates.specs.Lists.{all_of, signed, list_of, eq_of}
use Rattle.gates.specs.Meaning.{Grows, AllUsed}
use Rattle.gates.proofs.Ordering.{ordered, order_used}
use Rattle.gates.proofs.Building.{row_there, row_long, and_sized, steps_sized}
use Rattle.gates.proofs.Listing.{list_sized}

-- ---- one more row
module _ (rows : List ℕ) (used a b : ℕ) (room : used + 1 ≤ rows_lent rows) where
  there : 2 * used + 2 ≤ length rows
  there = omega arith

  pub row_kept : (k : ℕ) → k < 2 * used → get_or (row_added rows used a b) k 0 ≡ get_or rows k 0
  row_kept k l =
      rw (row_there rows used a b there)
      (get_or-set_other (set rows (2 * used) a) (2 * used + 1) k b 0 (λ (e : k ≡ 2 * used + 1). omega arith)
      ∙ get_or-set_other rows (2 * used) k a 0 (λ (e : k ≡ 2 * used). omega arith))

  pub row_first : word0 (row_added rows used a b) used ≡ a
  row_first =
      rw (row_there rows used a b there)
      (get_or-set_other (set rows (2 * used) a) (2 * used + 1) (2 * used) b 0 (λ (e : 2 * used ≡ 2 * used + 1). omega arith)
      ∙ get_or-set_same rows (2 * used) a 0 (omega arith))

  pub row_second : word1 (row_added rows used a b) used ≡ b
  row_second =
      let l : length (set rows (2 * used) a) ≡ length rows = length-set rows (2 * used) a in
      rw (row_there rows used a b there) (get_or-set_same (set rows (2 * used) a) (2 * used + 1) b 0 (omega arith))

  pub row_grows : is_row used a b ≡ true → Grows rows used (state (row_added rows used a b) (used + 1) (2 * used))
  row_grows r =
      record {
        more = omega arith;
        long = row_long rows used a b;
        kept = row_kept;
        good = λ i l m. let e : i ≡ used = le_antisymm (omega arith) l in rw (e, row_first, row_second) r;
        edge = omega arith;
      }

-- ---- a leaf at a later row
pub leaf_here : (used : ℕ) → 0 < used → is_leaf used none 0 ≡ true
unfolding is_leaf
leaf_here used some = rw (lt-ltb 0 used some)

pub leaf_row : (used : ℕ) → 0 < used → is_row used none 0 ≡ true
unfolding is_row
leaf_row used some = rw (leaf_here used some, or-true (is_false_row used none 0))

-- ---- a gate over used edges
pub is_gate_lem : (i a b : ℕ) → id_of a < i → id_of b < i → is_gate i a b ≡ true
unfolding is_gate
is_gate_lem i a b p q = rw (lt-ltb a (2 * i) (omega arith), lt-ltb b (2 * i) (omega arith))

gate_row : (i a b : ℕ) → id_of a < i → id_of b < i → is_row i a b ≡ true
unfolding is_row
gate_row i a b p q = rw (is_gate_lem i a b p q, or-true (is_false_row i a b || is_leaf i a b))

module _ (rows : List ℕ) (used a b : ℕ) (some : 0 < used) (p : id_of a < used) (q : id_of b < used) where
  pub gate_grows : used + 1 ≤ rows_lent rows → Grows rows used (add_gate rows used a b)
  unfolding add_gate
  gate_grows room =
      let o = order_used used a b p q in
      row_grows rows used (first a b) (second a b) room (gate_row used (first a b) (second a b) o.0 o.1)

  -- the folded edge is one of the two, or false
  abbrev Within : Option ℕ → Type 0
  Within (Some e) = id_of e < used
  Within None = 0 < used

  within : (x y : ℕ) → id_of x < used → id_of y < used → Within (folded x y)
  unfolding folded
  within x y m n = go (eqb x 1) (eqb x 0) (eqb y 1) (eqb y 0) (eqb x y) (eqb x (complement y))
    where
      go : (s t u v w z : Bool) → Within (cond s (Some y) (cond t (Some 0) (cond u (Some x) (cond v (Some 0) (cond w (Some x) (cond z (Some 0) None))))))
      go true t u v w z = n
      go false true u v w z = some
      go false false true v w z = m
      go false false false true w z = some
      go false false false false true z = m
      go false false false false false true = some
      go false false false false false false = some

  pub and_grows : (add_and rows used a b).used ≤ rows_lent rows → Grows rows used (add_and rows used a b)
  unfolding add_and add_gate
  and_grows = let o = order_used used a b p q in go (folded (first a b) (second a b)) (within (first a b) (second a b) o.0 o.1)
    where
      go : (f : Option ℕ) → Within f → (or_gate f rows used (add_gate rows used a b)).used ≤ rows_lent rows → Grows rows used (or_gate f rows used (add_gate rows used a b))
      go (Some e) w l = record { more = omega arith; long = refl; kept = λ k m. refl; good = λ i m n. absurd (omega arith); edge = w }
      go None w l = gate_grows l

  pub step_grows : (trivial : Bool) → (add_step trivial rows used a b).used ≤ rows_lent rows → Grows rows used (add_step trivial rows used a b)
  unfolding add_step add_gate
  step_grows true l = gate_grows l
  step_grows false l = and_grows l

-- ---- the row that is added has the two edges in order, on any rows
module _ (rows : List ℕ) (used a b : ℕ) (room : used + 1 ≤ rows_lent rows) where
  abbrev InRow : State → Type 0
  InRow s = Ordered a b (word0 s.rows used) (word1 s.rows used)

  pub gate_ordered : InRow (add_gate rows used a b)
  unfolding add_gate
  gate_ordered = rw (row_first rows used (first a b) (second a b) room, row_second rows used (first a b) (second a b) room) (ordered a b)

  -- where it does not fold
  pub and_ordered : (add_and rows used a b).used ≡ used + 1 → InRow (add_and rows used a b)
  unfolding add_and
  and_ordered = go (folded (first a b) (second a b))
    where
      go : (f : Option ℕ) → (or_gate f rows used (add_gate rows used a b)).used ≡ used + 1 → InRow (or_gate f rows used (add_gate rows used a b))
      go (Some e) more = absurd (omega arith)
      go None more = gate_ordered

  pub step_ordered : (trivial : Bool) → (add_step trivial rows used a b).used ≡ used + 1 → InRow (add_step trivial rows used a b)
  unfolding add_step
  step_ordered true more = gate_ordered
  step_ordered false more = and_ordered more

-- ---- growing on
pub grows_on : (rows : List ℕ) (used : ℕ) (s t : State) → Grows rows used s → Grows s.rows s.used t → Grows rows used t
grows_on rows used s t g h =
    record {
      more = omega (arith, g.more, h.more);
      long = h.long ∙ g.long;
      kept = λ k l. h.kept k (omega (arith, g.more)) ∙ g.kept k l;
      good = λ i l m. ⊎_elim (λ n. old i l n) (λ n. h.good i n m) (lt_or_le i s.used);
      edge = h.edge;
    }
  where
    old : (i : ℕ) → used ≤ i → i < s.used → row_at t.rows i ≡ true
    old i l n = rw (h.kept (2 * i) (omega arith), h.kept (2 * i + 1) (omega arith)) (g.good i l n)

-- an edge that was used before
pub grows_none : (rows : List ℕ) (used e : ℕ) → id_of e < used → Grows rows used (state rows used e)
grows_none rows used e l = record { more = omega arith; long = refl; kept = λ k m. refl; good = λ i m n. absurd (omega arith); edge = l }

-- the same with another edge
pub grows_with : (rows : List ℕ) (used : ℕ) (s : State) (e : ℕ) → Grows rows used s → id_of e < s.used → Grows rows used (state s.rows s.used e)
grows_with rows used s e g l = record { more = g.more; long = g.long; kept = g.kept; good = g.good; edge = l }

-- ---- lists of used edges
pub head_used : (used e : ℕ) (es : List ℕ) → AllUsed used (e ∷ es) → id_of e < used
head_used used e es h = h 0 (omega arith)

pub tail_used : (used e : ℕ) (es : List ℕ) → AllUsed used (e ∷ es) → AllUsed used es
tail_used used e es h = λ i l. h (suc i) (omega arith)

pub still_used : (m n : ℕ) → m ≤ n → (es : List ℕ) → AllUsed m es → AllUsed n es
still_used m n l es h = λ i k. omega (arith, h i k)

pub signed_id : (or : Bool) (e : ℕ) → id_of (complement_if or e) ≡ id_of e
signed_id true e = complementing.row e
signed_id false e = refl

pub turned_used : (or : Bool) (used e : ℕ) → id_of e < used → id_of (complement_if or e) < used
turned_used or used e l = rw (signed_id or e) l

pub signed_used : (or : Bool) (used : ℕ) (es : List ℕ) → AllUsed used es → AllUsed used (signed or es)
signed_used or used [] h = λ i l. absurd (omega arith)
signed_used or used (e ∷ es) h = λ i l. go i l (signed_used or used es (tail_used used e es h))
  where
    go : (i : ℕ) → i < length (signed or (e ∷ es)) → AllUsed used (signed or es) → id_of (get_or (signed or (e ∷ es)) i 0) < used
    go zero l later = turned_used or used e (head_used used e es h)
    go (suc i) l later = later i (omega arith)

-- what a step of a run needs, and hands on
module _ (trivial : Bool) (s : State) (e : ℕ) (es : List ℕ) (some : 0 < s.used) (own : id_of s.edge < s.used) (all : AllUsed s.used (e ∷ es))
    (room : (steps trivial (step trivial s e) es).used ≤ rows_lent s.rows) where
  abbrev next : State
  next = step trivial s e

  pub next_room : next.used ≤ rows_lent s.rows
  next_room = omega (arith, (steps_sized trivial es next).more)

  pub next_grows : Grows s.rows s.used next
  next_grows = step_grows s.rows s.used s.edge e some own (head_used s.used e es all) trivial next_room

  pub next_all : AllUsed next.used es
  next_all = still_used s.used next.used next_grows.more es (tail_used s.used e es all)

  pub rest_room : (steps trivial next es).used ≤ rows_lent next.rows
  rest_room = rw next_grows.long room

  pub next_some : 0 < next.used
  next_some = omega (arith, next_grows.more)

pub steps_grows : (trivial : Bool) (es : List ℕ) (s : State) → 0 < s.used → id_of s.edge < s.used → AllUsed s.used es → (steps trivial s es).used ≤ rows_lent s.rows
    → Grows s.rows s.used (steps trivial s es)
unfolding steps
steps_grows trivial [] s some own all room = grows_none s.rows s.used s.edge own
steps_grows trivial (e ∷ es) s some own all room =
    let g = next_grows trivial s e es some own all room in
    grows_on s.rows s.used (step trivial s e) (steps trivial (step trivial s e) es) g
    (steps_grows trivial es (step trivial s e) (next_some trivial s e es some own all room) g.edge (next_all trivial s e es some own all room) (rest_room trivial s e es some own all room))

all_grows : (trivial : Bool) (rows : List ℕ) (used : ℕ) (es : List ℕ) → 0 < used → AllUsed used es → (all_of trivial rows used es).used ≤ rows_lent rows
    → Grows rows used (all_of trivial rows used es)
unfolding all_of
all_grows trivial rows used [] some all room = grows_none rows used 1 some
all_grows trivial rows used (e ∷ es) some all room =
    steps_grows trivial es (state rows used e) some (head_used used e es all) (tail_used used e es all) room

pub list_grows : (trivial or : Bool) (rows : List ℕ) (used : ℕ) (es : List ℕ) → 0 < used → AllUsed used es → (list_of trivial or rows used es).used ≤ rows_lent rows
    → Grows rows used (list_of trivial or rows used es)
unfolding list_of
list_grows trivial or rows used es some all room =
    let g = all_grows trivial rows used (signed or es) some (signed_used or used es all) room in
    grows_with rows used (all_of trivial rows used (signed or es)) _ g (turned_used or _ _ g.edge)

-- two used edges
pub both_used : (used a b : ℕ) → id_of a < used → id_of b < used → AllUsed used (a ∷ (b ∷ []))
both_used used a b p q = λ i l. go i l
  where
    go : (i : ℕ) → i < 2 → id_of (get_or (a ∷ (b ∷ [])) i 0) < used
    go zero l = p
    go (suc zero) l = q
    go (suc (suc i)) l = absurd (omega arith)

-- ---- equality
module _ (rows : List ℕ) (used a b : ℕ) (some : 0 < used) (p : id_of a < used) (q : id_of b < used) (room : (eq_of rows used a b).used ≤ rows_lent rows) where
  abbrev pub fst : State
  fst = add_and rows used a b

  abbrev pub snd : State
  snd = add_and fst.rows fst.used (complement a) (complement b)

  snd_lent : snd.used ≤ rows_lent rows
  unfolding eq_of
  snd_lent = omega (arith, (list_sized false true snd.rows snd.used (fst.edge ∷ (snd.edge ∷ []))).more)

  pub fst_room : fst.used ≤ rows_lent rows
  fst_room = omega (arith, snd_lent, (and_sized fst.rows fst.used (complement a) (complement b)).more)

  pub fst_grows : Grows rows used fst
  fst_grows = and_grows rows used a b some p q fst_room

  pub snd_room : snd.used ≤ rows_lent fst.rows
  snd_room = rw fst_grows.long snd_lent

  pub fst_some : 0 < fst.used
  fst_some = omega (arith, fst_grows.more)

  pub a_later : id_of (complement a) < fst.used
  a_later = turned_used true fst.used a (omega (arith, fst_grows.more))

  pub b_later : id_of (complement b) < fst.used
  b_later = turned_used true fst.used b (omega (arith, fst_grows.more))

  pub snd_grows : Grows fst.rows fst.used snd
  snd_grows = and_grows fst.rows fst.used (complement a) (complement b) fst_some a_later b_later snd_room

  pub snd_some : 0 < snd.used
  snd_some = omega (arith, fst_grows.more, snd_grows.more)

  pub pair_used : AllUsed snd.used (fst.edge ∷ (snd.edge ∷ []))
  pair_used = both_used snd.used fst.edge snd.edge (omega (arith, fst_grows.edge, snd_grows.more)) snd_grows.edge

  pub last_room : (list_of false true snd.rows snd.used (fst.edge ∷ (snd.edge ∷ []))).used ≤ rows_lent snd.rows
  unfolding eq_of
  last_room = rw (snd_grows.long, fst_grows.long) room

  pub eq_grows : Grows rows used (eq_of rows used a b)
  unfolding eq_of
  eq_grows =
      grows_on rows used fst _ fst_grows
      (grows_on fst.rows fst.used snd _ snd_grows (list_grows false true snd.rows snd.used _ snd_some pair_used last_room))
