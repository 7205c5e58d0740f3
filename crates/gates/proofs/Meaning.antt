-- What building means: older rows keep their values, and an edge that was built has the value of what it was built of.
-- Assumes nothing.
use Prim.Native.Nat.{ℕ, ◌+◌, ◌*◌, ◌≤◌, ◌<◌}
use native.Mathlib.Omega.{arith}
use mathlib.Core.Path.{◌≡◌, refl, sym, ap, ◌∙◌}
use mathlib.Core.Bool.{Bool, true, false, cond, not, ◌&&◌, ◌||◌, and_self, and_comm, and_assoc, and-true, and-false, not-and_self}
use mathlib.Core.List.{List, [], ◌∷◌}
use lib.Dec.{eqb}
use borrow.Author.Tests.{eqb-true}
use Rattle.edge.specs.Edges.{id_of, edge_of, complement, constant_of}
use Rattle.edge.specs.Meaning.{edge_value}
use Rattle.edge.proofs.Meaning.{complementing, constants, coding}
use Rattle.rows.specs.Sizes.{rows_lent}
use Rattle.rows.specs.Value.{value}
use Rattle.rows.proofs.Value.{value_zero, value_gate, local}
use Rattle.std.specs.Prelude.{Option, Some, None}
use Rattle.gates.specs.Gates.{State, state, row_added, first, second, add_gate, folded, or_gate, add_and, add_step, step, steps}
use Rattle.gates.specs.Lists.{all_of, signed, list_of, eq_of}
use Rattle.gates.specs.Meaning.{Grows, AllUsed, all_true, any_true}
use Rattle.gates.proofs.Ordering.{both_ordered, order_used}
use Rattle.gates.proofs.Growing.{row_first, row_second, is_gate_lem, gate_grows, head_used, tail_used, signed_used, next_room, next_grows, next_all, rest_room, next_some}
use Rattle.gates.proofs.Growing.{fst, snd, fst_room, fst_grows, snd_room, fst_some, a_later, b_later, snd_grows, snd_some, pair_used, last_room}

-- ---- older rows keep their values, and so do edges to them
pub grows_value : (rows : List ℕ) (used : ℕ) (s : State) → Grows rows used s → (leaf : ℕ → Bool) (i : ℕ) → i < used → value s.rows leaf i ≡ value rows leaf i
grows_value rows used s g leaf i l =
    (local s.rows rows leaf leaf).by_rows_up_to i
    (λ j k. record { first = g.kept (2 * j) (omega arith); second = g.kept (2 * j + 1) (omega arith); chosen = λ h. refl })

pub grows_edge : (rows : List ℕ) (used : ℕ) (s : State) → Grows rows used s → (leaf : ℕ → Bool) (e : ℕ) → id_of e < used
    → edge_value (value s.rows leaf) e ≡ edge_value (value rows leaf) e
unfolding edge_value
grows_edge rows used s g leaf e l = rw (grows_value rows used s g leaf (id_of e) l)

-- ---- folding
module _ (v : ℕ → Bool) (z : v 0 ≡ false) where
  -- the value of what an AND folds to, and of the gate where it does not
  abbrev fold_value : Option ℕ → Bool → Bool
  fold_value (Some e) gate = edge_value v e
  fold_value None gate = gate

  fold_value_lem : (a b : ℕ) → fold_value (folded a b) (edge_value v a && edge_value v b) ≡ edge_value v a && edge_value v b
  unfolding folded
  fold_value_lem a b = go (eqb a 1) (eqb a 0) (eqb b 1) (eqb b 0) (eqb a b) (eqb a (complement b)) refl refl refl refl refl refl
    where
      constant : (b : Bool) → edge_value v (constant_of b) ≡ b
      constant = constants.means v z

      go : (s t u w x y : Bool) → eqb a 1 ≡ s → eqb a 0 ≡ t → eqb b 1 ≡ u → eqb b 0 ≡ w → eqb a b ≡ x → eqb a (complement b) ≡ y
          → fold_value (cond s (Some b) (cond t (Some 0) (cond u (Some a) (cond w (Some 0) (cond x (Some a) (cond y (Some 0) None)))))) (edge_value v a && edge_value v b)
          ≡ edge_value v a && edge_value v b
      go true t u w x y h i j k l m = rw (eqb-true a 1 h, constant true)
      go false true u w x y h i j k l m = rw (eqb-true a 0 i, constant false)
      go false false true w x y h i j k l m = rw (eqb-true b 1 j, constant true) (sym (and-true (edge_value v a)))
      go false false false true x y h i j k l m = rw (eqb-true b 0 k, constant false) (sym (and-false (edge_value v a)))
      go false false false false true y h i j k l m = rw (eqb-true a b l) (sym (and_self (edge_value v b)))
      go false false false false false true h i j k l m =
          rw (eqb-true a (complement b) m, complementing.negates v b, constant false) (sym (not-and_self (edge_value v b)))
      go false false false false false false h i j k l m = refl

  order_value : (a b : ℕ) → edge_value v (first a b) && edge_value v (second a b) ≡ edge_value v a && edge_value v b
  order_value a b =
      both_ordered (λ (x y : ℕ). edge_value v x && edge_value v y ≡ edge_value v a && edge_value v b) a b refl (and_comm (edge_value v b) (edge_value v a))

-- the edge to a row, uncomplemented
pub even_value : (v : ℕ → Bool) (i : ℕ) → edge_value v (2 * i) ≡ v i
unfolding edge_value
even_value v i =
    let e : 2 * i ≡ edge_of i false = omega arith in
    rw (e, coding.sign i false, coding.row i false)

-- ---- one AND
module _ (rows : List ℕ) (used a b : ℕ) (some : 0 < used) (p : id_of a < used) (q : id_of b < used) (leaf : ℕ → Bool) where
  abbrev v : ℕ → Bool
  v = edge_value (value rows leaf)

  -- the value of the edge of a state
  abbrev made : State → Bool
  made s = edge_value (value s.rows leaf) s.edge

  gate_value : used + 1 ≤ rows_lent rows → made (add_gate rows used a b) ≡ v a && v b
  unfolding add_gate
  gate_value room =
      let o = order_used used a b p q in
      let x = first a b in
      let y = second a b in
      let r = row_added rows used x y in
      let g = gate_grows rows used a b some p q room in
      let f = row_first rows used x y room in
      let s = row_second rows used x y room in
      even_value (value r leaf) used
      ∙ (value_gate r leaf used (rw (f, s) (is_gate_lem used x y o.0 o.1))
      ∙ (rw (f, s, grows_edge rows used (add_gate rows used a b) g leaf x o.0, grows_edge rows used (add_gate rows used a b) g leaf y o.1) refl
      ∙ order_value (value rows leaf) (value_zero rows leaf) a b))

  pub and_value : (add_and rows used a b).used ≤ rows_lent rows → made (add_and rows used a b) ≡ v a && v b
  unfolding add_and add_gate
  and_value = go (folded (first a b) (second a b)) refl
    where
      go : (f : Option ℕ) → folded (first a b) (second a b) ≡ f → (or_gate f rows used (add_gate rows used a b)).used ≤ rows_lent rows
          → made (or_gate f rows used (add_gate rows used a b)) ≡ v a && v b
      go (Some e) h l =
          sym (ap (λ (f : Option ℕ). fold_value (value rows leaf) (value_zero rows leaf) f (v (first a b) && v (second a b))) h)
          ∙ (fold_value_lem (value rows leaf) (value_zero rows leaf) (first a b) (second a b) ∙ order_value (value rows leaf) (value_zero rows leaf) a b)
      go None h l = gate_value l

  pub step_value : (trivial : Bool) → (add_step trivial rows used a b).used ≤ rows_lent rows → made (add_step trivial rows used a b) ≡ v a && v b
  unfolding add_step add_gate
  step_value true l = gate_value l
  step_value false l = and_value l

-- ---- one AND after the other
all_same : (rows : List ℕ) (used : ℕ) (s : State) → Grows rows used s → (leaf : ℕ → Bool) (es : List ℕ) → AllUsed used es
    → all_true (edge_value (value s.rows leaf)) es ≡ all_true (edge_value (value rows leaf)) es
unfolding all_true
all_same rows used s g leaf [] h = refl
all_same rows used s g leaf (e ∷ es) h =
    rw (grows_edge rows used s g leaf e (head_used used e es h), all_same rows used s g leaf es (tail_used used e es h))

steps_value : (trivial : Bool) (es : List ℕ) (s : State) (leaf : ℕ → Bool) → 0 < s.used → id_of s.edge < s.used → AllUsed s.used es
    → (steps trivial s es).used ≤ rows_lent s.rows
    → edge_value (value (steps trivial s es).rows leaf) (steps trivial s es).edge
    ≡ edge_value (value s.rows leaf) s.edge && all_true (edge_value (value s.rows leaf)) es
unfolding steps all_true
steps_value trivial [] s leaf some own all room = sym (and-true (edge_value (value s.rows leaf) s.edge))
steps_value trivial (e ∷ es) s leaf some own all room =
    let n = step trivial s e in
    let g = next_grows trivial s e es some own all room in
    let v = edge_value (value s.rows leaf) in
    steps_value trivial es n leaf (next_some trivial s e es some own all room) g.edge (next_all trivial s e es some own all room) (rest_room trivial s e es some own all room)
    ∙ rw (
      step_value s.rows s.used s.edge e some own (head_used s.used e es all) leaf trivial (next_room trivial s e es some own all room),
      all_same s.rows s.used n g leaf es (tail_used s.used e es all),
    )
    (and_assoc (v s.edge) (v e) (all_true v es))

all_value : (trivial : Bool) (rows : List ℕ) (used : ℕ) (es : List ℕ) (leaf : ℕ → Bool) → 0 < used → AllUsed used es → (all_of trivial rows used es).used ≤ rows_lent rows
    → edge_value (value (all_of trivial rows used es).rows leaf) (all_of trivial rows used es).edge ≡ all_true (edge_value (value rows leaf)) es
unfolding all_of all_true
all_value trivial rows used [] leaf some all room = constants.means (value rows leaf) (value_zero rows leaf) true
all_value trivial rows used (e ∷ es) leaf some all room =
    steps_value trivial es (state rows used e) leaf some (head_used used e es all) (tail_used used e es all) room

-- ---- OR is the complement of the AND of the complements
abbrev pub list_true : Bool → (ℕ → Bool) → List ℕ → Bool
list_true or v es = cond or (any_true v es) (all_true v es)

module _ (w : ℕ → Bool) where
  abbrev signs : ℕ → Bool
  signs = edge_value w

  signed_value : (or : Bool) (es : List ℕ) → cond or (not (all_true signs (signed or es))) (all_true signs (signed or es)) ≡ list_true or signs es
  unfolding all_true any_true
  signed_value true [] = refl
  signed_value true (e ∷ es) =
      rw (complementing.negates w e) (twist (signs e) (all_true signs (signed true es)) ∙ ap (λ (x : Bool). signs e || x) (signed_value true es))
    where
      twist : (x y : Bool) → not (not x && y) ≡ x || not y
      twist true y = refl
      twist false y = refl
  signed_value false [] = refl
  signed_value false (e ∷ es) = ap (λ (x : Bool). signs e && x) (signed_value false es)

pub list_value : (trivial or : Bool) (rows : List ℕ) (used : ℕ) (es : List ℕ) (leaf : ℕ → Bool) → 0 < used → AllUsed used es → (list_of trivial or rows used es).used ≤ rows_lent rows
    → edge_value (value (list_of trivial or rows used es).rows leaf) (list_of trivial or rows used es).edge ≡ list_true or (edge_value (value rows leaf)) es
unfolding list_of
list_value trivial or rows used es leaf some all room =
    let s = all_of trivial rows used (signed or es) in
    complementing.if_means (value s.rows leaf) or s.edge
    ∙ (ap (λ (x : Bool). cond or (not x) x) (all_value trivial rows used (signed or es) leaf some (signed_used or used es all) room)
    ∙ signed_value (value rows leaf) or es)

-- ---- equality
module _ (rows : List ℕ) (used a b : ℕ) (some : 0 < used) (p : id_of a < used) (q : id_of b < used) (room : (eq_of rows used a b).used ≤ rows_lent rows) (leaf : ℕ → Bool) where
  abbrev x : State
  x = fst rows used a b some p q room

  abbrev y : State
  y = snd rows used a b some p q room

  pub eq_value : edge_value (value (eq_of rows used a b).rows leaf) (eq_of rows used a b).edge
      ≡ cond (edge_value (value rows leaf) a) (edge_value (value rows leaf) b) (not (edge_value (value rows leaf) b))
  unfolding eq_of any_true
  eq_value =
      let f = fst_grows rows used a b some p q room in
      let g = snd_grows rows used a b some p q room in
      list_value false true y.rows y.used (x.edge ∷ (y.edge ∷ [])) leaf (snd_some rows used a b some p q room) (pair_used rows used a b some p q room)
      (last_room rows used a b some p q room) ∙ rw (
        grows_edge x.rows x.used y g leaf x.edge f.edge,
        and_value rows used a b some p q leaf (fst_room rows used a b some p q room),
        and_value x.rows x.used (complement a) (complement b) (fst_some rows used a b some p q room) (a_later rows used a b some p q room) (b_later rows used a b some p q room) leaf
            (snd_room rows used a b some p q room),
        complementing.negates (value x.rows leaf) a,
        complementing.negates (value x.rows leaf) b,
        grows_edge rows used x f leaf a p,
        grows_edge rows used x f leaf b q,
      ) (same (edge_value (value rows leaf) a) (edge_value (value rows leaf) b))
    where
      same : (s t : Bool) → (s && t) || ((not s && not t) || false) ≡ cond s t (not t)
      same true true = refl
      same true false = refl
      same false true = refl
      same false false = refl
