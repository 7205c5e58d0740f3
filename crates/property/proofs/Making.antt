-- What the constraints that are made latch by latch mean.
-- Assumes nothing.
use Prim.Native.Nat.{ℕ, zero, suc, ◌+◌, ◌*◌, ◌≤◌, ◌<◌}
use native.Mathlib.Omega.{arith}
use native.Mathlib.Nat.{eq-or-lt_of_le}
use mathlib.Core.Path.{◌≡◌, refl, sym, ap, ◌∙◌}
use mathlib.Core.Bool.{Bool, true, false, cond, not, ◌||◌, or-false}
use mathlib.Core.Logic.{⊎_elim}
use mathlib.Core.List.{List, [], ◌∷◌}
use lib.ListN.{length, get_or, set, length-set}
use lib.Seq.{get_or-set_same, get_or-set_other}
use Rattle.edge.specs.Edges.{id_of, complement}
use Rattle.edge.specs.Meaning.{edge_value}
use Rattle.edge.proofs.Meaning.{complementing}
use Rattle.edge.proofs.Tests.{false_true}
use Rattle.rows.specs.Sizes.{rows_lent}
use Rattle.rows.specs.Value.{value}
use Rattle.graph.specs.declared.latch.Latch.{Latch}
use Rattle.graph.specs.Latches.{latch_at}
use Rattle.gates.specs.Gates.{State, state}
use Rattle.gates.specs.Lists.{list_of, eq_of}
use Rattle.gates.specs.Meaning.{AllUsed, Grows, any_true}
use Rattle.gates.proofs.Listing.{list_sized}
use Rattle.gates.proofs.Growing.{grows_on, grows_none, grows_with, list_grows, turned_used, both_used, eq_grows}
use Rattle.gates.proofs.Meaning.{grows_value, grows_edge, even_value, list_value, eq_value}
use Rattle.graph.specs.Count.{count_below}
use Rattle.renumber.specs.Kept.{SameBefore}
use Rattle.graph.proofs.Counting.{count_past}
use Rattle.property.specs.GateInit.{is_gated, constraint_of, Gating, gating, gate_step, gate_steps}
use Rattle.property.specs.GateInitMeaning.{equal}
use Rattle.property.proofs.Gating.{step_bounded}

-- the latch and its init go to used rows
pub record Within (used : ℕ) (l : Latch) : Type 0 where
  pub input : l.input < used
  pub init : id_of l.init < used

-- "new latch implies latch equals init"
abbrev pub implied : List ℕ → ℕ → Latch → (ℕ → Bool) → Bool
implied rows new l leaf = not (value rows leaf new) || equal (value rows leaf l.input) (edge_value (value rows leaf) l.init)

-- ---- one constraint
module _ (rows : List ℕ) (used new : ℕ) (l : Latch) (some : 0 < used) (row : new < used) (within : Within used l) (room : (constraint_of rows used new l).used ≤ rows_lent rows) where
  abbrev same : State
  same = eq_of rows used (2 * l.input) l.init

  abbrev pair : List ℕ
  pair = complement (2 * new) ∷ (same.edge ∷ [])

  input_used : id_of (2 * l.input) < used
  input_used = omega (arith, within.input)

  new_used : id_of (2 * new) < used
  new_used = omega (arith, row)

  same_room : same.used ≤ rows_lent rows
  unfolding constraint_of
  same_room = omega (arith, room, (list_sized false true same.rows same.used pair).more)

  same_grows : Grows rows used same
  same_grows = eq_grows rows used (2 * l.input) l.init some input_used within.init same_room

  same_some : 0 < same.used
  same_some = omega (arith, same_grows.more)

  pair_used : AllUsed same.used pair
  pair_used =
      both_used same.used (complement (2 * new)) same.edge (turned_used true same.used (2 * new) (omega (arith, new_used, same_grows.more))) same_grows.edge

  pair_room : (list_of false true same.rows same.used pair).used ≤ rows_lent same.rows
  unfolding constraint_of
  pair_room = rw same_grows.long room

  constraint_grows : Grows rows used (constraint_of rows used new l)
  unfolding constraint_of
  constraint_grows = grows_on rows used same _ same_grows (list_grows false true same.rows same.used pair same_some pair_used pair_room)

  constraint_value : (leaf : ℕ → Bool) → edge_value (value (constraint_of rows used new l).rows leaf) (constraint_of rows used new l).edge ≡ implied rows new l leaf
  unfolding constraint_of any_true
  constraint_value leaf =
      list_value false true same.rows same.used pair leaf same_some pair_used pair_room
      ∙ rw (
        complementing.negates (value same.rows leaf) (2 * new),
        grows_edge rows used same same_grows leaf (2 * new) new_used,
        even_value (value rows leaf) new,
        or-false (edge_value (value same.rows leaf) same.edge),
        eq_value rows used (2 * l.input) l.init some input_used within.init same_room leaf,
        even_value (value rows leaf) l.input,
      )

step_count : (new : ℕ) (t : Gating) (l : Latch) → (gate_step new t l).count ≡ cond (is_gated l) (t.count + 1) t.count
unfolding gate_step
step_count new t l = go (is_gated l)
  where
    c : State
    c = constraint_of t.rows t.used new l

    go : (d : Bool) → (cond d (gating c.rows c.used (set t.constraints t.count c.edge) (t.count + 1)) t).count ≡ cond d (t.count + 1) t.count
    go true = refl
    go false = refl

-- ---- latch by latch, from these rows and constraints on
module _ (rows : List ℕ) (used new : ℕ) (latches constraints : List ℕ) (at : ℕ) (some : 0 < used) (row : new < used) where
  abbrev gates : ℕ → Bool
  gates i = is_gated (latch_at latches i)

  abbrev after : ℕ → Gating
  after n = gate_steps new latches (gating rows used constraints at) n

  abbrev place : ℕ → ℕ
  place i = at + count_below gates i

  -- the constraint for latch i
  pub record Stands (t : Gating) (i : ℕ) : Type 0 where
    pub edge : id_of (get_or t.constraints (place i) 0) < t.used
    pub means : (leaf : ℕ → Bool) → edge_value (value t.rows leaf) (get_or t.constraints (place i) 0) ≡ implied rows new (latch_at latches i) leaf

  pub record Made (t : Gating) (n : ℕ) : Type 0 where
    pub grows : Grows rows used (state t.rows t.used 0)
    pub count : t.count ≡ place n
    pub long : length t.constraints ≡ length constraints
    pub before : SameBefore at constraints t.constraints
    pub each : (i : ℕ) → i < n → gates i ≡ true → Stands t i

  -- latch n has no such init
  kept : (t : Gating) (n : ℕ) → gates n ≡ false → Made t n → Made (gate_step new t (latch_at latches n)) (suc n)
  unfolding gate_step count_below
  kept t n e m =
      rw e
      (record {
        grows = m.grows;
        count = m.count ∙ rw e;
        long = m.long;
        before = m.before;
        each = λ i l q. each i l q;
      })
    where
      each : (i : ℕ) → i < suc n → gates i ≡ true → Stands t i
      each i l q =
          ⊎_elim
          (λ (z : suc i ≡ suc n). let y : i ≡ n = omega arith in absurd (false_true (sym e ∙ (ap gates (sym y) ∙ q))))
          (λ (h : suc i < suc n). m.each i (omega arith) q)
          (eq-or-lt_of_le l)

  -- it has one
  module _ (t : Gating) (n : ℕ) (e : gates n ≡ true) (m : Made t n) (within : Within used (latch_at latches n)) where
    abbrev l : Latch
    l = latch_at latches n

    abbrev c : State
    c = constraint_of t.rows t.used new l

    abbrev next : Gating
    next = gating c.rows c.used (set t.constraints t.count c.edge) (t.count + 1)

    module _ (room : c.used ≤ rows_lent rows) (free : t.count < length constraints) where
      later : Within t.used l
      later = record { input = omega (arith, within.input, m.grows.more); init = omega (arith, within.init, m.grows.more) }

      t_some : 0 < t.used
      t_some = omega (arith, m.grows.more)

      t_row : new < t.used
      t_row = omega (arith, row, m.grows.more)

      t_room : c.used ≤ rows_lent t.rows
      t_room = rw m.grows.long room

      c_grows : Grows t.rows t.used c
      c_grows = constraint_grows t.rows t.used new l t_some t_row later t_room

      here : get_or (set t.constraints t.count c.edge) (place n) 0 ≡ c.edge
      here = rw (← m.count) (get_or-set_same t.constraints t.count c.edge 0 (omega (arith, m.long)))

      same_implied : (leaf : ℕ → Bool) → implied t.rows new l leaf ≡ implied rows new l leaf
      same_implied leaf =
          let s = state t.rows t.used 0 in
          rw (
            grows_value rows used s m.grows leaf new row,
            grows_value rows used s m.grows leaf l.input within.input,
            grows_edge rows used s m.grows leaf l.init within.init,
          )

      newest : Stands next n
      newest =
          record {
            edge = rw here c_grows.edge;
            means = λ leaf. rw here (constraint_value t.rows t.used new l t_some t_row later t_room leaf ∙ same_implied leaf);
          }

      older : (i : ℕ) → i < n → gates i ≡ true → Stands next i
      older i h q =
          let s = m.each i h q in
          let p : get_or (set t.constraints t.count c.edge) (place i) 0 ≡ get_or t.constraints (place i) 0
          = get_or-set_other t.constraints t.count (place i) c.edge 0 (λ (z : place i ≡ t.count). absurd (omega (arith, m.count, count_past gates n i h q))) in
          record {
            edge = rw p (omega (arith, s.edge, c_grows.more));
            means = λ leaf. rw p (grows_edge t.rows t.used c c_grows leaf (get_or t.constraints (place i) 0) s.edge ∙ s.means leaf);
          }

      each : (i : ℕ) → i < suc n → gates i ≡ true → Stands next i
      each i h q =
          ⊎_elim
          (λ (z : suc i ≡ suc n). let y : i ≡ n = omega arith in rw y newest)
          (λ (k : suc i < suc n). older i (omega arith) q)
          (eq-or-lt_of_le h)

      made_one : Made next (suc n)
      unfolding count_below
      made_one =
          record {
            grows = grows_with rows used c 0 (grows_on rows used (state t.rows t.used 0) c m.grows c_grows) (omega (arith, t_some, c_grows.more));
            count = rw e (omega (arith, m.count));
            long = length-set t.constraints t.count c.edge ∙ m.long;
            before = λ j h. get_or-set_other t.constraints t.count j c.edge 0 (λ (z : j ≡ t.count). absurd (omega (arith, m.count))) ∙ m.before j h;
            each = each;
          }

      added : Made (gate_step new t l) (suc n)
      unfolding gate_step
      added = rw e made_one

  -- what is made where it has one
  step_made :
      (t : Gating) (n : ℕ) → gates n ≡ true → gate_step new t (latch_at latches n) ≡ gating (constraint_of t.rows t.used new (latch_at latches n)).rows
      (constraint_of t.rows t.used new (latch_at latches n)).used (set t.constraints t.count (constraint_of t.rows t.used new (latch_at latches n)).edge) (t.count + 1)
  unfolding gate_step
  step_made t n e = rw e

  made_next : (t : Gating) (n : ℕ) → Made t n → (gates n ≡ true → Within used (latch_at latches n)) → (gate_step new t (latch_at latches n)).used ≤ rows_lent rows
      → (gate_step new t (latch_at latches n)).count ≤ length constraints → Made (gate_step new t (latch_at latches n)) (suc n)
  made_next t n m within room free = go (gates n) refl
    where
      go : (d : Bool) → gates n ≡ d → Made (gate_step new t (latch_at latches n)) (suc n)
      go true e =
          let s = step_made t n e in
          let u = ap (λ (x : Gating). x.used) s in
          let k = ap (λ (x : Gating). x.count) s in
          added t n e m (within e) (omega (arith, room, u)) (omega (arith, free, k))
      go false e = kept t n e m

  pub made : (n : ℕ) → ((i : ℕ) → i < n → gates i ≡ true → Within used (latch_at latches i)) → (after n).used ≤ rows_lent rows → (after n).count ≤ length constraints → Made (after n) n
  unfolding gate_steps count_below
  made zero within room free =
      record {
        grows = grows_none rows used 0 some;
        count = omega arith;
        long = refl;
        before = λ j h. refl;
        each = λ i h q. absurd (omega arith);
      }
  made (suc n) within room free =
      let b = step_bounded new (after n) (latch_at latches n) in
      made_next (after n) n (made n (λ i h q. within i (omega arith) q) (omega (arith, room, b.more)) (omega (arith, free, b.counted))) (λ e. within n (omega arith) e) room free

  -- a constraint is counted for each latch that has one
  pub counted_made : (n : ℕ) → (after n).count ≡ place n
  unfolding gate_steps count_below
  counted_made zero = omega arith
  counted_made (suc n) = step_count new (after n) (latch_at latches n) ∙ go (gates n) (counted_made n)
    where
      go : (d : Bool) → (after n).count ≡ place n → cond d ((after n).count + 1) (after n).count ≡ at + cond d (count_below gates n + 1) (count_below gates n)
      go true q = omega arith
      go false q = q
