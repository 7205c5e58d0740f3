-- Laws of the constraints that are made latch by latch.
-- Assumes nothing.
use Prim.Native.Nat.{ℕ, zero, suc, ◌+◌, ◌*◌, ◌≤◌, ◌<◌}
use native.Mathlib.Omega.{arith}
use native.Mathlib.Numerals.{add-one}
use mathlib.Core.Path.{◌≡◌, refl, sym, ap, ◌∙◌}
use mathlib.Core.Bool.{Bool, true, false, cond, not, ◌||◌}
use mathlib.Core.Logic.{⊎_elim}
use mathlib.Core.List.{List, [], ◌∷◌}
use lib.ListN.{length, set, length-set}
use borrow.Author.Tests.{not-true, not-false}
use Rattle.edge.specs.Edges.{complement}
use Rattle.edge.proofs.Tests.{either, or_right, false_true, lt_or_le}
use Rattle.graph.specs.declared.latch.Latch.{Latch}
use Rattle.graph.specs.Latches.{latch_at}
use Rattle.gates.specs.Gates.{State, state, add_and}
use Rattle.gates.specs.Lists.{list_of, eq_of}
use Rattle.gates.proofs.Building.{Like, Sized, and_sized}
use Rattle.gates.proofs.Listing.{list_sized, list_like, eq_sized, eq_like, pair_or}
use Rattle.property.specs.GateInit.{is_gated, constraint_of, Gating, gating, gate_step, gate_steps}
use Rattle.property.specs.Steps.{any_gated}

-- ---- the OR of two edges
pub or_built : (rows : List ℕ) (used a b : ℕ) {m n e : ℕ} (s : State) → m ≡ complement a → n ≡ complement b → s ≡ add_and rows used m n → e ≡ complement s.edge
    → state s.rows s.used e ≡ list_of false true rows used (a ∷ (b ∷ []))
or_built rows used a b s p q h k = rw (pair_or rows used a b, k, h, p, q)

pub or_most : (rows : List ℕ) (used a b : ℕ) (s : State) → s ≡ list_of false true rows used (a ∷ (b ∷ [])) → s.used ≤ used + 1
or_most rows used a b s h = rw (h, pair_or rows used a b) (and_sized rows used (complement a) (complement b)).most

-- ---- one constraint
pub constraint_built : (rows : List ℕ) (used new : ℕ) (l : Latch) {k : ℕ} (o : State) → o ≡ eq_of rows used (2 * l.input) l.init → k ≡ complement (2 * new)
    → list_of false true o.rows o.used (k ∷ (o.edge ∷ [])) ≡ constraint_of rows used new l
unfolding constraint_of
constraint_built rows used new l o h k = rw (h, k)

constraint_sized : (rows : List ℕ) (used new : ℕ) (l : Latch) → Sized rows used 6 (constraint_of rows used new l)
unfolding constraint_of
constraint_sized rows used new l =
    let x = eq_of rows used (2 * l.input) l.init in
    let f = eq_sized rows used (2 * l.input) l.init in
    let g = list_sized false true x.rows x.used (complement (2 * new) ∷ (x.edge ∷ [])) in
    record { more = omega (arith, f.more, g.more); most = omega (arith, f.most, g.most); long = g.long ∙ f.long }

constraint_like : (v w : List ℕ) (used new : ℕ) (l : Latch) → Like (constraint_of v used new l) (constraint_of w used new l)
unfolding constraint_of
constraint_like v w used new l =
    let x = eq_of v used (2 * l.input) l.init in
    let y = eq_of w used (2 * l.input) l.init in
    let f = eq_like v w used (2 * l.input) l.init in
    rw (f.used, f.edge) (list_like false true x.rows y.rows y.used (complement (2 * new) ∷ (y.edge ∷ [])))

-- ---- one latch
module _ (new : ℕ) (s : Gating) (l : Latch) where
  pub step_kept : {d : Bool} → d ≡ is_gated l → not d ≡ true → s ≡ gate_step new s l
  unfolding gate_step
  step_kept {d} e h = rw (← e, not-true d h)

  pub step_made : {d : Bool} → d ≡ is_gated l → not d ≡ false → (c : State) (constraints : List ℕ) → c ≡ constraint_of s.rows s.used new l
      → constraints ≡ set s.constraints s.count c.edge → gating c.rows c.used constraints (s.count + 1) ≡ gate_step new s l
  unfolding gate_step
  step_made {d} e h c constraints p q = rw (← e, not-false d h, q, p)

  pub step_counts : is_gated l ≡ true → (gate_step new s l).count ≡ s.count + 1
  unfolding gate_step
  step_counts h = rw h

-- it takes at most six rows and one constraint, and changes no length
pub record Bounded (s : Gating) (n : ℕ) (t : Gating) : Type 0 where
  pub more : s.used ≤ t.used
  pub most : t.used ≤ s.used + 6 * n
  pub counted : s.count ≤ t.count
  pub few : t.count ≤ s.count + n
  pub long : length t.rows ≡ length s.rows
  pub listed : length t.constraints ≡ length s.constraints

pub step_bounded : (new : ℕ) (s : Gating) (l : Latch) → Bounded s 1 (gate_step new s l)
unfolding gate_step
step_bounded new s l = go (is_gated l)
  where
    c : State
    c = constraint_of s.rows s.used new l

    go : (t : Bool) → Bounded s 1 (cond t (gating c.rows c.used (set s.constraints s.count c.edge) (s.count + 1)) s)
    go true =
        let f = constraint_sized s.rows s.used new l in
        record {
          more = f.more;
          most = omega (arith, f.most);
          counted = omega arith;
          few = omega arith;
          long = f.long;
          listed = length-set s.constraints s.count c.edge;
        }
    go false = record { more = omega arith; most = omega arith; counted = omega arith; few = omega arith; long = refl; listed = refl }

-- how many rows and constraints there are hangs neither on the rows nor on the constraints
pub record Alike (s t : Gating) : Type 0 where
  pub used : s.used ≡ t.used
  pub count : s.count ≡ t.count

step_alike : (new : ℕ) (s t : Gating) (l : Latch) → Alike s t → Alike (gate_step new s l) (gate_step new t l)
unfolding gate_step
step_alike new s t l a = go (is_gated l)
  where
    c : Gating → State
    c s = constraint_of s.rows s.used new l

    like : Like (c s) (c t)
    like = rw a.used (constraint_like s.rows t.rows t.used new l)

    made : Gating → Gating
    made s = gating (c s).rows (c s).used (set s.constraints s.count (c s).edge) (s.count + 1)

    go : (d : Bool) → Alike (cond d (made s) s) (cond d (made t) t)
    go true = record { used = like.used; count = ap (λ (k : ℕ). k + 1) a.count }
    go false = a

-- ---- latch by latch
module _ (new : ℕ) (latches : List ℕ) where
  pub steps_turn : (s : Gating) (j : ℕ) {now after : Gating} {l : Latch} → now ≡ gate_steps new latches s j → l ≡ latch_at latches j → after ≡ gate_step new now l
      → after ≡ gate_steps new latches s (j + 1)
  unfolding gate_steps
  steps_turn s j e p q = rw (add-one, q, p, e)

  pub steps_alike : (s t : Gating) → Alike s t → (n : ℕ) → Alike (gate_steps new latches s n) (gate_steps new latches t n)
  unfolding gate_steps
  steps_alike s t a zero = a
  steps_alike s t a (suc n) = step_alike new (gate_steps new latches s n) (gate_steps new latches t n) (latch_at latches n) (steps_alike s t a n)

-- ---- a constraint is added exactly if there is such a latch
neither : {a b : Bool} → a || b ≡ false → (a ≡ false) × (b ≡ false)
neither {a = false} {b} h = (refl, h)
neither {a = true} {b} h = absurd (false_true (sym h))

-- searching the latches in order
pub any_start : (latches : List ℕ) → any_gated latches 0 ≡ false
unfolding any_gated
any_start latches = refl

pub any_turn : (latches : List ℕ) (j : ℕ) {l : Latch} {d : Bool} → any_gated latches j ≡ false → l ≡ latch_at latches j → d ≡ is_gated l → d ≡ false → any_gated latches (j + 1) ≡ false
unfolding any_gated
any_turn latches j e p q h = rw (add-one, e, ← p, ← q, h)

pub any_found : (latches : List ℕ) (n j : ℕ) {l : Latch} {d : Bool} → j < n → l ≡ latch_at latches j → d ≡ is_gated l → d ≡ true → any_gated latches n ≡ true
unfolding any_gated
any_found latches zero j lt p q h = absurd (omega arith)
any_found latches (suc n) j lt p q h =
    ⊎_elim
    (λ (k : j < n). ap (λ (t : Bool). t || is_gated (latch_at latches n)) (any_found latches n j k p q h))
    (λ (k : n ≤ j). let e : n ≡ j = omega arith in or_right (any_gated latches n) (rw (e, ← p, ← q, h)))
    (lt_or_le j n)

module _ (new : ℕ) (latches : List ℕ) (s : Gating) where
  steps_more : (n : ℕ) → s.count ≤ (gate_steps new latches s n).count
  unfolding gate_steps
  steps_more zero = omega arith
  steps_more (suc n) = omega (arith, steps_more n, (step_bounded new (gate_steps new latches s n) (latch_at latches n)).counted)

  pub none_counted : (n : ℕ) → any_gated latches n ≡ false → (gate_steps new latches s n).count ≡ s.count
  unfolding any_gated gate_steps
  none_counted zero h = refl
  none_counted (suc n) h =
      let t = neither {a = any_gated latches n} {b = is_gated (latch_at latches n)} h in
      ap (λ (x : Gating). x.count) (sym (step_kept new (gate_steps new latches s n) (latch_at latches n) (sym t.1) refl)) ∙ none_counted n t.0

  pub some_counted : (n : ℕ) → any_gated latches n ≡ true → s.count < (gate_steps new latches s n).count
  unfolding any_gated gate_steps
  some_counted zero h = absurd (false_true h)
  some_counted (suc n) h =
      let x = gate_steps new latches s n in
      let l = latch_at latches n in
      ⊎_elim
      (λ (k : any_gated latches n ≡ true). omega (arith, some_counted n k, (step_bounded new x l).counted))
      (λ (k : is_gated l ≡ true). omega (arith, steps_more n, step_counts new x l k))
      (either {a = any_gated latches n} {b = is_gated l} h)

pub turn_bounded : (new : ℕ) (s t : Gating) (l : Latch) → t ≡ gate_step new s l → Bounded s 1 t
turn_bounded new s t l e = rw e (step_bounded new s l)
