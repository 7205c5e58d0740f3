-- The map is one to one: row 0 stays, the listed leaves come next in their order, and then the gates in row order.
-- Assumes nothing.
use Prim.Native.Nat.{ℕ, ◌+◌, ◌-◌, ◌≤◌, ◌<◌}
use native.Mathlib.Omega.{arith}
use mathlib.Core.Path.{◌≡◌, refl, sym, ap, ◌∙◌}
use mathlib.Core.Bool.{Bool, true, false, not, ◌&&◌}
use mathlib.Core.Logic.{⊎_elim}
use lib.ListN.{length, get_or}
use Rattle.edge.proofs.Tests.{false_true, lt_or_le}
use Rattle.rows.specs.Rows.{leaf_at, gate_at}
use Rattle.graph.specs.Leaves.{member}
use Rattle.graph.specs.Graph.{Lent, Sized}
use Rattle.graph.specs.WellFormed.{UsedLeaf, listed, WellFormed}
use Rattle.graph.proofs.Listed.{Stands, stands}
use Rattle.graph.proofs.Counting.{count_past, count_apart, counted, none_counted}
use Rattle.graph.specs.Count.{gates_below}
use Rattle.reencode.specs.Numbers.{place_in, first_gate, number_of, new_id, orphan_at, orphans}
use Rattle.reencode.specs.Meaning.{CameFrom, OneToOne}
use Rattle.reencode.proofs.Placing.{place_none, place_at}
use Rattle.reencode.proofs.Numbering.{gate_number, other_number}
use Rattle.reencode.proofs.Leaving.{zero_no_gate, zero_no_leaf, listed_long, listed_leaf, member_leaf, leaf_or_gate, leaf_gate, rows_counted}

-- what row i is, and so which number it gets
pub data Kind (g : Lent) (i : ℕ) : Type 0 where
  false_row : i ≡ 0 → new_id g i ≡ 0 → Kind g i
  listed_row : (j : ℕ) → j < g.counts.inputs + g.counts.latches → get_or (listed g) j 0 ≡ i → new_id g i ≡ 1 + j → Kind g i
  gate_row : gate_at g.rows i ≡ true → new_id g i ≡ first_gate g.counts + gates_below g.rows i → Kind g i

module _ (g : Lent) (marks : ℕ) (s : Sized g marks) (w : WellFormed g) where
  abbrev used : ℕ
  used = g.counts.rows

  abbrev leaves : ℕ
  leaves = g.counts.inputs + g.counts.latches

  pub new_zero : new_id g 0 ≡ 0
  unfolding number_of
  new_zero = other_number g.rows (first_gate g.counts) (place_in (listed g)) 0 (zero_no_gate g.rows) ∙ place_none 1 (listed g) 0 (go (member 0 (listed g)) refl)
    where
      go : (t : Bool) → member 0 (listed g) ≡ t → t ≡ false
      go true e = absurd (false_true (sym (zero_no_leaf g.rows) ∙ (member_leaf g marks s w 0 e).1))
      go false e = refl

  pub new_listed : (j : ℕ) → j < leaves → new_id g (get_or (listed g) j 0) ≡ 1 + j
  unfolding number_of
  new_listed j l =
      let h : j < length (listed g) = omega (arith, listed_long g marks s w) in
      let t = listed_leaf g marks s w j h in
      other_number g.rows (first_gate g.counts) (place_in (listed g)) (get_or (listed g) j 0) (leaf_gate g marks s w (get_or (listed g) j 0) t.0 t.1)
      ∙ place_at 1 (listed g) j h (λ i a. w.once i j a h)

  pub new_gate : (i : ℕ) → gate_at g.rows i ≡ true → new_id g i ≡ first_gate g.counts + gates_below g.rows i
  unfolding number_of
  new_gate i e = gate_number g.rows (first_gate g.counts) (place_in (listed g)) i e

  -- ---- without orphans
  module _ (none : orphans g ≡ 0) where
    pub leaf_listed : (x : ℕ) → UsedLeaf g x → member x (listed g) ≡ true
    leaf_listed x t = go (member x (listed g)) (leaf_at g.rows x) (none_counted (orphan_at g) used none x t.0) t.1
      where
        go : (b a : Bool) → a && not b ≡ false → a ≡ true → b ≡ true
        go true a o e = refl
        go false true o e = absurd (false_true (sym o))
        go false false o e = absurd (false_true e)

    pub kind : (i : ℕ) → i < used → Kind g i
    kind i l =
        ⊎_elim (λ p. ⊎_elim (λ h. leaf (stands i (listed g) (leaf_listed i (l, h)))) (λ h. gate_row h (new_gate i h)) (leaf_or_gate g marks s w i l p))
        (λ z. let e : i ≡ 0 = omega arith in false_row e (rw e new_zero)) (lt_or_le 0 i)
      where
        leaf : Stands i (listed g) → Kind g i
        leaf t =
            let h : t.at < leaves = omega (arith, t.within, listed_long g marks s w) in
            listed_row t.at h t.same (ap (new_id g) (sym t.same) ∙ new_listed t.at h)

    total : used ≡ first_gate g.counts + gates_below g.rows used
    total = omega (arith, rows_counted g marks s w)

    pub new_within : (i : ℕ) → i < used → new_id g i < used
    new_within i l = go (kind i l)
      where
        go : Kind g i → new_id g i < used
        go (false_row e q) = omega arith
        go (listed_row j h e q) = omega (arith, total)
        go (gate_row h q) = omega (arith, total, count_past (gate_at g.rows) used i l h)

    -- a gate's number is above those of the rows before it
    pub new_below : (i j : ℕ) → i < j → j < used → gate_at g.rows j ≡ true → new_id g i < new_id g j
    new_below i j l u h = go (kind i (omega arith))
      where
        go : Kind g i → new_id g i < new_id g j
        go (false_row e q) = omega (arith, new_gate j h)
        go (listed_row k a e q) = omega (arith, new_gate j h)
        go (gate_row k q) = omega (arith, new_gate j h, count_past (gate_at g.rows) j i l k)

    new_apart : (i j : ℕ) → i < used → j < used → new_id g i ≡ new_id g j → i ≡ j
    new_apart i j l m e = go (kind i l) (kind j m)
      where
        go : Kind g i → Kind g j → i ≡ j
        go (false_row a p) (false_row b q) = a ∙ sym b
        go (false_row a p) (listed_row k h b q) = absurd (omega arith)
        go (false_row a p) (gate_row h q) = absurd (omega arith)
        go (listed_row k h a p) (false_row b q) = absurd (omega arith)
        go (listed_row k h a p) (listed_row k' h' b q) = let z : k ≡ k' = omega arith in sym a ∙ (ap (λ (n : ℕ). get_or (listed g) n 0) z ∙ b)
        go (listed_row k h a p) (gate_row h' q) = absurd (omega arith)
        go (gate_row h p) (false_row b q) = absurd (omega arith)
        go (gate_row h p) (listed_row k' h' b q) = absurd (omega arith)
        go (gate_row h p) (gate_row h' q) = count_apart (gate_at g.rows) i j h h' (omega arith)

    new_onto : (k : ℕ) → k < used → CameFrom (new_id g) used k
    new_onto k l = ⊎_elim (λ p. ⊎_elim (leaf p) gate (lt_or_le k (first_gate g.counts))) (λ z. record { from = 0; within = omega arith; to = new_zero ∙ omega arith }) (lt_or_le 0 k)
      where
        leaf : 0 < k → k < first_gate g.counts → CameFrom (new_id g) used k
        leaf p h =
            let j : k - 1 < length (listed g) = omega (arith, listed_long g marks s w) in
            record { from = get_or (listed g) (k - 1) 0; within = (listed_leaf g marks s w (k - 1) j).0; to = new_listed (k - 1) (omega arith) ∙ omega arith }

        gate : first_gate g.counts ≤ k → CameFrom (new_id g) used k
        gate h =
            let c = counted (gate_at g.rows) used (k - first_gate g.counts) (omega (arith, total)) in
            record { from = c.at; within = c.within; to = new_gate c.at c.such ∙ omega (arith, c.count) }

    pub one_to_one : OneToOne (new_id g) used
    one_to_one = record { within = new_within; apart = new_apart; onto = new_onto }
