-- Laws of latches without their inits.
-- Assumes nothing.
use Prim.Native.Nat.{ℕ, zero, suc, ◌+◌, ◌*◌, ◌≤◌, ◌<◌}
use native.Mathlib.Omega.{arith}
use native.Mathlib.Nat.{eq-or-lt_of_le}
use native.Mathlib.Numerals.{add-one}
use mathlib.Core.Path.{◌≡◌, refl, ap, ◌∙◌}
use mathlib.Core.Bool.{Bool, true, false, cond, not}
use mathlib.Core.Logic.{◌⊎◌, inl, ⊎_elim}
use mathlib.Core.List.{List}
use lib.ListN.{length}
use lib.Dec.{eqb}
use borrow.Author.Tests.{not-true, eqb-false}
use Rattle.edge.specs.Edges.{id_of}
use Rattle.edge.proofs.Tests.{both}
use Rattle.rows.specs.Rows.{none}
use Rattle.graph.specs.declared.latch.Latch.{Latch}
use Rattle.graph.specs.Latches.{latch_words, without_init, latch_at, latch_set}
use Rattle.graph.proofs.Latches.{latch_set_length, latch_kept, latch_set_at}
use Rattle.property.specs.GateInit.{is_gated, initless, inits_taken}

pub inits_length : (latches : List ℕ) (n : ℕ) → length (inits_taken latches n) ≡ length latches
unfolding inits_taken
inits_length latches zero = refl
inits_length latches (suc n) = latch_set_length (inits_taken latches n) n (initless (latch_at latches n)) ∙ inits_length latches n

-- a latch not reached is as it was
pub inits_after : (latches : List ℕ) (n i : ℕ) → n ≤ i → latch_at (inits_taken latches n) i ≡ latch_at latches i
unfolding inits_taken
inits_after latches zero i l = refl
inits_after latches (suc n) i l =
    latch_kept (inits_taken latches n) n (initless (latch_at latches n)) i (λ e. absurd (omega arith)) ∙ inits_after latches n i (omega arith)

pub inits_turn : (latches : List ℕ) (j : ℕ) {now after : List ℕ} {old new : Latch} → now ≡ inits_taken latches j → old ≡ latch_at now j → new ≡ initless old
    → after ≡ latch_set now j new → after ≡ inits_taken latches (j + 1)
unfolding inits_taken
inits_turn latches j e p q w = rw (add-one, w, q, p, e, inits_after latches j j (omega arith))

pub inits_at : (latches : List ℕ) (n i : ℕ) → i < n → latch_words * n ≤ length latches → latch_at (inits_taken latches n) i ≡ initless (latch_at latches i)
unfolding inits_taken
inits_at latches zero i l h = absurd (omega arith)
inits_at latches (suc n) i l h =
    ⊎_elim
    (λ (e : suc i ≡ suc n). let q : i ≡ n = omega arith in rw q (latch_set_at (inits_taken latches n) n (initless (latch_at latches n)) (omega (arith, inits_length latches n))))
    (λ (k : suc i < suc n). latch_kept (inits_taken latches n) n (initless (latch_at latches n)) i (λ (e : i ≡ n). absurd (omega arith)) ∙ inits_at latches n i (omega arith) (omega arith))
    (eq-or-lt_of_le l)

-- whether or not it loses its init
either_latch : (l : Latch) (read : Latch → ℕ) → read (without_init l) ≡ read l → read (initless l) ≡ read l
unfolding initless
either_latch l read e = go (is_gated l)
  where
    go : (d : Bool) → read (cond d (without_init l) l) ≡ read l
    go true = e
    go false = refl

pub initless_input : (l : Latch) → (initless l).input ≡ l.input
initless_input l = either_latch l (λ (x : Latch). x.input) refl

pub initless_next : (l : Latch) → (initless l).next ≡ l.next
initless_next l = either_latch l (λ (x : Latch). x.next) refl

pub initless_gated : (l : Latch) → is_gated l ≡ true → initless l ≡ without_init l
unfolding initless
initless_gated l e = rw e

pub initless_left : (l : Latch) → is_gated l ≡ false → initless l ≡ l
unfolding initless
initless_left l e = rw e

pub initless_init : (used : ℕ) (l : Latch) → (l.init ≡ none) ⊎ (id_of l.init < used) → ((initless l).init ≡ none) ⊎ (id_of (initless l).init < used)
initless_init used l h = go (is_gated l) refl
  where
    go : (d : Bool) → is_gated l ≡ d → ((initless l).init ≡ none) ⊎ (id_of (initless l).init < used)
    go true e = inl (ap (λ (x : Latch). x.init) (initless_gated l e))
    go false e = rw (initless_left l e) h

-- such an init is an edge
pub gated_edge : (used : ℕ) (l : Latch) → is_gated l ≡ true → (l.init ≡ none) ⊎ (id_of l.init < used) → id_of l.init < used
unfolding is_gated
gated_edge used l h w =
    let t = both {a = not (eqb l.init none)} {b = not (eqb (id_of l.init) 0)} h in
    ⊎_elim (λ (e : l.init ≡ none). absurd (eqb-false l.init none (not-true (eqb l.init none) t.0) e)) (λ (k : id_of l.init < used). k) w
