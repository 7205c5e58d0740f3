-- Laws of written latches, and of all lists at once.
-- Assumes nothing.
use Prim.Native.Nat.{ℕ, zero, suc, ◌+◌}
use native.Mathlib.Numerals.{add-one}
use mathlib.Core.Path.{◌≡◌, refl, sym, ap, ◌∙◌}
use mathlib.Core.List.{List}
use lib.ListN.{length}
use Rattle.graph.specs.declared.latch.Latch.{Latch}
use Rattle.graph.specs.Latches.{latch_at, latch_set}
use Rattle.graph.proofs.Latches.{latch_set_length}
use Rattle.renumber.specs.Renumber.{renamed_latch, latches_written, Lists, lists}

-- ---- latches
pub latches_length : (m : ℕ → ℕ) (out : List ℕ) (at : ℕ) (latches : List ℕ) (n : ℕ) → length (latches_written m out at latches n) ≡ length out
unfolding latches_written
latches_length m out at latches zero = refl
latches_length m out at latches (suc n) = latch_set_length (latches_written m out at latches n) (at + n) (renamed_latch m (latch_at latches n)) ∙ latches_length m out at latches n

pub latches_turn : (m : ℕ → ℕ) (out : List ℕ) (at : ℕ) (latches : List ℕ) (j : ℕ) {now after : List ℕ} {old new : Latch}
    → now ≡ latches_written m out at latches j → old ≡ latch_at latches j → new ≡ renamed_latch m old → after ≡ latch_set now (at + j) new
    → after ≡ latches_written m out at latches (j + 1)
unfolding latches_written
latches_turn m out at latches j {now} {after} {old} {new} e p q w =
    let s : j + 1 ≡ suc j = add-one j in
    w ∙
    (ap (λ (l : Latch). latch_set now (at + j) l) (q ∙ ap (renamed_latch m) p) ∙
    (ap (λ (x : List ℕ). latch_set x (at + j) (renamed_latch m (latch_at latches j))) e ∙ ap (λ (k : ℕ). latches_written m out at latches k) (sym s)))

-- ---- all lists
pub all_lists : {a b c d e f g : List ℕ} (l : Lists) → a ≡ l.latches → b ≡ l.constraints → c ≡ l.bads → d ≡ l.outputs → e ≡ l.ends → f ≡ l.edges → g ≡ l.fairness → lists a b c d e f g ≡ l
all_lists l p q r s t u v = rw (p, q, r, s, t, u, v)
