-- Laws of words that are not there.
-- Assumes nothing.
use Prim.Native.Nat.{ℕ, zero, suc, ◌≤◌}
use native.Mathlib.Omega.{arith}
use mathlib.Core.Path.{◌≡◌, refl, ap}
use mathlib.Core.List.{List, [], ◌∷◌}
use lib.ListN.{length, set}

pub set_beyond : (l : List ℕ) (i w : ℕ) → length l ≤ i → l ≡ set l i w
set_beyond [] i w h = refl
set_beyond (x ∷ l) zero w h = absurd (omega arith)
set_beyond (x ∷ l) (suc i) w h = ap (λ (r : List ℕ). x ∷ r) (set_beyond l i w (omega arith))
