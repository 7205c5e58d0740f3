-- One record of the latch table: "Latch structs read and next written in the slice".
-- Assumes nothing.
use Rattle.std.specs.Prelude.{ℕ, ◌≡◌, Bool, cond, List, length, get_or, set, ltb, Result}
use Rattle.std.proofs.Common.{ap}
use Rattle.edge.specs.declared.answer.Given.{Given}
use Rattle.edge.specs.declared.answer.Refusal.{Refusal}
use Rattle.edge.specs.Answers.{done, bad_argument, told, value_or, answer_known, told_injective, determined}
use Rattle.graph.specs.declared.latch.Latch.{Latch}
use Rattle.records.specs.Table.{no_latch, with_next}

-- the answer, as it is told, and the latch that was read; the answer and the table that is left
pub record LatchSeen : Type 0 where
  pub given : Given
  pub latch : Latch

pub record TableSeen : Type 0 where
  pub given : Given
  pub table : List Latch

abbrev pub found_seen : Result Latch Refusal → LatchSeen
found_seen r = record { given = told r; latch = value_or no_latch r }

abbrev pub table_seen : Result Unit Refusal → List Latch → TableSeen
table_seen r t = record { given = told r; table = t }

-- record i is there
abbrev pub there : List Latch → ℕ → Bool
there t i = ltb i (length t)

-- 4 where it is not, as for "an id not used", and nothing is read or changed
unfoldable pub latch_call : List Latch → ℕ → LatchSeen
latch_call t i = cond (there t i) (record { given = done; latch = get_or t i no_latch }) (record { given = bad_argument; latch = no_latch })

unfoldable pub next_call : List Latch → ℕ → ℕ → TableSeen
next_call t i next = cond (there t i) (record { given = done; table = set t i (with_next (get_or t i no_latch) next) }) (record { given = bad_argument; table = t })

-- any two results that a promise allows are equal
pub latch_determined : (t : List Latch) (i : ℕ) (r s : Result Latch Refusal) → found_seen r ≡ latch_call t i → found_seen s ≡ latch_call t i → r ≡ s
latch_determined t i r s p q =
    let e = determined (latch_call t) i (found_seen r) (found_seen s) p q in
    answer_known no_latch r s (ap (λ (z : LatchSeen). z.given) e) (ap (λ (z : LatchSeen). z.latch) e)

pub set_next_determined : (t : List Latch) (i next : ℕ) (r s : Result Unit Refusal) (x y : List Latch) → table_seen r x ≡ next_call t i next → table_seen s y ≡ next_call t i next → (r ≡ s) × (x ≡ y)
set_next_determined t i next r s x y p q =
    let e = determined (next_call t i) next (table_seen r x) (table_seen s y) p q in
    (told_injective r s (ap (λ (z : TableSeen). z.given) e), ap (λ (z : TableSeen). z.table) e)
