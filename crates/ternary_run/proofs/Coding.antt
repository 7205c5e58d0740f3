-- Laws of codes.
-- Assumes nothing.
use Prim.Native.Nat.{ℕ, zero, suc, ◌+◌, ◌*◌, ◌/◌, ◌%◌, ◌≤◌, ◌<◌}
use native.Mathlib.Omega.{arith}
use mathlib.Core.Path.{◌≡◌, refl, sym, ap₂, ◌∙◌}
use mathlib.Core.Bool.{Bool, true, false, cond, ◌&&◌, ◌||◌}
use mathlib.Core.Logic.{⊎_elim}
use mathlib.Core.List.{List, [], ◌∷◌}
use lib.ListN.{length, get_or, set}
use lib.Seq.{set_out, get_or-set_same, get_or-set_other}
use Rattle.std.specs.List.{list_all}
use Rattle.std.proofs.Math.Dec.{leb-suc-suc}
use lib.Dec.{eqb, ltb, leb, eqb→eq}
use borrow.Author.Tests.{ltb-true, lt-ltb, eqb-true, eqb-false}
use Rattle.edge.specs.Edges.{id_of, is_complemented}
use Rattle.edge.proofs.Tests.{both, both_true, lt_or_le}
use Rattle.ternary_run.specs.Codes.{and3, and_table, not3, edge3, Codes, all_codes, Nine}
use Rattle.ternary_run.proofs.Table.{at}

-- ---- the table: one test over its entries
right : ℕ → ℕ → Bool
right k x = eqb x (and3 (k / 3) (k % 3))

pub table_rule : (a b : ℕ) → a < 3 → b < 3 → get_or and_table (3 * a + b) 0 ≡ and3 a b
unfolding right and3
table_rule a b ha hb =
    let q : (3 * a + b) / 3 ≡ a = omega arith in
    let r : (3 * a + b) % 3 ≡ b = omega arith in
    eqb→eq (get_or and_table (3 * a + b) 0) (and3 ((3 * a + b) / 3) ((3 * a + b) % 3)) (at right and_table tt (3 * a + b) (omega arith)) ∙ ap₂ and3 q r

pub nine : Nine
nine = record { rule = table_rule }

-- ---- what is a code
-- a number that a test picks has what both have
pick : (P : ℕ → Type 0) (t : Bool) (a b : ℕ) → P a → P b → P (cond t a b)
pick P true a b p q = p
pick P false a b p q = q

abbrev Code : ℕ → Type 0
Code n = n < 3

pub and_code : (a b : ℕ) → and3 a b < 3
unfolding and3
and_code a b = pick Code (eqb a 0 || eqb b 0) 0 _ (omega arith) (pick Code (eqb a 1 && eqb b 1) 1 2 (omega arith) (omega arith))

not_code : (a : ℕ) → a < 3 → not3 a < 3
unfolding not3
not_code a h = pick Code (eqb a 0) 1 _ (omega arith) (pick Code (eqb a 1) 0 a (omega arith) h)

pub edge_code : (codes : List ℕ) (e : ℕ) → get_or codes (id_of e) 0 < 3 → edge3 codes e < 3
unfolding edge3
edge_code codes e h = pick Code (is_complemented e) _ _ (not_code _ h) h

-- an edge's code hangs on its row alone
pub edge_same : (codes other : List ℕ) (e : ℕ) → get_or codes (id_of e) 0 ≡ get_or other (id_of e) 0 → edge3 codes e ≡ edge3 other e
unfolding edge3
edge_same codes other e p = rw p

-- ---- no code above 2
pub codes_all : (l : List ℕ) → all_codes l ≡ true → Codes (length l) l
unfolding all_codes
codes_all [] h i l = absurd (omega arith)
codes_all (x ∷ xs) h zero l = ltb-true x 3 (both {a = ltb x 3} h).0
codes_all (x ∷ xs) h (suc i) l = codes_all xs (both {a = ltb x 3} h).1 i (omega arith)

pub all_codes_lem : (l : List ℕ) → Codes (length l) l → all_codes l ≡ true
unfolding all_codes
all_codes_lem [] h = refl
all_codes_lem (x ∷ xs) h = both_true (lt-ltb x 3 (h 0 (omega arith))) (all_codes_lem xs (λ i l. h (suc i) (omega arith)))

-- the library asks the same of a list
pub codes_listed : (l : List ℕ) → list_all (λ (x : ℕ). leb x 2) l ≡ all_codes l
unfolding all_codes
codes_listed [] = refl
codes_listed (x ∷ xs) = ap₂ (λ (a b : Bool). a && b) (sym (leb-suc-suc x 2)) (codes_listed xs)

-- ---- after a store
-- what stood at j has P, and where j is stored to, what is stored has it too
pub stored : (P : ℕ → Type 0) (l : List ℕ) (i v j : ℕ) → (i ≡ j → P v) → P (get_or l j 0) → P (get_or (set l i v) j 0)
stored P l i v j p q = ⊎_elim within (λ (out : length l ≤ i). rw (set_out l i v out) q) (lt_or_le i (length l))
  where
    go : i < length l → (t : Bool) → eqb j i ≡ t → P (get_or (set l i v) j 0)
    go h true e = let k = eqb-true j i e in rw (k, get_or-set_same l i v 0 h) (p (sym k))
    go h false e = rw (get_or-set_other l i j v 0 (eqb-false j i e)) q

    within : i < length l → P (get_or (set l i v) j 0)
    within h = go h (eqb j i) refl
