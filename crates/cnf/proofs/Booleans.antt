-- Laws of Booleans: what the clauses of each shape say, and what the gate of two complemented gates is.
-- Assumes nothing.
use mathlib.Core.Bool.{Bool, true, false, cond, not, xor, ◌&&◌, ◌||◌, beq}
use mathlib.Core.Path.{◌≡◌, refl, sym}

-- a fact of `cond t x y`, from what the test says in each branch
pub cond_case : {A : Type 0} (P : A → Type 0) (t : Bool) {x y : A} → (t ≡ true → P x) → (t ≡ false → P y) → P (cond t x y)
cond_case P true f g = f refl
cond_case P false f g = g refl

pub beq_true : (a b : Bool) → beq a b ≡ true → a ≡ b
beq_true true true h = refl
beq_true true false h = sym h
beq_true false true h = h
beq_true false false h = refl

pub beq_same : (a : Bool) → beq a a ≡ true
beq_same true = refl
beq_same false = refl

-- ---- the clauses of a shape say that g is its formula
pub plain_clauses : (g a b : Bool) → ((not g || (a || false)) && ((not g || (b || false)) && ((g || (not a || (not b || false))) && true))) ≡ beq g (a && b)
plain_clauses true true true = refl
plain_clauses true true false = refl
plain_clauses true false b = refl
plain_clauses false true true = refl
plain_clauses false true false = refl
plain_clauses false false b = refl

pub xor_clauses : (g a b : Bool)
    → ((not g || (a || (b || false))) && ((not g || (not a || (not b || false))) && ((g || (not a || (b || false))) && ((g || (a || (not b || false))) && true))))
    ≡ beq g (xor a b)
unfolding xor
xor_clauses true true true = refl
xor_clauses true true false = refl
xor_clauses true false true = refl
xor_clauses true false false = refl
xor_clauses false true true = refl
xor_clauses false true false = refl
xor_clauses false false true = refl
xor_clauses false false false = refl

pub ite_clauses : (g c t e : Bool)
    → ((not g || (not c || (t || false))) && ((not g || (c || (e || false))) && ((g || (not c || (not t || false))) && ((g || (c || (not e || false))) && true))))
    ≡ beq g (cond c t e)
ite_clauses true true true e = refl
ite_clauses true true false e = refl
ite_clauses true false t true = refl
ite_clauses true false t false = refl
ite_clauses false true true e = refl
ite_clauses false true false e = refl
ite_clauses false false t true = refl
ite_clauses false false t false = refl

-- ---- the gate of two complemented gates
pub xor_gate : (x y : Bool) → (not (x && y) && not (not x && not y)) ≡ xor x y
unfolding xor
xor_gate true true = refl
xor_gate true false = refl
xor_gate false true = refl
xor_gate false false = refl

pub ite_gate : (x y z : Bool) → (not (x && y) && not (not x && z)) ≡ cond x (not y) (not z)
ite_gate true true z = refl
ite_gate true false z = refl
ite_gate false y z = refl
