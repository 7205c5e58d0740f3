-- What codes, complements and constants mean.
-- Assumes nothing.
use Prim.Native.Nat.{ℕ, ◌+◌, ◌-◌, ◌*◌, ◌/◌, ◌%◌}
use native.Mathlib.Omega.{arith}
use mathlib.Core.Bool.{Bool, true, false, cond, not, xor, not-not}
use mathlib.Core.Path.{◌≡◌, refl, sym, ◌∙◌}
use borrow.Author.Tests.{eqb-true, eqb-false, eq-eqb, ne_eqb}
use mathlib.Core.List.{List}
use lib.ListN.{length, get_or}
use lib.Dec.{ltb, leb, eqb}
use Rattle.edge.specs.Answers.{bad_argument}
use Rattle.edge.specs.Edges.{edge_of, id_of, is_complemented, max_id, complement, complement_if, constant_of, EdgeSeen, edge_done, edge_refused, new_call, map_call}
use Rattle.edge.specs.Meaning.{edge_value, Coding, Complementing, Mapping, Constants}

-- ---- a code is its row and its sign
row : (id : ℕ) (c : Bool) → id_of (edge_of id c) ≡ id
row id true = omega arith
row id false = omega arith

sign : (id : ℕ) (c : Bool) → is_complemented (edge_of id c) ≡ c
sign id true = eq-eqb ((2 * id + 1) % 2) 1 (omega arith)
sign id false = ne_eqb ((2 * id + 0) % 2) 1 (λ (e : (2 * id + 0) % 2 ≡ 1). omega arith)

code : (e : ℕ) → edge_of (id_of e) (is_complemented e) ≡ e
code e = go (is_complemented e) refl
  where
    go : (t : Bool) → is_complemented e ≡ t → edge_of (id_of e) t ≡ e
    go true h = omega (arith, eqb-true (e % 2) 1 h)
    go false h = let n = eqb-false (e % 2) 1 h in omega arith

pub coding : Coding
coding = record { row = row; sign = sign; code = code }

-- ---- the complement, by the code's parity
pub complement_odd : (e : ℕ) → e % 2 ≡ 1 → complement e ≡ e - 1
unfolding complement
complement_odd e h = rw (eq-eqb (e % 2) 1 h) (omega arith)

pub complement_even : (e : ℕ) → (e % 2 ≡ 1 → ⊥) → complement e ≡ e + 1
unfolding complement
complement_even e h = rw (ne_eqb (e % 2) 1 h) (omega arith)

-- the same by its two parts
pub complement_parts : (e : ℕ) → complement e ≡ 2 * (e / 2) + (1 - e % 2)
complement_parts e = go (eqb (e % 2) 1) refl
  where
    go : (t : Bool) → eqb (e % 2) 1 ≡ t → complement e ≡ 2 * (e / 2) + (1 - e % 2)
    go true h =
        let odd = eqb-true (e % 2) 1 h in
        let parts : e - 1 ≡ 2 * (e / 2) + (1 - e % 2) = omega arith in
        complement_odd e odd ∙ parts
    go false h =
        let even = eqb-false (e % 2) 1 h in
        let parts : e + 1 ≡ 2 * (e / 2) + (1 - e % 2) = omega arith in
        complement_even e even ∙ parts

-- the code of a row, signed
pub even_signed : (id : ℕ) (c : Bool) → complement_if c (2 * id) ≡ edge_of id c
even_signed id true =
    let h : 2 * id % 2 ≡ 1 → ⊥ = λ (e : 2 * id % 2 ≡ 1). omega arith in
    complement_even (2 * id) h
even_signed id false = omega arith

complement_row : (e : ℕ) → id_of (complement e) ≡ id_of e
unfolding complement
complement_row e = row (id_of e) (not (is_complemented e))

pub complement_sign : (e : ℕ) → is_complemented (complement e) ≡ not (is_complemented e)
unfolding complement
complement_sign e = sign (id_of e) (not (is_complemented e))

negates : (v : ℕ → Bool) (e : ℕ) → edge_value v (complement e) ≡ not (edge_value v e)
unfolding edge_value
negates v e = rw (complement_sign e, complement_row e) (go (is_complemented e) (v (id_of e)))
  where
    go : (c b : Bool) → cond (not c) (not b) b ≡ not (cond c (not b) b)
    go true b = sym (not-not b)
    go false b = refl

twice : (e : ℕ) → complement (complement e) ≡ e
twice e = sym (code (complement (complement e))) ∙ (same ∙ code e)
  where
    same : edge_of (id_of (complement (complement e))) (is_complemented (complement (complement e))) ≡ edge_of (id_of e) (is_complemented e)
    same =
        rw (complement_sign (complement e), complement_sign e, not-not (is_complemented e), complement_row (complement e), complement_row e)

composes : (a b : Bool) (e : ℕ) → complement_if b (complement_if a e) ≡ complement_if (xor a b) e
unfolding xor
composes true true e = twice e
composes true false e = refl
composes false true e = refl
composes false false e = refl

if_means : (v : ℕ → Bool) (a : Bool) (e : ℕ) → edge_value v (complement_if a e) ≡ cond a (not (edge_value v e)) (edge_value v e)
if_means v true e = negates v e
if_means v false e = refl

pub complementing : Complementing
complementing = record { row = complement_row; negates = negates; twice = twice; composes = composes; if_means = if_means }

-- ---- a done map gives the edge of the row that it maps to
mapped : (e : ℕ) (map : List ℕ) → (map_call e map).given.number ≡ 0 → (map_call e map).edge ≡ edge_of (get_or map (id_of e) 0) (is_complemented e)
unfolding map_call new_call
mapped e map = go (ltb (id_of e) (length map)) (leb (get_or map (id_of e) 0) max_id)
  where
    to : EdgeSeen
    to = edge_done (edge_of (get_or map (id_of e) 0) (is_complemented e))

    go : (s t : Bool) → (cond s (cond t to (edge_refused bad_argument)) (edge_refused bad_argument)).given.number ≡ 0
        → (cond s (cond t to (edge_refused bad_argument)) (edge_refused bad_argument)).edge ≡ edge_of (get_or map (id_of e) 0) (is_complemented e)
    go true true z = refl
    go true false z = absurd (omega arith)
    go false t z = absurd (omega arith)

pub mapping : Mapping
mapping =
    record {
      row = λ e map z. rw (mapped e map z) (row (get_or map (id_of e) 0) (is_complemented e));
      sign = λ e map z. rw (mapped e map z) (sign (get_or map (id_of e) 0) (is_complemented e));
    }

-- ---- constants
constant_means : (v : ℕ → Bool) → v 0 ≡ false → (b : Bool) → edge_value v (constant_of b) ≡ b
unfolding edge_value
constant_means v z true = rw z
constant_means v z false = z

pub constants : Constants
constants = record { means = constant_means }
