-- What a gate is written as says what the gate computes.
-- Assumes nothing.
use Prim.Native.Nat.{ℕ, ◌*◌, ◌<◌}
use native.Mathlib.Omega.{arith}
use mathlib.Core.Bool.{Bool, true, false, cond, not, xor, ◌&&◌, ◌||◌, beq, not-not, and_comm}
use mathlib.Core.Path.{◌≡◌, refl, sym, ap, ap₂, ◌∙◌}
use mathlib.Core.List.{List, [], ◌∷◌}
use lib.ListN.{length, get_or}
use lib.Dec.{eqb}
use borrow.Author.Tests.{eqb-true, lt-ltb}
use Rattle.edge.specs.Edges.{edge_of, id_of, is_complemented, complement}
use Rattle.edge.specs.Meaning.{edge_value}
use Rattle.edge.proofs.Tests.{both}
use Rattle.edge.proofs.Meaning.{coding, complementing}
use Rattle.rows.specs.Rows.{word0, word1, gate_at}
use Rattle.rows.specs.Value.{value}
use Rattle.rows.proofs.Laws.{gate_below}
use Rattle.rows.proofs.Value.{value_gate}
use Rattle.graph.specs.Leaves.{used_edge}
use Rattle.root_marks.specs.Arguments.{every}
use Rattle.gate_clauses.specs.declared.Shape.{Shape}
use Rattle.gate_clauses.specs.declared.Shape.TheVariants.{Unwritten, Plain, Xor, Ite}
use Rattle.gate_clauses.specs.Shapes.{is_xor, ite_or, pairing, recognised, complemented_gate, shape_of, operands, clauses_of}
use Rattle.cnf.specs.Meaning.{holds, meets}
use Rattle.cnf.proofs.Booleans.{cond_case, plain_clauses, xor_clauses, ite_clauses, xor_gate, ite_gate}

-- ---- literals
even : (v : ℕ → Bool) (i : ℕ) → edge_value v (2 * i) ≡ v i
unfolding edge_value
even v i =
    let e : 2 * i ≡ edge_of i false = omega arith in
    rw (e, coding.sign i false, coding.row i false)

negated : (v : ℕ → Bool) (e : ℕ) → edge_value v (complement e) ≡ not (edge_value v e)
negated = complementing.negates

-- an edge that is another's complement
turned : (v : ℕ → Bool) (x k : ℕ) → x ≡ complement k → edge_value v k ≡ not (edge_value v x)
turned v x k h = sym (rw (h, negated, not-not))

-- ---- the formula of a shape over its operands; a row that is not written stays what it is
unfoldable pub meaning : Bool → (ℕ → Bool) → Shape → Bool
meaning own v Unwritten = own
meaning own v (Plain a b) = edge_value v a && edge_value v b
meaning own v (Xor a b) = xor (edge_value v a) (edge_value v b)
meaning own v (Ite c t e) = cond (edge_value v c) (edge_value v t) (edge_value v e)

-- the clauses are met exactly if the row's value is the formula's
pub clauses_say : (v : ℕ → Bool) (i : ℕ) (s : Shape) → meets v (clauses_of (2 * i) s) ≡ beq (v i) (meaning (v i) v s)
unfolding meets holds clauses_of meaning
clauses_say v i Unwritten = same (v i)
  where
    same : (a : Bool) → true ≡ beq a a
    same true = refl
    same false = refl
clauses_say v i (Plain a b) = simp (negated, even) (plain_clauses (v i) (edge_value v a) (edge_value v b))
clauses_say v i (Xor a b) = simp (negated, even) (xor_clauses (v i) (edge_value v a) (edge_value v b))
clauses_say v i (Ite c t e) = simp (negated, even) (ite_clauses (v i) (edge_value v c) (edge_value v t) (edge_value v e))

-- the formula depends on its operands alone
pub meaning_same : (own : Bool) (v w : ℕ → Bool) (s : Shape) → ((k : ℕ) → k < length (operands s) → edge_value v (get_or (operands s) k 0) ≡ edge_value w (get_or (operands s) k 0))
    → meaning own v s ≡ meaning own w s
unfolding meaning operands
meaning_same own v w Unwritten h = refl
meaning_same own v w (Plain a b) h = ap₂ ◌&&◌ (h 0 (omega arith)) (h 1 (omega arith))
meaning_same own v w (Xor a b) h = ap₂ xor (h 0 (omega arith)) (h 1 (omega arith))
meaning_same own v w (Ite c t e) h = rw (h 0 (omega arith), h 1 (omega arith), h 2 (omega arith))

-- ---- what is wanted of the shape of gate i, whose value is w: its formula has that value, and its operands stand below
pub record Fits (v : ℕ → Bool) (i : ℕ) (w : Bool) (s : Shape) : Type 0 where
  pub means : (own : Bool) → meaning own v s ≡ w
  pub low : every (used_edge i) (operands s) ≡ true

low_two : (i a b : ℕ) → id_of a < i → id_of b < i → every (used_edge i) (a ∷ b ∷ []) ≡ true
unfolding every
low_two i a b p q = rw (lt-ltb _ _ p, lt-ltb _ _ q)

low_three : (i a b c : ℕ) → id_of a < i → id_of b < i → id_of c < i → every (used_edge i) (a ∷ b ∷ c ∷ []) ≡ true
unfolding every
low_three i a b c p q r = rw (lt-ltb _ _ p, lt-ltb _ _ q, lt-ltb _ _ r)

same_row : (i e : ℕ) → id_of e < i → id_of (complement e) < i
same_row i e l = rw (complementing.row e) l

-- two complemented gates (x, y) and (k, z), where x is the complement of k: x chooses
chooses : (v : ℕ → Bool) (i : ℕ) (w : Bool) (x y k z : ℕ) → x ≡ complement k → (not (edge_value v x && edge_value v y) && not (edge_value v k && edge_value v z)) ≡ w
    → id_of x < i → id_of y < i → id_of z < i → Fits v i w (Ite x (complement y) (complement z))
unfolding meaning operands
chooses v i w x y k z h e lx ly lz =
    record {
      means = λ own. simp negated (sym (ite_gate (edge_value v x) (edge_value v y) (edge_value v z)) ∙ rw (← (turned v x k h)) e);
      low = low_three i x (complement y) (complement z) lx (same_row i y ly) (same_row i z lz);
    }

ite_or_lem : (v : ℕ → Bool) (i : ℕ) (w : Bool) (plain : Shape) (c t e : ℕ) → Fits v i w plain → Fits v i w (Ite c t e) → Fits v i w (ite_or plain c t e)
unfolding ite_or
ite_or_lem v i w plain c t e p f = cond_case (Fits v i w) (eqb (id_of c) (id_of t) || eqb (id_of c) (id_of e) || eqb (id_of t) (id_of e)) (λ _. p) (λ _. f)

-- the gate of two complemented gates (a, b) and (c, d), all of whose fanins stand below row i
module _ (v : ℕ → Bool) (i : ℕ) (w : Bool) (plain : Shape) (p : Fits v i w plain) (a b c d : ℕ)
    (e : (not (edge_value v a && edge_value v b) && not (edge_value v c && edge_value v d)) ≡ w)
    (la : id_of a < i) (lb : id_of b < i) (lc : id_of c < i) (ld : id_of d < i) where
  pairing_fits : Fits v i w (pairing plain a b c d)
  unfolding pairing
  pairing_fits =
      cond_case (Fits v i w) (eqb a (complement c)) (λ h. ite_or_lem v i w plain _ _ _ p (chooses v i w a b c d (eqb-true _ _ h) e la lb ld)) λ _. cond_case (Fits v i w) (eqb a (complement d))
      (λ h. ite_or_lem v i w plain _ _ _ p (chooses v i w a b d c (eqb-true _ _ h) (rw (and_comm (edge_value v d) (edge_value v c)) e) la lb lc)) λ _. cond_case (Fits v i w) (eqb b (complement c))
      (λ h. ite_or_lem v i w plain _ _ _ p (chooses v i w b a c d (eqb-true _ _ h) (rw (and_comm (edge_value v b) (edge_value v a)) e) lb la ld)) λ _. cond_case (Fits v i w) (eqb b (complement d))
      (λ h. ite_or_lem v i w plain _ _ _ p (chooses v i w b a d c (eqb-true _ _ h) (rw (and_comm (edge_value v b) (edge_value v a), and_comm (edge_value v d) (edge_value v c)) e) lb la lc)) λ _. p

  xor_fits : is_xor a b c d ≡ true → Fits v i w (Xor a b)
  unfolding is_xor meaning operands
  xor_fits h =
      let t = both {a = eqb a (complement c) && eqb b (complement d)} {b = not (eqb (id_of a) (id_of b))} h in
      let q = both {a = eqb a (complement c)} {b = eqb b (complement d)} t.0 in
      record {
        means = λ own. sym (xor_gate (edge_value v a) (edge_value v b)) ∙ rw (← (turned v a c (eqb-true a (complement c) q.0)), ← (turned v b d (eqb-true b (complement d) q.1))) e;
        low = low_two i a b la lb;
      }

  recognised_fits : Fits v i w (recognised plain a b c d)
  unfolding recognised
  recognised_fits = cond_case (Fits v i w) (is_xor a b c d) xor_fits (λ _. pairing_fits)

-- ---- the shape of a gate of a table
module _ (shortcuts : Bool) (rows : List ℕ) (leaf : ℕ → Bool) (i : ℕ) (g : gate_at rows i ≡ true) where
  abbrev v : ℕ → Bool
  v = value rows leaf

  abbrev f₀ : ℕ
  f₀ = word0 rows i

  abbrev f₁ : ℕ
  f₁ = word1 rows i

  plain_fits : Fits v i (v i) (Plain f₀ f₁)
  unfolding meaning operands
  plain_fits =
      let l = gate_below i f₀ f₁ g in
      record { means = λ own. sym (value_gate rows leaf i g); low = low_two i f₀ f₁ l.0 l.1 }

  -- a complemented gate
  inner_value : (e : ℕ) → is_complemented e ≡ true → gate_at rows (id_of e) ≡ true
      → edge_value v e ≡ not (edge_value v (word0 rows (id_of e)) && edge_value v (word1 rows (id_of e)))
  unfolding edge_value
  inner_value e o h = rw o (ap not (value_gate rows leaf (id_of e) h))

  inner_fits : complemented_gate rows f₀ && complemented_gate rows f₁ ≡ true
      → Fits v i (v i) (recognised (Plain f₀ f₁) (word0 rows (id_of f₀)) (word1 rows (id_of f₀)) (word0 rows (id_of f₁)) (word1 rows (id_of f₁)))
  inner_fits h =
      let t = both {a = complemented_gate rows f₀} {b = complemented_gate rows f₁} h in
      let p = both {a = is_complemented f₀} {b = gate_at rows (id_of f₀)} t.0 in
      let q = both {a = is_complemented f₁} {b = gate_at rows (id_of f₁)} t.1 in
      let l = gate_below i f₀ f₁ g in
      let m = gate_below (id_of f₀) (word0 rows (id_of f₀)) (word1 rows (id_of f₀)) p.1 in
      let n = gate_below (id_of f₁) (word0 rows (id_of f₁)) (word1 rows (id_of f₁)) q.1 in
      recognised_fits v i (v i) (Plain f₀ f₁) plain_fits _ _ _ _ (sym (value_gate rows leaf i g ∙ ap₂ ◌&&◌ (inner_value f₀ p.0 p.1) (inner_value f₁ q.0 q.1)))
      (omega arith) (omega arith) (omega arith) (omega arith)

  pub shape_fits : Fits v i (v i) (shape_of shortcuts rows f₀ f₁)
  unfolding shape_of
  shape_fits =
      cond_case (Fits v i (v i)) (shortcuts && (complemented_gate rows f₀ && complemented_gate rows f₁))
      (λ h. inner_fits (both {a = shortcuts} {b = complemented_gate rows f₀ && complemented_gate rows f₁} h).1)
      (λ _. plain_fits)
