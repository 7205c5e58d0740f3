-- What a gate is written as, and its clauses: "a clause is a length word and literals; literal codes are edge codes".
-- Assumes nothing.
use Rattle.std.specs.Prelude.{ℕ, ◌+◌, ◌≤◌, ◌≡◌, Bool, cond, not, ◌&&◌, ◌||◌, List, [], ◌∷◌, ◌++◌, length, eqb}
use Rattle.std.proofs.lemmas.List.Edits.{sets}
use Rattle.edge.specs.Edges.{id_of, is_complemented, complement}
use Rattle.rows.specs.Rows.{word0, word1, gate_at}
use Rattle.gate_clauses.specs.declared.Shape.{Shape}
use Rattle.gate_clauses.specs.declared.Shape.TheVariants.{Unwritten, Plain, Xor, Ite}

-- the complement of an edge, as document 01 writes it
infixr 90 ¬◌
abbrev ¬◌ : ℕ → ℕ
¬ e = complement e

abbrev two : ℕ → ℕ → List ℕ
two x y = x ∷ y ∷ []

abbrev three : ℕ → ℕ → ℕ → List ℕ
three x y z = x ∷ y ∷ z ∷ []

-- ---- the shape of a gate
-- the gates (a, b) and (c, d): "the first's two fanins are the complements of the second's, place by place; ids differ"
unfoldable pub is_xor : ℕ → ℕ → ℕ → ℕ → Bool
is_xor a b c d = eqb a (¬ c) && eqb b (¬ d) && not (eqb (id_of a) (id_of b))

-- "any two of the three ids equal: not recognised", and the gate stays plain
unfoldable pub ite_or : Shape → ℕ → ℕ → ℕ → Shape
ite_or plain c t e = cond (eqb (id_of c) (id_of t) || eqb (id_of c) (id_of e) || eqb (id_of t) (id_of e)) plain (Ite c t e)

-- "the four pairings in the order of `is_ite`"
unfoldable pub pairing : Shape → ℕ → ℕ → ℕ → ℕ → Shape
pairing plain a b c d =
    cond (eqb a (¬ c)) (ite_or plain a (¬ b) (¬ d))
    (cond (eqb a (¬ d)) (ite_or plain a (¬ b) (¬ c))
    (cond (eqb b (¬ c)) (ite_or plain b (¬ a) (¬ d))
    (cond (eqb b (¬ d)) (ite_or plain b (¬ a) (¬ c)) plain)))

-- "xor is tried first, then if-then-else, then plain"
unfoldable pub recognised : Shape → ℕ → ℕ → ℕ → ℕ → Shape
recognised plain a b c d = cond (is_xor a b c d) (Xor a b) (pairing plain a b c d)

-- the edge is a complemented gate
abbrev pub complemented_gate : List ℕ → ℕ → Bool
complemented_gate rows e = is_complemented e && gate_at rows (id_of e)

-- the shape of the gate (f, g), "with shortcuts on" only where "both fanins [are] complemented gates"
unfoldable pub shape_of : Bool → List ℕ → ℕ → ℕ → Shape
shape_of shortcuts rows f g =
    cond (shortcuts && (complemented_gate rows f && complemented_gate rows g))
    (recognised (Plain f g) (word0 rows (id_of f)) (word1 rows (id_of f)) (word0 rows (id_of g)) (word1 rows (id_of g)))
    (Plain f g)

-- the edges that it is written over, which "become referenced"
unfoldable pub operands : Shape → List ℕ
operands Unwritten = []
operands (Plain a b) = two a b
operands (Xor a b) = two a b
operands (Ite c t e) = three c t e

-- ---- its clauses, as document 01 has them, where g is the gate's own literal
unfoldable pub clauses_of : ℕ → Shape → List (List ℕ)
clauses_of g Unwritten = []
clauses_of g (Plain a b) = two (¬ g) a ∷ two (¬ g) b ∷ three g (¬ a) (¬ b) ∷ []
clauses_of g (Xor a b) = three (¬ g) a b ∷ three (¬ g) (¬ a) (¬ b) ∷ three g (¬ a) b ∷ three g a (¬ b) ∷ []
clauses_of g (Ite c t e) = three (¬ g) (¬ c) t ∷ three (¬ g) c e ∷ three g (¬ c) (¬ t) ∷ three g c (¬ e) ∷ []

-- "First comes the unit clause [1, 1]": row 0 is false
abbrev pub unit : List ℕ
unit = 1 ∷ []

-- ---- "a length word and literals", clause by clause
unfoldable pub words : List (List ℕ) → List ℕ
words [] = []
words (c ∷ cs) = length c ∷ (c ++ words cs)

-- the words stand from a place on, and nothing else is changed, where the buffer has room for them
abbrev pub WrittenIfRoom : List ℕ → ℕ → List ℕ → List ℕ → Type 0
WrittenIfRoom before at ws after = at + length ws ≤ length before → after ≡ sets before at ws
