-- Three-valued codes: "0 false, 1 true, 2 unknown".
-- Assumes nothing.
use Rattle.std.specs.Prelude.{ℕ, ◌+◌, ◌*◌, ◌<◌, ◌≡◌, Bool, true, cond, ◌&&◌, ◌||◌, List, [], ◌∷◌, get_or, eqb, ltb}
use Rattle.edge.specs.Edges.{id_of, is_complemented}

abbrev pub unknown : ℕ
unknown = 2

-- the gate's rule: false if one is false, true if both are true, else unknown
unfoldable pub and3 : ℕ → ℕ → ℕ
and3 a b = cond (eqb a 0 || eqb b 0) 0 (cond (eqb a 1 && eqb b 1) 1 unknown)

-- "one table with rows and columns in the order false, true, unknown: 0 0 0, 0 1 2, 0 2 2"
abbrev pub and_table : List ℕ
and_table = 0 ∷ 0 ∷ 0 ∷ 0 ∷ 1 ∷ 2 ∷ 0 ∷ 2 ∷ 2 ∷ []

-- "NOT swaps 0 and 1"
unfoldable pub not3 : ℕ → ℕ
not3 a = cond (eqb a 0) 1 (cond (eqb a 1) 0 a)

-- the code of an edge, where codes holds the rows' codes
unfoldable pub edge3 : List ℕ → ℕ → ℕ
edge3 codes e = cond (is_complemented e) (not3 (get_or codes (id_of e) 0)) (get_or codes (id_of e) 0)

-- the first n of the list are codes
abbrev pub Codes : ℕ → List ℕ → Type 0
Codes n codes = (i : ℕ) → i < n → get_or codes i 0 < 3

-- no "code above 2"
unfoldable pub all_codes : List ℕ → Bool
all_codes [] = true
all_codes (x ∷ xs) = ltb x 3 && all_codes xs

-- the table obeys the gate's rule
pub record Nine : Type 0 where
  pub rule : (a b : ℕ) → a < 3 → b < 3 → get_or and_table (3 * a + b) 0 ≡ and3 a b
