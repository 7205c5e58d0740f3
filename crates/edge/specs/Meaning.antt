-- What an edge means, from the AIGER paper: an even literal is its variable, an odd one that variable's negation, and 0 is false.
-- Assumes nothing.
use Rattle.std.specs.Prelude.{ℕ, Bool, false, cond, not, ◌≡◌, List, get_or}
use Rattle.std.specs.Bool.{xor}
use Rattle.edge.specs.Edges.{edge_of, id_of, is_complemented, complement, complement_if, constant_of, map_call}

-- the value of an edge, where v gives the rows' values
unfoldable pub edge_value : (ℕ → Bool) → ℕ → Bool
edge_value v e = cond (is_complemented e) (not (v (id_of e))) (v (id_of e))

-- a code is its row and its sign, and nothing else
pub record Coding : Type 0 where
  pub row : (id : ℕ) (c : Bool) → id_of (edge_of id c) ≡ id
  pub sign : (id : ℕ) (c : Bool) → is_complemented (edge_of id c) ≡ c
  pub code : (e : ℕ) → edge_of (id_of e) (is_complemented e) ≡ e

-- complementing keeps the row and negates the value; done twice it is as if it had not been done
pub record Complementing : Type 0 where
  pub row : (e : ℕ) → id_of (complement e) ≡ id_of e
  pub negates : (v : ℕ → Bool) (e : ℕ) → edge_value v (complement e) ≡ not (edge_value v e)
  pub twice : (e : ℕ) → complement (complement e) ≡ e
  pub composes : (a b : Bool) (e : ℕ) → complement_if b (complement_if a e) ≡ complement_if (xor a b) e
  pub if_means : (v : ℕ → Bool) (a : Bool) (e : ℕ) → edge_value v (complement_if a e) ≡ cond a (not (edge_value v e)) (edge_value v e)

-- a mapped edge goes to the row that the map gives, with its own sign
pub record Mapping : Type 0 where
  pub row : (e : ℕ) (map : List ℕ) → (map_call e map).given.number ≡ 0 → id_of (map_call e map).edge ≡ get_or map (id_of e) 0
  pub sign : (e : ℕ) (map : List ℕ) → (map_call e map).given.number ≡ 0 → is_complemented (map_call e map).edge ≡ is_complemented e

-- where row 0 is false, a constant edge has its own value
pub record Constants : Type 0 where
  pub means : (v : ℕ → Bool) → v 0 ≡ false → (b : Bool) → edge_value v (constant_of b) ≡ b
