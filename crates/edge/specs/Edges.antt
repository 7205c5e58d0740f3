-- Edge codes: "an edge is one word, 2·id + 1 if complemented, else 2·id".
-- Assumes nothing.
use Rattle.std.specs.Prelude.{ℕ, ◌+◌, ◌*◌, ◌/◌, ◌%◌, Bool, true, false, cond, not, List, ◌≡◌, eqb, ltb, leb, length, get_or, Option, Some, None, Result}
use Rattle.std.proofs.Common.{ap}
use Rattle.edge.specs.Answers.{done, bad_argument, told, value_or, answer_known, determined}
use Rattle.edge.specs.declared.answer.Given.{Given}
use Rattle.edge.specs.declared.answer.Refusal.{Refusal}

-- the code of the edge to a row
abbrev pub edge_of : ℕ → Bool → ℕ
edge_of id complemented = 2 * id + cond complemented 1 0

-- the row of an edge, and whether it is complemented
abbrev pub id_of : ℕ → ℕ
id_of e = e / 2

abbrev pub is_complemented : ℕ → Bool
is_complemented e = eqb (e % 2) 1

-- the largest id whose two edges are words
abbrev pub max_id : ℕ
max_id = 2147483647

-- the same row with the other sign
unfoldable pub complement : ℕ → ℕ
complement e = edge_of (id_of e) (not (is_complemented e))

abbrev pub complement_if : Bool → ℕ → ℕ
complement_if flip e = cond flip (complement e) e

-- ---- constants: "0 is false and 1 is true", "`AigEdge::constant(true)` is id 0 complemented"
abbrev pub constant_of : Bool → ℕ
constant_of polarity = edge_of 0 polarity

unfoldable pub which_constant : ℕ → Option Bool
which_constant e = cond (eqb e (constant_of true)) (Some true) (cond (eqb e (constant_of false)) (Some false) None)

-- ---- calls that answer a truth value
pub record BoolSeen : Type 0 where
  pub given : Given
  pub value : Bool

abbrev pub bool_seen : Result Bool Refusal → BoolSeen
bool_seen r = record { given = told r; value = value_or false r }

abbrev pub bool_done : Bool → BoolSeen
bool_done v = record { given = done; value = v }

abbrev pub bool_refused : Given → BoolSeen
bool_refused t = record { given = t; value = false }

abbrev pub value_of : Option Bool → BoolSeen
value_of (Some v) = bool_done v
value_of None = bool_refused bad_argument

-- "`to_constant` of another edge: 4"
abbrev pub to_constant_call : ℕ → BoolSeen
to_constant_call e = value_of (which_constant e)

-- ---- calls that answer an edge
pub record EdgeSeen : Type 0 where
  pub given : Given
  pub edge : ℕ

abbrev pub edge_seen : Result ℕ Refusal → EdgeSeen
edge_seen r = record { given = told r; edge = value_or 0 r }

abbrev pub edge_done : ℕ → EdgeSeen
edge_done e = record { given = done; edge = e }

abbrev pub edge_refused : Given → EdgeSeen
edge_refused t = record { given = t; edge = 0 }

unfoldable pub new_call : ℕ → Bool → EdgeSeen
new_call id complemented = cond (leb id max_id) (edge_done (edge_of id complemented)) (edge_refused bad_argument)

-- "`map` uses a lent map; an id outside it or mapped above 2,147,483,647: 4"
unfoldable pub map_call : ℕ → List ℕ → EdgeSeen
map_call e map = cond (ltb (id_of e) (length map)) (new_call (get_or map (id_of e) 0) (is_complemented e)) (edge_refused bad_argument)

-- ---- any two results that a promise allows are equal, call by call
pub bool_determined : {L : Type 0} (f : L → BoolSeen) (l : L) (r s : Result Bool Refusal) → bool_seen r ≡ f l → bool_seen s ≡ f l → r ≡ s
bool_determined f l r s p q =
    let t = determined f l (bool_seen r) (bool_seen s) p q in
    answer_known false r s (ap (λ (x : BoolSeen). x.given) t) (ap (λ (x : BoolSeen). x.value) t)

pub edge_determined : {L : Type 0} (f : L → EdgeSeen) (l : L) (r s : Result ℕ Refusal) → edge_seen r ≡ f l → edge_seen s ≡ f l → r ≡ s
edge_determined f l r s p q =
    let t = determined f l (edge_seen r) (edge_seen s) p q in
    answer_known 0 r s (ap (λ (x : EdgeSeen). x.given) t) (ap (λ (x : EdgeSeen). x.edge) t)

pub new_determined : (id : ℕ) (c : Bool) (r s : Result ℕ Refusal) → edge_seen r ≡ new_call id c → edge_seen s ≡ new_call id c → r ≡ s
new_determined id = edge_determined (new_call id)

pub map_determined : (e : ℕ) (map : List ℕ) (r s : Result ℕ Refusal) → edge_seen r ≡ map_call e map → edge_seen s ≡ map_call e map → r ≡ s
map_determined e = edge_determined (map_call e)

pub to_constant_determined : (e : ℕ) (r s : Result Bool Refusal) → bool_seen r ≡ to_constant_call e → bool_seen s ≡ to_constant_call e → r ≡ s
to_constant_determined = bool_determined to_constant_call

pub node_id_determined : (e r s : ℕ) → r ≡ id_of e → s ≡ id_of e → r ≡ s
node_id_determined = determined id_of

pub compl_determined : (e : ℕ) (r s : Bool) → r ≡ is_complemented e → s ≡ is_complemented e → r ≡ s
compl_determined = determined is_complemented

pub not_determined : (e r s : ℕ) → r ≡ complement e → s ≡ complement e → r ≡ s
not_determined = determined complement

pub not_if_determined : (flip : Bool) (e r s : ℕ) → r ≡ complement_if flip e → s ≡ complement_if flip e → r ≡ s
not_if_determined flip = determined (complement_if flip)

pub constant_determined : (polarity : Bool) (r s : ℕ) → r ≡ constant_of polarity → s ≡ constant_of polarity → r ≡ s
constant_determined = determined constant_of

pub is_const_determined : (e : ℕ) (r s : Bool) → r ≡ eqb (id_of e) 0 → s ≡ eqb (id_of e) 0 → r ≡ s
is_const_determined = determined (λ (e : ℕ). eqb (id_of e) 0)

pub is_constant_determined : (e : ℕ) (polarity r s : Bool) → r ≡ eqb e (constant_of polarity) → s ≡ eqb e (constant_of polarity) → r ≡ s
is_constant_determined e = determined (λ (b : Bool). eqb e (constant_of b))

pub try_to_constant_determined : (e : ℕ) (r s : Option Bool) → r ≡ which_constant e → s ≡ which_constant e → r ≡ s
try_to_constant_determined = determined which_constant
