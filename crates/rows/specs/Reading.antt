-- Reading one row: 1 for what is lent, then 4 for an id not used, then 4 for a row that is no gate. No other row is looked at.
-- Assumes nothing.
use Rattle.std.specs.Prelude.{ℕ, Bool, List, false, cond, ◌≡◌, ltb, eqb, Result}
use Rattle.std.proofs.Common.{ap}
use Rattle.edge.specs.declared.answer.Given.{Given}
use Rattle.edge.specs.declared.answer.Refusal.{Refusal}
use Rattle.edge.specs.Answers.{done, bad_sizes, bad_argument, told, value_or, answer_known, or_else, determined}
use Rattle.edge.specs.Edges.{BoolSeen, bool_seen, bool_determined, EdgeSeen, edge_seen, edge_determined}
use Rattle.rows.specs.Sizes.{rows_fit}
use Rattle.rows.specs.Rows.{word0, word1, leaf_at, gate_at}

-- "an id not used is 4 too"
unfoldable pub row_read : List ℕ → ℕ → ℕ → Given
row_read rows used id = cond (rows_fit used rows) (cond (ltb id used) done bad_argument) bad_sizes

-- "Fanin of a row that isn't a gate: 4"
unfoldable pub gate_read : List ℕ → ℕ → ℕ → Given
gate_read rows used id = or_else (row_read rows used id) (cond (gate_at rows id) done bad_argument)

-- what comes with an answer: the thing read, or nothing
abbrev pub if_done : {A : Type 0} → Given → A → A → A
if_done g read nothing = cond (eqb g.number 0) read nothing

unfoldable pub is_and_call : List ℕ → ℕ → ℕ → BoolSeen
is_and_call rows used id = record { given = row_read rows used id; value = if_done (row_read rows used id) (gate_at rows id) false }

unfoldable pub is_leaf_call : List ℕ → ℕ → ℕ → BoolSeen
is_leaf_call rows used id = record { given = row_read rows used id; value = if_done (row_read rows used id) (leaf_at rows id) false }

pub record FaninSeen : Type 0 where
  pub given : Given
  pub first : ℕ
  pub second : ℕ

abbrev pub fanin_seen : Result (ℕ × ℕ) Refusal → FaninSeen
fanin_seen r = record { given = told r; first = (value_or (0, 0) r).0; second = (value_or (0, 0) r).1 }

unfoldable pub fanin_call : List ℕ → ℕ → ℕ → FaninSeen
fanin_call rows used id =
    record {
      given = gate_read rows used id;
      first = if_done (gate_read rows used id) (word0 rows id) 0;
      second = if_done (gate_read rows used id) (word1 rows id) 0;
    }

-- one of the two
abbrev pub first_seen : FaninSeen → EdgeSeen
first_seen s = record { given = s.given; edge = s.first }

abbrev pub second_seen : FaninSeen → EdgeSeen
second_seen s = record { given = s.given; edge = s.second }

abbrev pub fanin0_call : List ℕ → ℕ → ℕ → EdgeSeen
fanin0_call rows used id = first_seen (fanin_call rows used id)

abbrev pub fanin1_call : List ℕ → ℕ → ℕ → EdgeSeen
fanin1_call rows used id = second_seen (fanin_call rows used id)

-- ---- any two results that a promise allows are equal, call by call
pub is_and_determined : (rows : List ℕ) (used id : ℕ) (r s : Result Bool Refusal) → bool_seen r ≡ is_and_call rows used id → bool_seen s ≡ is_and_call rows used id → r ≡ s
is_and_determined rows used = bool_determined (is_and_call rows used)

pub is_leaf_determined : (rows : List ℕ) (used id : ℕ) (r s : Result Bool Refusal) → bool_seen r ≡ is_leaf_call rows used id → bool_seen s ≡ is_leaf_call rows used id → r ≡ s
is_leaf_determined rows used = bool_determined (is_leaf_call rows used)

pub fanin0_determined : (rows : List ℕ) (used id : ℕ) (r s : Result ℕ Refusal) → edge_seen r ≡ fanin0_call rows used id → edge_seen s ≡ fanin0_call rows used id → r ≡ s
fanin0_determined rows used = edge_determined (fanin0_call rows used)

pub fanin1_determined : (rows : List ℕ) (used id : ℕ) (r s : Result ℕ Refusal) → edge_seen r ≡ fanin1_call rows used id → edge_seen s ≡ fanin1_call rows used id → r ≡ s
fanin1_determined rows used = edge_determined (fanin1_call rows used)

pub fanin_determined : (rows : List ℕ) (used id : ℕ) (r s : Result (ℕ × ℕ) Refusal) → fanin_seen r ≡ fanin_call rows used id → fanin_seen s ≡ fanin_call rows used id → r ≡ s
fanin_determined rows used id r s p q =
    let t = determined (fanin_call rows used) id (fanin_seen r) (fanin_seen s) p q in
    answer_known (0, 0) r s (ap (λ (x : FaninSeen). x.given) t) (ap (λ (x : FaninSeen). (x.first, x.second)) t)
