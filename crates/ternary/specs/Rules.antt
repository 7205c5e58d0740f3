-- The rules that a three-valued run obeys.
-- Assumes nothing.
use Rattle.std.specs.Prelude.{ℕ, ◌<◌, ◌≡◌, true, List, length, get_or}
use Rattle.rows.specs.Rows.{word0, word1, leaf_at, gate_at}
use Rattle.graph.specs.Graph.{Lent}
use Rattle.ternary_run.specs.Codes.{unknown, and3, edge3}
use Rattle.ternary_run.specs.Run.{input_row, latch_row, run}

-- inputs or latches list row x; "a leaf in neither list is an orphan"
pub data Listed (g : Lent) (x : ℕ) : Type 0 where
  as_input : (i : ℕ) → i < g.counts.inputs → input_row g.inputs i ≡ x → Listed g x
  as_latch : (i : ℕ) → i < g.counts.latches → latch_row g.latches i ≡ x → Listed g x

pub record Rules (g : Lent) (input state codes : List ℕ) : Type 0 where
  pub long : length codes ≡ g.counts.rows
  pub constant : get_or codes 0 0 ≡ 0
  pub inputs : (i : ℕ) → i < g.counts.inputs → get_or codes (input_row g.inputs i) 0 ≡ get_or input i 0
  pub latches : (i : ℕ) → i < g.counts.latches → get_or codes (latch_row g.latches i) 0 ≡ get_or state i 0
  pub orphans : (x : ℕ) → x < g.counts.rows → leaf_at g.rows x ≡ true → (Listed g x → ⊥) → get_or codes x 0 ≡ unknown
  pub gates : (i : ℕ) → i < g.counts.rows → gate_at g.rows i ≡ true → get_or codes i 0 ≡ and3 (edge3 codes (word0 g.rows i)) (edge3 codes (word1 g.rows i))

-- the run obeys the rules, and nothing else does
pub record Obeys (g : Lent) (input state : List ℕ) : Type 0 where
  pub obeys : Rules g input state (run g input state)
  pub only : (codes : List ℕ) → Rules g input state codes → codes ≡ run g input state
