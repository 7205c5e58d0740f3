-- What the cone's flags mean.
-- Assumes nothing.
use Rattle.std.specs.Prelude.{ℕ, ◌≤◌, ◌<◌, ◌≡◌, Bool, true, List, ◌++◌, length, get_or, drop}
use Rattle.edge.specs.Edges.{id_of}
use Rattle.edge.specs.Meaning.{edge_value}
use Rattle.rows.specs.Sizes.{max_entries}
use Rattle.rows.specs.Value.{value, InCone}
use Rattle.graph.specs.Leaves.{used_edge}
use Rattle.graph.specs.Graph.{Lent, Sized}
use Rattle.graph.specs.WellFormed.{WellFormed}
use Rattle.root_marks.specs.Flags.{Flagged, Flags, Closed, AgreeOn}
use Rattle.root_marks.specs.Arguments.{every}
use Rattle.graph.specs.Exactly.{Answers}
use Rattle.cone.specs.Call.{cone_room, cone_call}

-- row j is the row of a root, or a fanin below it
pub record Below (rows roots : List ℕ) (j : ℕ) : Type 0 where
  pub root : ℕ
  pub within : root < length roots
  pub path : InCone rows j (id_of (get_or roots root 0))

pub record IsCone (rows : List ℕ) (used : ℕ) (roots flags : List ℕ) : Type 0 where
  pub one_each : Flags used flags
  -- "flags of the edges' rows .. and all fanins below", and no others: no latch is crossed, and row 0 is flagged "only when reached"
  pub reached : (j : ℕ) → Below rows roots j → Flagged flags j
  pub only : (j : ℕ) → Flagged flags j → Below rows roots j
  pub closed : Closed rows flags
  -- the values of the roots depend only on the flagged rows
  pub values : (other : List ℕ) (leaf leaf' : ℕ → Bool) → AgreeOn flags rows other leaf leaf'
      → (k : ℕ) → k < length roots → edge_value (value rows leaf) (get_or roots k 0) ≡ edge_value (value other leaf') (get_or roots k 0)

-- what is lent to the call is right
pub record ConeLent (g : Lent) (roots flags marks : List ℕ) : Type 0 where
  pub sized : Sized g (length marks)
  pub flags_long : g.counts.rows ≤ length flags
  pub roots_few : length roots ≤ max_entries
  pub well_formed : WellFormed g
  pub roots_used : (k : ℕ) → k < length roots → id_of (get_or roots k 0) < g.counts.rows

-- the flags are those of the cone, and the words beyond the used rows are as they were
pub record ConeWritten (g : Lent) (roots flags after : List ℕ) : Type 0 where
  pub cone : List ℕ
  pub is_cone : IsCone g.rows g.counts.rows roots cone
  pub written : after ≡ cone ++ drop g.counts.rows flags

-- `fanin_logic_cone` is done exactly where what is lent is right, and then writes the cone, of which there is one.
pub record ConeRight (g : Lent) (roots flags marks : List ℕ) : Type 0 where
  pub accepts : ConeLent g roots flags marks → (cone_call g roots flags marks).given.number ≡ 0
  pub accepted : (cone_call g roots flags marks).given.number ≡ 0 → ConeLent g roots flags marks
  -- each answer exactly in its case, and the marks
  pub answers : Answers (cone_room g roots (length flags)) (every (used_edge g.counts.rows) roots) true g marks (cone_call g roots flags marks).given (cone_call g roots flags marks).marks
  pub writes : (cone_call g roots flags marks).given.number ≡ 0 → ConeWritten g roots flags (cone_call g roots flags marks).flags
  pub one : (a b : List ℕ) → IsCone g.rows g.counts.rows roots a → IsCone g.rows g.counts.rows roots b → a ≡ b
