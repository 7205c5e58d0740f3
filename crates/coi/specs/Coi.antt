-- The cone of influence: "always has row 0, starts from row ids .., crosses a latch from input to next, and doesn't follow init".
-- Assumes nothing.
use Rattle.std.specs.Prelude.{ℕ, zero, suc, ◌-◌, List, [], ◌∷◌, Bool, cond, get_or, set, replicate, eqb, ltb}
use Rattle.edge.specs.Edges.{id_of}
use Rattle.rows.specs.Rows.{word0, word1, gate_at}
use Rattle.graph.specs.Latches.{latch_at}
use Rattle.graph.specs.Graph.{Lent}

-- ---- one step
-- of the first n latches, 1 + the one whose input is row i, and 0 where there is none
unfoldable pub latch_of : List ℕ → ℕ → ℕ → ℕ
latch_of latches zero i = 0
latch_of latches (suc n) i = cond (eqb (latch_at latches n).input i) (suc n) (latch_of latches n i)

-- the row of a latch's next, where `at` is 1 + the latch; none where it is 0
abbrev pub crossed : List ℕ → ℕ → List ℕ
crossed latches at = cond (eqb at 0) [] (id_of (latch_at latches (at - 1)).next ∷ [])

-- the rows one step from row i, where `at` is 1 + the latch whose input it is: both fanins of a gate, and of any other row that of the latch's next
unfoldable pub steps_at : List ℕ → List ℕ → ℕ → ℕ → List ℕ
steps_at rows latches at i = cond (gate_at rows i) (id_of (word0 rows i) ∷ (id_of (word1 rows i) ∷ [])) (crossed latches at)

abbrev pub steps : List ℕ → List ℕ → ℕ → ℕ → List ℕ
steps rows latches n i = steps_at rows latches (latch_of latches n i) i

-- ---- the rows reached by steps, each visited once
-- the flags, and the rows that are flagged and wait for their steps to be made, the latest first
pub record Work : Type 0 where
  pub flags : List ℕ
  pub waiting : List ℕ

abbrev pub work : List ℕ → List ℕ → Work
work flags waiting = record { flags = flags; waiting = waiting }

-- row j is flagged, and waits, where it was not flagged before
unfoldable pub visited : ℕ → Work → Work
visited j w = cond (eqb (get_or w.flags j 0) 1) w (work (set w.flags j 1) (j ∷ w.waiting))

unfoldable pub visited_all : List ℕ → Work → Work
visited_all [] w = w
visited_all (j ∷ js) w = visited_all js (visited j w)

-- the flags, once the steps of the waiting rows are made, turn by turn
unfoldable pub drained : (ℕ → List ℕ) → ℕ → List ℕ → List ℕ → List ℕ
drained next zero flags waiting = flags
drained next (suc turns) flags [] = flags
drained next (suc turns) flags (i ∷ waiting) =
    let w = visited_all (next i) (work flags waiting) in
    drained next turns w.flags w.waiting

-- from row 0 and the ids; a row waits once at most, so as many turns as rows are enough
unfoldable pub searched : (ℕ → List ℕ) → ℕ → List ℕ → List ℕ
searched next used ids =
    let w = visited_all (0 ∷ ids) (work (replicate used 0) []) in
    drained next used w.flags w.waiting

-- "a flag 0 or 1 per used row"
abbrev pub coi_of : Lent → List ℕ → List ℕ
coi_of g ids = searched (steps g.rows g.latches g.counts.latches) g.counts.rows ids

-- "row ids (not used: 4)"
abbrev pub used_row : ℕ → ℕ → Bool
used_row used x = ltb x used
