-- Document 01's table "The numbers a call answers", for a call on two graphs.
-- Assumes nothing.
use Rattle.std.specs.Prelude.{ℕ, Bool, ◌⊎◌, List, length}
use Rattle.edge.specs.declared.answer.Given.{Given}
use Rattle.rows.specs.Rows.{larger}
use Rattle.graph.specs.Graph.{Lent}
use Rattle.graph.specs.Stages.{Names}
use Rattle.graph.specs.Check.{stages}
use Rattle.graph.specs.WellFormed.{WellFormed}
use Rattle.graph.specs.Exactly.{Answered}
use Rattle.two_graphs.specs.Pair.{SizedTwo}

-- "2 and 3 for the first (`self`), then for the second"
abbrev pub FaultOfTwo : Lent → Lent → Given → Type 0
FaultOfTwo a b p = Names (stages a) p ⊎ (WellFormed a × Names (stages b) p)

abbrev pub AnswersTwo : Bool → Bool → Lent → Lent → List ℕ → Given → List ℕ → Type 0
AnswersTwo good room a b marks = Answered (SizedTwo a b (length marks)) (WellFormed a × WellFormed b) (FaultOfTwo a b) good room (larger a.counts.rows b.counts.rows) marks
