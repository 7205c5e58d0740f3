-- Document 01's table "The numbers a call answers", as cases: each number is "given exactly when" its case holds. One statement for every call on a whole graph; `two_graphs` has it for two.
-- Assumes nothing.
use Rattle.std.specs.Prelude.{ℕ, ◌≡◌, Bool, true, false, List, length}
use Rattle.edge.specs.declared.answer.Given.{Given}
use Rattle.edge.specs.Answers.{done, bad_sizes, bad_argument, no_room}
use Rattle.graph.specs.Graph.{Lent, Sized}
use Rattle.graph.specs.Stages.{Names}
use Rattle.graph.specs.Check.{stages, cleared}
use Rattle.graph.specs.WellFormed.{WellFormed}

-- what is lent has right sizes, and is well-formed; `fault p`: p names the first fault; `good`: no argument is wrong; `room`: there is room for what the call would write.
-- "Checks run in this order": each case says that those before it do not hold
pub data Exactly (sizes formed : Type 0) (fault : Given → Type 0) (good room : Bool) : Given → Type 0 where
  -- 0
  all_right : sizes → formed → good ≡ true → room ≡ true → Exactly sizes formed fault good room done
  -- 1
  wrong_sizes : (sizes → ⊥) → Exactly sizes formed fault good room bad_sizes
  -- 2 and 3, with the place
  faulty : {p : Given} → sizes → (formed → ⊥) → fault p → Exactly sizes formed fault good room p
  -- 4
  wrong_argument : sizes → formed → good ≡ false → Exactly sizes formed fault good room bad_argument
  -- 5
  full : sizes → formed → good ≡ true → room ≡ false → Exactly sizes formed fault good room no_room

-- what a call answers and leaves in the marks, where so many rows are used
pub record Answered (sizes formed : Type 0) (fault : Given → Type 0) (good room : Bool) (used : ℕ) (marks : List ℕ) (given : Given) (after : List ℕ) : Type 0 where
  pub exactly : Exactly sizes formed fault good room given
  -- "Work marks are zero at exit over the rows used at entry, except after 1, when they are untouched"
  pub untouched : given.number ≡ 1 → after ≡ marks
  pub zeroed : (given.number ≡ 1 → ⊥) → after ≡ cleared used marks

-- of one graph, with `own`: the slices that the call has beside it are of right sizes
abbrev pub Answers : Bool → Bool → Bool → Lent → List ℕ → Given → List ℕ → Type 0
Answers own good room g marks = Answered ((own ≡ true) × Sized g (length marks)) (WellFormed g) (Names (stages g)) good room g.counts.rows marks
