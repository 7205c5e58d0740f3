-- What a call that writes a graph answers before 5.
-- Assumes nothing.
use Prim.Native.Nat.{ℕ}
use mathlib.Core.Path.{◌≡◌}
use mathlib.Core.Bool.{Bool}
use mathlib.Core.List.{List}
use lib.ListN.{length}
use Rattle.edge.specs.Answers.{done}
use Rattle.graph.specs.declared.Counts.{Counts}
use Rattle.graph.specs.Graph.{Lent}
use Rattle.graph.specs.Check.{cleared}
use Rattle.root_marks.proofs.Arguments.{Accepted, args_accepted, args_accepts, args_cleared}
use Rattle.output.specs.Room.{limits_in}
use Rattle.output.specs.Asking.{asked_in}

module _ (good : Bool) (g : Lent) (room : Counts) (marks : List ℕ) where
  -- ---- what the answer tells
  pub asked_accepted : (asked_in good g room marks).given.number ≡ 0 → Accepted (limits_in room) good g (length marks)
  unfolding asked_in
  asked_accepted = args_accepted (limits_in room) good g marks

  pub asked_accepts : Accepted (limits_in room) good g (length marks) → (asked_in good g room marks).given ≡ done
  unfolding asked_in
  asked_accepts = args_accepts (limits_in room) good g marks

  pub asked_done : (asked_in good g room marks).given.number ≡ 0 → (asked_in good g room marks).given ≡ done
  asked_done z = asked_accepts (asked_accepted z)

  pub asked_cleared : ((asked_in good g room marks).given.number ≡ 1 → ⊥) → (asked_in good g room marks).marks ≡ cleared g.counts.rows marks
  unfolding asked_in
  asked_cleared = args_cleared (limits_in room) good g marks
