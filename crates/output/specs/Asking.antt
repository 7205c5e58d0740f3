-- What a call that writes a graph answers before 5.
-- Assumes nothing.
use Rattle.std.specs.Prelude.{ℕ, List, Bool}
use Rattle.graph.specs.declared.Counts.{Counts}
use Rattle.graph.specs.Graph.{Lent}
use Rattle.graph.specs.Check.{CheckSeen}
use Rattle.root_marks.specs.Arguments.{args_call}
use Rattle.output.specs.Room.{limits_in}

-- answers 1 to 4 of a call on g that has so much room for its output, and the marks: `good` says that no argument is wrong
unfoldable pub asked_in : Bool → Lent → Counts → List ℕ → CheckSeen
asked_in good g room marks = args_call (limits_in room) good g marks
