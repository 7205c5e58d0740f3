-- What `set_of` names: the set that an edge lies in.
-- Assumes nothing.
use Rattle.std.specs.Prelude.{ℕ, ◌≤◌, ◌<◌, List, get_or}
use Rattle.graph.specs.Justice.{start}

-- edge k lies in set s; `in_set` says that it does in `set_of`, where all ends are good
pub record InSet (ends : List ℕ) (sets k s : ℕ) : Type 0 where
  pub a_set : s < sets
  pub from : start ends s ≤ k
  pub below : k < get_or ends s 0
