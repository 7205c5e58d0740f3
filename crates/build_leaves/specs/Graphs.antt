-- A well-formed graph stays one where a leaf or an input is added.
-- Assumes nothing.
use Rattle.std.specs.Prelude.{ℕ, ◌≡◌, true, false}
use Rattle.rows.specs.Rows.{leaf_at}
use Rattle.graph.specs.Leaves.{member}
use Rattle.graph.specs.Graph.{Lent, lent}
use Rattle.graph.specs.WellFormed.{listed, WellFormed}
use Rattle.build_leaves.specs.Calls.{Left, Seen}
use Rattle.build_leaves.specs.Leaves.{new_call, leaf_call, new_input_call, add_input_call}

-- the graph after a call that is lent its rows; its rows and inputs
abbrev pub with_rows : Lent → Left → Lent
with_rows g a = lent a.rows g.inputs g.latches g.constraints g.bads g.outputs g.ends g.edges g.fairness a.counts

abbrev pub with_inputs : Lent → Left → Lent
with_inputs g a = lent a.rows a.list g.latches g.constraints g.bads g.outputs g.ends g.edges g.fairness a.counts

-- where the call is done, the graph that it leaves is well-formed
abbrev pub Stays : Seen → (Left → Lent) → Type 0
Stays s after = s.given.number ≡ 0 → WellFormed (after s.left)

-- `new`, on whatever is lent
abbrev pub Fresh : Lent → Type 0
Fresh g = Stays (new_call g.rows) (with_rows g)

-- the calls on a well-formed graph
pub record LeavesStay (g : Lent) : Type 0 where
  pub leaf : Stays (leaf_call g.rows g.counts) (with_rows g)
  pub new_input : Stays (new_input_call g.rows g.inputs g.counts) (with_inputs g)
  -- "a wrong one shows as 3 later": a leaf in neither list is right
  pub add_input : (x : ℕ) → leaf_at g.rows x ≡ true → member x (listed g) ≡ false → Stays (add_input_call g.rows g.inputs g.counts x) (with_inputs g)
