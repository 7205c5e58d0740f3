-- What building keeps: older rows keep their words and their values.
-- Assumes nothing.
use Prim.Native.Nat.{ℕ, ◌+◌, ◌*◌, ◌≤◌}
use native.Mathlib.Omega.{arith}
use mathlib.Core.Logic.{⊎_elim}
use mathlib.Core.List.{List}
use Rattle.edge.proofs.Tests.{lt_or_le}
use Rattle.rows.specs.Sizes.{rows_lent}
use Rattle.graph.specs.declared.Counts.{Counts}
use Rattle.gates.specs.Gates.{State}
use Rattle.gates.specs.Meaning.{Grows}
use Rattle.gates.proofs.Meaning.{grows_value}
use Rattle.build_leaves.specs.Calls.{counted, left}
use Rattle.build_leaves.specs.Meaning.{Keeps}

pub keeps : (rows : List ℕ) (n : Counts) (s : State) → Grows rows n.rows s → s.used ≤ rows_lent rows → (list : List ℕ) (i l made : ℕ)
    → Keeps rows n.rows (left s.rows list (counted n s.used i l) made)
unfolding counted
keeps rows n s g room list i l made =
    record {
      words = g.kept;
      values = grows_value rows n.rows s g;
      good = λ all i m. ⊎_elim (λ k. rw (g.kept (2 * i) (omega arith), g.kept (2 * i + 1) (omega arith)) (all i k)) (λ k. g.good i k m) (lt_or_le i n.rows);
      more = g.more;
      within = rw g.long room;
    }
