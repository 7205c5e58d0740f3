-- One frame of `unroll`: the rows of a graph built once more, over a map from its rows to edges.
-- Assumes nothing.
use Rattle.std.specs.Prelude.{ℕ, zero, suc, ◌+◌, ◌*◌, List, Bool, cond, get_or, set, eqb}
use Rattle.rows.specs.Rows.{none, word0, word1, gate_at}
use Rattle.graph.specs.declared.Counts.{Counts}
use Rattle.graph.specs.Graph.{Lent}
use Rattle.gates.specs.Gates.{State, add_and, leaf_added}
use Rattle.renumber.specs.Renumber.{lists_of, graph_of}
use Rattle.output.specs.Room.{has_room}
use Rattle.frame.specs.Map.{mapped, start_map, lists_grown}

-- rows, how many of them are used; inputs, how many of them are listed; and the map. On no rows and no inputs nothing is written: so the need is counted.
pub record Frame : Type 0 where
  pub rows : List ℕ
  pub used : ℕ
  pub inputs : List ℕ
  pub listed : ℕ
  pub map : List ℕ

abbrev pub frame : List ℕ → ℕ → List ℕ → ℕ → List ℕ → Frame
frame rows used inputs listed map = record { rows = rows; used = used; inputs = inputs; listed = listed; map = map }

-- the edge that was built stands for row i
abbrev pub gate_placed : State → Frame → ℕ → Frame
gate_placed t s i = frame t.rows t.used s.inputs s.listed (set s.map i t.edge)

-- a new leaf, which is the next input, stands for row i
abbrev pub leaf_placed : Frame → ℕ → Frame
leaf_placed s i = frame (leaf_added s.rows s.used) (s.used + 1) (set s.inputs s.listed s.used) (s.listed + 1) (set s.map i (2 * s.used))

-- "leaves that are no latch get a new input (orphans too), gates are rebuilt with folding": a leaf that is mapped already, a latch's, stays so
unfoldable pub frame_row : List ℕ → ℕ → Frame → Frame
frame_row from i s =
    cond (gate_at from i)
    (gate_placed (add_and s.rows s.used (mapped s.map (word0 from i)) (mapped s.map (word1 from i))) s i)
    (cond (eqb (get_or s.map i 0) none) (leaf_placed s i) s)

-- the n rows from i on
unfoldable pub frame_rows : List ℕ → ℕ → ℕ → Frame → Frame
frame_rows from i zero s = s
frame_rows from i (suc n) s = frame_rows from (i + 1) n (frame_row from i s)

-- the n rows of `from`, behind the entries that `at` counts
unfoldable pub frame_of : List ℕ → List ℕ → Counts → List ℕ → List ℕ → ℕ → Frame
frame_of rows inputs at latches from n = frame_rows from 0 n (frame rows at.rows inputs at.inputs (start_map latches at.latches n))

-- the counts with a frame more
unfoldable pub raised : Counts → Counts → ℕ → ℕ → Counts
raised at n rows inputs =
    record {
      rows = rows;
      inputs = inputs;
      latches = at.latches;
      constraints = at.constraints + n.constraints;
      bads = at.bads + n.bads;
      outputs = at.outputs + n.outputs;
      sets = at.sets + n.sets;
      edges = at.edges + n.edges;
      fairness = at.fairness + n.fairness;
    }

abbrev pub frame_between : Lent → Lent → Frame
frame_between a b = frame_of a.rows a.inputs a.counts a.latches b.rows b.counts.rows

-- the target a with a frame of b more
unfoldable pub framed : Lent → Lent → Lent
framed a b =
    let f = frame_between a b in
    graph_of f.rows f.inputs (lists_grown f.map (lists_of a) a.counts (lists_of b) b.counts) (raised a.counts b.counts f.used f.listed)

-- "Need is counted before anything is written": folding included
unfoldable pub frame_fits : Lent → Lent → Bool
frame_fits a b = has_room a (framed a b).counts
