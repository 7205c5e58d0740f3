-- What `gate_init_to_constraint` answers and writes: "a latch with init of id other than 0 loses it; one new latch (next false, init true) is added; per such latch a constraint "new latch implies
-- latch equals init". No such latch: nothing changes."
-- Assumes nothing.
use Rattle.std.specs.Prelude.{ℕ, zero, suc, ◌+◌, ◌*◌, ◌≡◌, List, [], ◌∷◌, Bool, true, false, cond, not, ◌&&◌, ◌||◌, length, set, eqb, ltb, leb}
use Rattle.edge.specs.Edges.{id_of, complement, constant_of}
use Rattle.rows.specs.Sizes.{rows_lent}
use Rattle.rows.specs.Rows.{none}
use Rattle.rows.specs.Reading.{if_done}
use Rattle.graph.specs.declared.Counts.{Counts}
use Rattle.graph.specs.declared.latch.Latch.{Latch}
use Rattle.graph.specs.Latches.{latches_lent, latch, without_init, latch_at, latch_set}
use Rattle.graph.specs.Graph.{Lent, lent}
use Rattle.graph.specs.Check.{CheckSeen}
use Rattle.gates.specs.Gates.{State, leaf_added}
use Rattle.gates.specs.Lists.{list_of, eq_of}
use Rattle.renumber.specs.Seen.{Rebuilt, RebuiltSeen, rebuilt_seen, SameRebuilt, rebuilt_determined}
use Rattle.property.specs.Checking.{change_checked}

-- "a latch with init of id other than 0": the none word is no edge
unfoldable pub is_gated : Latch → Bool
is_gated l = not (eqb l.init none) && not (eqb (id_of l.init) 0)

-- "new latch implies latch equals init", as `new_eq_node` and then `new_imply_node` build it; `new` is the new latch's row
unfoldable pub constraint_of : List ℕ → ℕ → ℕ → Latch → State
constraint_of rows used new l =
    let same = eq_of rows used (2 * l.input) l.init in
    list_of false true same.rows same.used (complement (2 * new) ∷ (same.edge ∷ []))

-- ---- latch by latch: the rows and how many are used, the constraints and how many there are
pub record Gating : Type 0 where
  pub rows : List ℕ
  pub used : ℕ
  pub constraints : List ℕ
  pub count : ℕ

abbrev pub gating : List ℕ → ℕ → List ℕ → ℕ → Gating
gating rows used constraints count = record { rows = rows; used = used; constraints = constraints; count = count }

-- "per such latch a constraint"
unfoldable pub gate_step : ℕ → Gating → Latch → Gating
gate_step new s l =
    let c = constraint_of s.rows s.used new l in
    cond (is_gated l) (gating c.rows c.used (set s.constraints s.count c.edge) (s.count + 1)) s

-- of the first n latches, in latch order
unfoldable pub gate_steps : ℕ → List ℕ → Gating → ℕ → Gating
gate_steps new latches s zero = s
gate_steps new latches s (suc n) = gate_step new (gate_steps new latches s n) (latch_at latches n)

-- "loses it"
unfoldable pub initless : Latch → Latch
initless l = cond (is_gated l) (without_init l) l

-- of the first n latches
unfoldable pub inits_taken : List ℕ → ℕ → List ℕ
inits_taken latches zero = latches
inits_taken latches (suc n) = latch_set (inits_taken latches n) n (initless (latch_at latches n))

-- ---- what the call changes: rows, latches, constraints and counts
pub record Part : Type 0 where
  pub rows : List ℕ
  pub latches : List ℕ
  pub constraints : List ℕ
  pub counts : Counts

abbrev pub part : List ℕ → List ℕ → List ℕ → Counts → Part
part rows latches constraints counts = record { rows = rows; latches = latches; constraints = constraints; counts = counts }

abbrev pub part_of : Lent → Part
part_of g = part g.rows g.latches g.constraints g.counts

abbrev pub with_part : Lent → Part → Lent
with_part g p = lent p.rows g.inputs p.latches p.constraints g.bads g.outputs g.ends g.edges g.fairness p.counts

-- the new latch's row comes first
unfoldable pub gated_all : Part → Gating
gated_all p =
    let used = p.counts.rows in
    gate_steps used p.latches (gating (leaf_added p.rows used) (used + 1) p.constraints p.counts.constraints) p.counts.latches

unfoldable pub gated_counts : Counts → ℕ → ℕ → Counts
gated_counts n used count =
    record {
      rows = used;
      inputs = n.inputs;
      latches = n.latches + 1;
      constraints = count;
      bads = n.bads;
      outputs = n.outputs;
      sets = n.sets;
      edges = n.edges;
      fairness = n.fairness;
    }

-- "one new latch (next false, init true) is added"
abbrev pub new_latch : ℕ → Latch
new_latch new = latch new (constant_of false) (constant_of true)

unfoldable pub gated_part : Part → Part
gated_part p =
    let s = gated_all p in
    part s.rows (latch_set (inits_taken p.latches p.counts.latches) p.counts.latches (new_latch p.counts.rows)) s.constraints
    (gated_counts p.counts s.used s.count)

-- "No such latch": then no constraint is added
abbrev pub none_gated : Part → Bool
none_gated p = eqb (gated_all p).count p.counts.constraints

-- "nothing changes"
unfoldable pub gate_init : Part → Part
gate_init p = cond (none_gated p) p (gated_part p)

-- room for the rows, for one latch and for the constraints, where there is something to do
unfoldable pub gate_room : Part → Bool
gate_room p =
    none_gated p
    || (leb (gated_all p).used (rows_lent p.rows) && ltb p.counts.latches (latches_lent p.latches) && leb (gated_all p).count (length p.constraints))

-- the answer, and the marks: nothing but the graph is lent
unfoldable pub gate_init_checked : Lent → List ℕ → CheckSeen
gate_init_checked g marks = change_checked true (gate_room (part_of g)) g marks

-- "A refusal changes no row, list, output or state", and the counts come back as given
unfoldable pub gate_init_call : Lent → List ℕ → RebuiltSeen
gate_init_call g marks =
    let seen = gate_init_checked g marks in
    record { given = seen.given; graph = if_done seen.given (with_part g (gate_init (part_of g))) g; marks = seen.marks }

-- any two results that the promise allows are equal: the answer, every lent word with the counts, and the marks
pub gate_init_determined : (g : Lent) (marks : List ℕ) (r s : Rebuilt) (x y : Lent) (m n : List ℕ)
    → rebuilt_seen r x m ≡ gate_init_call g marks → rebuilt_seen s y n ≡ gate_init_call g marks → SameRebuilt r x m s y n
gate_init_determined g = rebuilt_determined (gate_init_call g)
