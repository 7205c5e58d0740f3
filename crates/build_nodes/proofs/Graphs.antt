-- A well-formed graph stays one where an edge is made.
-- Assumes nothing.
use Prim.Native.Nat.{ℕ, ◌≤◌}
use native.Mathlib.Omega.{arith}
use mathlib.Core.Path.{◌≡◌}
use mathlib.Core.Bool.{Bool}
use mathlib.Core.List.{List, [], ◌∷◌}
use lib.ListN.{length}
use Rattle.graph.specs.declared.Counts.{Counts}
use Rattle.graph.specs.Graph.{Lent}
use Rattle.graph.specs.WellFormed.{WellFormed}
use Rattle.gates.specs.Gates.{State}
use Rattle.gates.specs.Lists.{list_of, eq_of}
use Rattle.gates.specs.Meaning.{Grows}
use Rattle.gates.proofs.Growing.{list_grows, eq_grows}
use Rattle.build_leaves.specs.Graphs.{with_rows}
use Rattle.build_leaves.proofs.Graphs.{grown_stays}
use Rattle.build_nodes.specs.Nodes.{gate_call, list_call, eq_call}
use Rattle.build_nodes.specs.Graphs.{NodesStay}
use Rattle.build_nodes.proofs.Meaning.{Went, went}

module _ (g : Lent) (long : g.counts.inputs ≤ length g.inputs) (w : WellFormed g) where
  abbrev n : Counts
  n = g.counts

  gate_stays : (es : List ℕ) (s : State) → (Went g.rows n es s → Grows g.rows n.rows s) → (gate_call g.rows n es s).given.number ≡ 0
      → WellFormed (with_rows g (gate_call g.rows n es s).left)
  gate_stays es s grows z =
      let d = went g.rows n es s z in
      rw d.done (grown_stays g long w s (grows d) d.room)

  list_call_lem : (trivial or : Bool) (es : List ℕ) → (list_call trivial or g.rows n es).given.number ≡ 0 → WellFormed (with_rows g (list_call trivial or g.rows n es).left)
  unfolding list_call
  list_call_lem trivial or es = gate_stays es (list_of trivial or g.rows n.rows es) (λ d. list_grows trivial or g.rows n.rows es d.some d.used d.room)

  eq_call_lem : (a b : ℕ) → (eq_call g.rows n a b).given.number ≡ 0 → WellFormed (with_rows g (eq_call g.rows n a b).left)
  unfolding eq_call
  eq_call_lem a b =
      gate_stays (a ∷ (b ∷ [])) (eq_of g.rows n.rows a b)
      (λ d. eq_grows g.rows n.rows a b d.some (d.used 0 (omega arith)) (d.used 1 (omega arith)) d.room)

  pub nodes_stay : NodesStay g
  nodes_stay = record { list = list_call_lem; eq = eq_call_lem }
