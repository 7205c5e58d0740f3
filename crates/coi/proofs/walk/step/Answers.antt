-- `coi::walk::step` meets its contract.
use Prim.Native.Nat.{◌/◌, ◌<◌}
use native.Mathlib.Omega.{arith}
use mathlib.Core.Path.{◌≡◌, sym, ap, ◌∙◌}
use mathlib.Core.Bool.{true, false}
use lib.ListN.{get_or}
use Rattle.edge.specs.Edges.{id_of}
use Rattle.rows.specs.Rows.{word0, word1, gate_at}
use Rattle.rows.proofs.Laws.{gate_below}
use Rattle.graph.specs.declared.latch.Latch.{Latch}
use Rattle.coi.specs.Coi.{visited}
use Rattle.coi.specs.Steps.{work_of}
use Rattle.coi.proofs.Visiting.{going_on}
use Rattle.coi.proofs.Walking.{gate_steps_lem, no_steps, latch_steps}
use Rattle.coi.proofs.walk.step.Goals as goal
use Rattle.coi.proofs.walk.step.Goals.{Else-is_gate, Then-is_gate}

gate : (c : Then-is_gate) →
    gate_at c.args.graph.now.rows.now c.args.i ≡ true
gate c = sym c.is_gate.ensures ∙ c.if-is_gate.true

-- both fanins stand below it
fanins : (c : Then-is_gate) →
    (word0 c.args.graph.now.rows.now c.args.i / 2 < c.args.i) × (word1 c.args.graph.now.rows.now c.args.i / 2 < c.args.i)
fanins c = gate_below c.args.i (word0 c.args.graph.now.rows.now c.args.i) (word1 c.args.graph.now.rows.now c.args.i) (gate c)

no_gate : (c : Else-is_gate) →
    gate_at c.args.graph.now.rows.now c.args.i ≡ false
no_gate c = sym c.is_gate.ensures ∙ c.if-is_gate.false

pub overflow_cast-a : goal.overflow_cast-a
overflow_cast-a c = omega (arith, fanins (goal.at.overflow_cast-a c).Then-is_gate)

pub visit-n-requires : goal.visit-n-requires
visit-n-requires c = record { j_in_bounds = omega (arith, fanins (goal.at.visit-n-requires c).Then-is_gate); going = c.requires.going }

pub overflow_cast-b : goal.overflow_cast-b
overflow_cast-b c = omega (arith, fanins (goal.at.overflow_cast-b c).Then-is_gate)

pub visit-requires : goal.visit-requires
visit-requires c =
    rw (c.flags-1.given, c.stack-1.given) record {
      j_in_bounds = omega (arith, fanins (goal.at.visit-requires c).Then-is_gate);
      going = going_on _ _ _ c.visit-n.ensures (omega (arith, fanins (goal.at.visit-requires c).Then-is_gate)) c.requires.going;
    }

pub returns-then-is_gate : goal.returns-then-is_gate
returns-then-is_gate c =
    c.visit.ensures ∙
    (ap (visited _) c.visit-n.ensures ∙ gate_steps_lem c.args.graph.now.rows.now c.args.graph.now.latches.now (get_or c.args.marks.now c.args.i 0) c.args.i
    (gate (goal.at.returns-then-is_gate c).Then-is_gate) _)

pub overflow_cast-at : goal.overflow_cast-at
overflow_cast-at c = omega (arith, c.type_inv.marks c.args.i)

pub returns-then-at-eq0 : goal.returns-then-at-eq0
returns-then-at-eq0 c =
    no_steps c.args.graph.now.rows.now c.args.graph.now.latches.now (get_or c.args.marks.now c.args.i 0) c.args.i (no_gate (goal.at.returns-then-at-eq0 c).Else-is_gate) c.if-at-eq0.true _

pub latch_at-l-requires : goal.latch_at-l-requires
latch_at-l-requires c = omega (arith, c.requires.known.latch_there c.args.i (omega arith))

pub visit-requires-2 : goal.visit-requires-2
visit-requires-2 c = record { j_in_bounds = rw c.latch_at-l.ensures (c.requires.known.next_used c.args.i (omega arith)); going = c.requires.going }

pub returns : goal.returns
returns c =
    c.visit-2.ensures ∙
    (ap (λ (l : Latch). visited (id_of l.next) (work_of c.args.flags.now c.args.stack.now c.args.count)) c.latch_at-l.ensures ∙ latch_steps
    c.args.graph.now.rows.now c.args.graph.now.latches.now (get_or c.args.marks.now c.args.i 0) c.args.i (no_gate (goal.at.returns c).Else-is_gate) c.if-at-eq0.false _)
