-- `cnf::gates_below` meets its contract.
use native.Mathlib.Omega.{arith}
use native.Mathlib.Nat.{le_antisymm}
use mathlib.Core.Path.{refl, sym, ◌∙◌}
use Rattle.rows.specs.Rows.{gate_at}
use Rattle.graph.specs.Count.{count_below}
use Rattle.graph.proofs.Counting.{count_taken, count_left, count_small}
use borrow.Author.Rules.{rules}
use Rattle.cnf.proofs.gates_below.Goals as goal
use Rattle.cnf.proofs.gates_below.Goals.{then-is_gate, else-is_gate}

pub loop-i-init : goal.loop-i-init
unfolding count_below
loop-i-init c = (search rules, refl)

pub overflow_add-gates : goal.overflow_add-gates
overflow_add-gates c =
    let l = c.loop-i in
    omega (arith, count_small (gate_at c.args.rows.now) l.i l.invariant.1, c.loop-i-test.true, c.ranges.n)

pub loop-i-preserved : goal.loop-i-preserved
loop-i-preserved c =
    let l = c.loop-i in
    let gate = gate_at c.args.rows.now in (
      search rules,
      elim c.if-is_gate.branch [
        | then-is_gate w ↦ count_taken gate l.i l.invariant.1 (sym c.is_gate.ensures ∙ w.if-is_gate.true) w.gates-is
        | else-is_gate w ↦ count_left gate l.i l.invariant.1 (sym c.is_gate.ensures ∙ w.if-is_gate.false) w.gates-is
      ],
    )

pub returns : goal.returns
returns c = rw (le_antisymm c.loop-i.invariant.0 c.loop-i-test.false) at c.loop-i.invariant.1
