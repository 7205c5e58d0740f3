-- `gate_clauses::put::put_clause` meets its contract.
use Prim.Native.Nat.{◌+◌}
use native.Mathlib.Omega.{arith}
use mathlib.Core.Path.{◌≡◌, sym, ap, ◌∙◌}
use lib.ListN.{length, set}
use lib.Seq.{sets}
use borrow.Author.Rules.{rules}
use Rattle.gate_clauses.proofs.Writing.{left_turn, left_end}
use Rattle.gate_clauses.proofs.put.put_clause.Goals as goal

pub loop-i-init : goal.loop-i-init
loop-i-init g c = ap (λ j. sets (set c.args.clauses.now c.args.at g.row.N) j c.args.literals) (omega arith)

pub loop-i-preserved : goal.loop-i-preserved
loop-i-preserved g c =
    let long : length c.args.literals ≡ g.row.N = search rules in
    left_turn c.loop-i.clauses c.args.literals (c.args.at + 1) c.loop-i.i (omega (arith, long)) ∙ c.loop-i.invariant

pub returns : goal.returns
returns g c =
    let long : length c.args.literals ≡ g.row.N = search rules in
    sym (left_end c.loop-i.clauses c.args.literals (c.args.at + 1) c.loop-i.i (omega (arith, long))) ∙ c.loop-i.invariant
    ∙ ap (λ j. sets (set c.args.clauses.now c.args.at g.row.N) j c.args.literals) (omega arith)
