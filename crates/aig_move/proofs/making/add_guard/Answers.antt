-- `aig_move::making::add_guard` meets its contract.
use Prim.Native.Nat.{ℕ}
use native.Mathlib.Omega.{arith}
use mathlib.Core.Path.{◌≡◌, ap, ◌∙◌}
use lib.ListN.{length, get_or}
use Rattle.gates.specs.Gates.{add_and}
use Rattle.aig_move.proofs.Steps.{guard_none, guard_first}
use Rattle.aig_move.proofs.making.add_guard.Goals as goal

pub returns-in-None : goal.returns-in-None
returns-in-None c =
    let none : length c.args.list.now ≡ 0 = grind arith in
    guard_none c.args.rows.now c.args.used c.args.next c.args.list.now none

pub returns-in-Some : goal.returns-in-Some
returns-in-Some c =
    let some : length c.args.list.now ≡ 0 → ⊥ = grind arith in
    let first : c.in-Some.first.now ≡ get_or c.args.list.now 0 0 = grind arith in
    c.add_and.ensures ∙ ap (λ (e : ℕ). add_and c.args.rows.now c.args.used c.args.next e) first ∙ guard_first c.args.rows.now c.args.used c.args.next c.args.list.now some
