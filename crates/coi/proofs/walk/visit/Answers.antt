-- `coi::walk::visit` meets its contract.
use Rattle.coi.proofs.Visiting.{seen_on, push_room, new_on}
use native.Mathlib.Omega.{arith}
use Prim.Native.Nat.{◌<◌}
use lib.ListN.{length}
use Rattle.coi.proofs.walk.visit.Goals as goal
use Rattle.coi.proofs.walk.visit.Goals.{Else-flags-j-eq1}

-- there is a word left on the stack
room : (c : Else-flags-j-eq1) → c.args.count < length c.args.stack.now
room c =
    push_room c.args.j c.args.flags.now c.args.stack.now c.args.count c.requires.going
    c.requires.j_in_bounds c.if-flags-j-eq1.false

pub returns-then-flags-j-eq1 : goal.returns-then-flags-j-eq1
returns-then-flags-j-eq1 c = seen_on c.args.j c.args.flags.now c.args.stack.now c.args.count c.if-flags-j-eq1.true

pub offset_bounds-stack-count : goal.offset_bounds-stack-count
offset_bounds-stack-count c = omega (arith, room (goal.at.offset_bounds-stack-count c).Else-flags-j-eq1)

pub bounds-stack-count : goal.bounds-stack-count
bounds-stack-count c = omega (arith, room (goal.at.bounds-stack-count c).Else-flags-j-eq1)

pub overflow_add-result : goal.overflow_add-result
overflow_add-result c = omega (arith, room (goal.at.overflow_add-result c).Else-flags-j-eq1)

pub returns : goal.returns
returns c =
    new_on c.args.j c.args.flags.now c.args.stack.now c.args.count c.requires.going
    c.requires.j_in_bounds c.if-flags-j-eq1.false
