-- `cnf::has_room` meets its contract.
use native.Mathlib.Omega.{arith}
use Prim.Native.Nat.{ℕ}
use mathlib.Core.Path.{refl, ap}
use lib.Dec.{leb}
use Rattle.graph.specs.Graph.{lent_of}
use Rattle.root_marks.specs.Roots.{roots_of}
use Rattle.cnf.proofs.Calling.{room_for_most, room_for_gates, gates_few}
use Rattle.cnf.proofs.has_room.Goals as goal

pub overflow_sub-most : goal.overflow_sub-most
overflow_sub-most c = omega (arith, c.requires.clauses_ready.some_row)

pub overflow_mul-most : goal.overflow_mul-most
overflow_mul-most c = omega (arith, c.requires.clauses_ready.rows_few)

pub overflow_add-most : goal.overflow_add-most
overflow_add-most c = omega (arith, c.requires.clauses_ready.rows_few)

pub returns-then-most-room : goal.returns-then-most-room
returns-then-most-room c =
    let roots = roots_of (lent_of c.args.graph.now) in
    let a = c.args in record { fits = room_for_most a.shortcuts a.graph.now.rows.now roots a.marks.now a.room c.requires.clauses_ready c.if-most-room.true; kept = refl }

pub gates_below-requires : goal.gates_below-requires
gates_below-requires c = c.requires.clauses_ready.rows_there

pub overflow_mul-gates_below : goal.overflow_mul-gates_below
overflow_mul-gates_below c = omega (arith, gates_few c.args.graph.now.rows.now c.gates_below.ensures c.requires.clauses_ready.rows_few)

pub overflow_add-gates_below : goal.overflow_add-gates_below
overflow_add-gates_below c = omega (arith, gates_few c.args.graph.now.rows.now c.gates_below.ensures c.requires.clauses_ready.rows_few)

pub returns-then-gates_below-room : goal.returns-then-gates_below-room
returns-then-gates_below-room c =
    let roots = roots_of (lent_of c.args.graph.now) in
    let a = c.args in record { fits = room_for_gates a.shortcuts a.graph.now.rows.now roots a.marks.now a.room c.gates_below.ensures c.if-gates_below-room.true; kept = refl }

pub put_words-need-requires : goal.put_words-need-requires
put_words-need-requires c = record { roots_fit = c.requires.roots_fit; clauses_ready = c.requires.clauses_ready }

pub returns : goal.returns
returns c = record { fits = ap (λ (n : ℕ). leb n c.args.room) c.put_words-need.ensures.number; kept = c.put_words-need.ensures.kept }
