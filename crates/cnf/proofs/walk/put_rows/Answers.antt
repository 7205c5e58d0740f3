-- `cnf::walk::put_rows` meets its contract.
use native.Mathlib.Omega.{arith}
use mathlib.Core.Path.{refl}
use lib.ListN.{length}
use Rattle.cnf.proofs.Walking.{left_few, place_turn, place_end, write_turn, write_end}
use borrow.Author.Rules.{rules}
use Rattle.cnf.proofs.walk.put_rows.Goals as goal

pub loop-i-init : goal.loop-i-init
loop-i-init c = (search rules, search rules, refl, λ _. refl)

pub put_shape-at-requires : goal.put_shape-at-requires
put_shape-at-requires c =
    let a = c.args in
    omega (arith, c.loop-i.invariant.2, left_few a.shortcuts a.rows.now (length a.marks.now) a.marks.now c.requires.marks_len_bound)

pub loop-i-preserved : goal.loop-i-preserved
loop-i-preserved c =
    let a = c.args in
    let l = c.loop-i in (
      search rules,
      search rules,
      place_turn a.shortcuts a.rows.now l.i l.marks c.loop-i-test.true
          c.visit-s.result c.visit-s.ensures.shape l.at
          c.visit-s.ensures.marked c.put_shape-at.ensures.place l.invariant.2,
      λ room. write_turn a.shortcuts a.rows.now l.i l.marks c.loop-i-test.true
          c.visit-s.result c.visit-s.ensures.shape l.at
          c.visit-s.ensures.marked c.put_shape-at.ensures.place l.clauses c.put_shape-at.ensures.written
          (omega (arith, l.invariant.1, l.invariant.2, room)) (l.invariant.3 room),
    )

pub returns : goal.returns
returns c =
    let a = c.args in
    let l = c.loop-i in
    record {
      place = place_end a.shortcuts a.rows.now l.i l.marks c.loop-i-test.false l.at l.invariant.2;
      written = λ room. write_end a.shortcuts a.rows.now l.i l.marks c.loop-i-test.false l.clauses l.at (l.invariant.3 room);
    }
