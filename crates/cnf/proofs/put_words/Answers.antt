-- `cnf::put_words` meets its contract.
use native.Mathlib.Omega.{arith}
use Rattle.graph.specs.Graph.{lent_of}
use Rattle.root_marks.specs.Roots.{roots_of}
use Rattle.cnf.proofs.Calling.{marked_long, number, written, back}
use Rattle.cnf.proofs.put_words.Goals as goal

pub mark_roots-requires : goal.mark_roots-requires
mark_roots-requires c = record { roots_fit = c.requires.roots_fit; roots_used = c.requires.clauses_ready.roots_used }

pub put_rows-end-requires : goal.put_rows-end-requires
put_rows-end-requires c =
    let roots = roots_of (lent_of c.args.graph.now) in
    let a = c.args in
    let long = marked_long a.shortcuts a.graph.now.rows.now roots a.marks.now c.requires.clauses_ready c.mark_roots.ensures in
    record { marks_in_bounds = omega (arith, long, c.requires.clauses_ready.rows_there); marks_len_bound = omega (arith, long, c.requires.clauses_ready.rows_few) }

pub returns : goal.returns
returns c =
    let roots = roots_of (lent_of c.args.graph.now) in
    let a = c.args in
    let m = c.mark_roots.ensures in record {
      number = number a.shortcuts a.graph.now.rows.now roots a.marks.now c.requires.clauses_ready m c.put_rows-end.ensures.place;
      written = written a.shortcuts a.graph.now.rows.now roots a.marks.now c.requires.clauses_ready m a.clauses.now c.put_unit.ensures c.clauses-1.given
          c.put_rows-end.ensures.written;
      kept = back a.shortcuts a.graph.now.rows.now roots a.marks.now c.requires.clauses_ready m c.put_rows-end.new.marks c.marks-2-1.given c.clear.ensures;
    }
