-- `cnf::cnf` meets its contract.
use mathlib.Core.Path.{sym, ap, ◌∙◌}
use Rattle.edge.proofs.Answers.{handed_on}
use Rattle.graph.specs.Graph.{lent_of}
use Rattle.cnf.specs.Call.{cnf_seen}
use Rattle.cnf.proofs.Calling.{cnf_refused, cnf_short, cnf_done, part_long, marks_long, roots_fit, ready, again_part, again_long, again_ready}
use Rattle.cnf.proofs.cnf.Goals as goal

pub returns-in_err-check : goal.returns-in_err-check
returns-in_err-check c =
    let a = c.args in
    ap (λ r. cnf_seen r a.clauses.now c.check.new.marks) (handed_on _ _ c.from_residual.ensures.1) ∙
    cnf_refused (lent_of a.graph.now) a.shortcuts a.clauses.now a.marks.now c.in_err-check.field-0.0 c.in_err-check.ensures

pub slice_bounds-has_room-end : goal.slice_bounds-has_room-end
slice_bounds-has_room-end c = let a = c.args in marks_long (lent_of a.graph.now) a.shortcuts a.clauses.now a.marks.now c.in_ok-check.ensures

pub slice_bounds-has_room-end-2 : goal.slice_bounds-has_room-end-2
slice_bounds-has_room-end-2 c = let a = c.args in sym (part_long (lent_of a.graph.now) a.shortcuts a.clauses.now a.marks.now c.in_ok-check.ensures)

pub has_room-requires : goal.has_room-requires
has_room-requires c =
    let a = c.args in
    record {
      roots_fit = roots_fit (lent_of a.graph.now) a.shortcuts a.clauses.now a.marks.now c.in_ok-check.ensures;
      clauses_ready = ready (lent_of a.graph.now) a.shortcuts a.clauses.now a.marks.now c.in_ok-check.ensures;
    }

pub returns-then-not-has_room : goal.returns-then-not-has_room
returns-then-not-has_room c =
    let a = c.args in
    cnf_short (lent_of a.graph.now) a.shortcuts a.clauses.now a.marks.now c.in_ok-check.ensures c.has_room.ensures.kept c.has_room.ensures.fits c.if-not-has_room.true-raw

pub slice_bounds-put_words-end : goal.slice_bounds-put_words-end
slice_bounds-put_words-end c =
    let a = c.args in
    again_long (lent_of a.graph.now) a.shortcuts a.clauses.now a.marks.now c.in_ok-check.ensures c.has_room.ensures.kept

pub slice_bounds-put_words-end-2 : goal.slice_bounds-put_words-end-2
slice_bounds-put_words-end-2 c =
    let a = c.args in
    sym (again_part (lent_of a.graph.now) a.shortcuts a.clauses.now a.marks.now c.in_ok-check.ensures c.has_room.ensures.kept)

pub put_words-words-requires : goal.put_words-words-requires
put_words-words-requires c =
    let a = c.args in
    record {
      roots_fit = roots_fit (lent_of a.graph.now) a.shortcuts a.clauses.now a.marks.now c.in_ok-check.ensures;
      clauses_ready = again_ready (lent_of a.graph.now) a.shortcuts a.clauses.now a.marks.now c.in_ok-check.ensures c.has_room.ensures.kept;
    }

pub returns : goal.returns
returns c =
    let a = c.args in
    cnf_done (lent_of a.graph.now) a.shortcuts a.clauses.now a.marks.now c.in_ok-check.ensures c.has_room.ensures.kept c.has_room.ensures.fits c.if-not-has_room.false-raw
    c.put_words-words.ensures.number c.put_words-words.ensures.kept c.put_words-words.ensures.written
