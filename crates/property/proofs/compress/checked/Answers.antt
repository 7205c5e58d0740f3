-- `property::compress::checked` meets its contract.
use lib.ListN.{length}
use lib.Dec.{leb}
use mathlib.Core.Path.{sym, ap, ◌∙◌}
use borrow.Author.Tests.{lt-leb, le-leb}
use Rattle.edge.proofs.Answers.{handed_on}
use lib.Seq.{length-take-le}
use native.Mathlib.Omega.{arith}
use Rattle.gates.specs.Gates.{State}
use Rattle.rows.specs.Sizes.{max_entries}
use Rattle.graph.specs.Graph.{lent_of}
use Rattle.graph.specs.Check.{check_seen}
use Rattle.property.specs.Compress.{compress_room, compress_checked}
use Rattle.property.proofs.Answering.{limit_passed, check_stops, check_right, check_room, check_full}
use Rattle.property.proofs.Compressing.{or_room, or_ready}
use Rattle.property.proofs.compress.checked.Goals as goal

pub returns-then-old-gt-MAX_ENTRIES : goal.returns-then-old-gt-MAX_ENTRIES
unfolding compress_checked
returns-then-old-gt-MAX_ENTRIES c =
    let g = lent_of c.args.graph.now in
    let o = c.args.old.now in
    limit_passed (leb (length o) max_entries) (compress_room g o) g c.args.marks.now (lt-leb (length o) max_entries c.if-old-gt-MAX_ENTRIES.true)

pub returns-in_err-check : goal.returns-in_err-check
unfolding compress_checked
returns-in_err-check c =
    let g = lent_of c.args.graph.now in
    let o = c.args.old.now in
    ap (λ r. check_seen r c.check.new.marks) (handed_on _ _ c.from_residual.ensures.1) ∙
    check_stops (leb (length o) max_entries) (compress_room g o) g c.args.marks.now (le-leb (length o) max_entries c.if-old-gt-MAX_ENTRIES.false) _ _ c.in_err-check.ensures

pub add_list-dry-requires : goal.add_list-dry-requires
add_list-dry-requires c =
    let g = lent_of c.args.graph.now in
    let o = c.args.old.now in
    let or = or_ready g _
    (check_right (leb (length o) max_entries) (compress_room g o) g c.args.marks.now (le-leb (length o) max_entries c.if-old-gt-MAX_ENTRIES.false) _ c.in_ok-check.ensures).0 in
    record { used_bound = omega (arith, or.few); edges_len_bound = omega (arith, or.limited, length-take-le g.counts.bads g.bads or.has) }

pub returns-then-dry-graph : goal.returns-then-dry-graph
unfolding compress_checked
returns-then-dry-graph c =
    let g = lent_of c.args.graph.now in
    let o = c.args.old.now in
    check_room (leb (length o) max_entries) (compress_room g o) g c.args.marks.now (le-leb (length o) max_entries c.if-old-gt-MAX_ENTRIES.false) _ c.in_ok-check.ensures
    (or_room g o (ap (λ (s : State). s.used) c.add_list-dry.ensures) c.if-dry-graph.true)

pub returns-else-dry-graph : goal.returns-else-dry-graph
unfolding compress_checked
returns-else-dry-graph c =
    let g = lent_of c.args.graph.now in
    let o = c.args.old.now in
    check_full (leb (length o) max_entries) (compress_room g o) g c.args.marks.now (le-leb (length o) max_entries c.if-old-gt-MAX_ENTRIES.false) _ c.in_ok-check.ensures
    (or_room g o (ap (λ (s : State). s.used) c.add_list-dry.ensures) c.if-dry-graph.false)

pub slice_bounds-add_list-end-2 : goal.slice_bounds-add_list-end-2
slice_bounds-add_list-end-2 c =
    let g = lent_of c.args.graph.now in
    let o = c.args.old.now in
    let or = or_ready g _
    (check_right (leb (length o) max_entries) (compress_room g o) g c.args.marks.now (le-leb (length o) max_entries c.if-old-gt-MAX_ENTRIES.false) _ c.in_ok-check.ensures).0 in
    sym (length-take-le g.counts.bads g.bads or.has)
