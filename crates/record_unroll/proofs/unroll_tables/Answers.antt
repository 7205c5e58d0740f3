-- `record_unroll::unroll_tables` meets its contract.
use Rattle.std.proofs.Common.{ℕ, List, ap, ◌∙◌}
use Rattle.edge.specs.Answers.{value_or}
use Rattle.graph.specs.Graph.{Lent, lent_of}
use Rattle.records.specs.Local.{held as held_in}
use Rattle.output.specs.Tables.{lent_in}
use Rattle.renumber.specs.Seen.{rebuilt_seen}
use Rattle.records.specs.Checking.{with_words}
use Rattle.records.specs.Table.{laid_out}
use Rattle.record_unroll.specs.Call.{unroll_with, unroll_refused}
use Rattle.record_unroll.proofs.Bridging.{through}
use Rattle.record_unroll.proofs.unroll_tables.Goals as goal

pub returns-clause-unrolled : goal.returns-clause-unrolled
returns-clause-unrolled c =
    let a = c.args in
    let first = lent_in a.tables.now a.counts in
    let call = unroll_with first (lent_of a.graph.now) a.marks.now in
    let refused = unroll_refused first a.marks.now in
    let r = c.unroll-answer in
    through call refused a.tables.now.latches.now a.words.now a.graph.now.latches.now a.words2.now
    (λ (l : List ℕ). rebuilt_seen r.result (with_words (lent_in r.new.tables (value_or a.counts r.result)) l) r.new.marks)
    c.requires.0 c.requires.1 c.records_back.new.table c.records_back-2.new.table r.new.latches
    (c.records_back.ensures ∙ ap (λ (g : Lent). held_in g.latches) c.graph.ensures) c.records_back-2.ensures
    (r.auto.latches ∙ c.records_back.auto.table) c.to_words.new.words r.new.words r.new.words2 r.ensures.unrolled
    (c.to_words.ensures ∙ ap (laid_out r.new.latches) r.ensures.latches_kept)
