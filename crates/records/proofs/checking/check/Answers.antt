-- `records::checking::check` meets its contract.
use Rattle.std.proofs.Common.{ap, length, ◌∙◌}
use Rattle.graph.specs.Graph.{lent_of}
use Rattle.records.specs.Checking.{check_with, check_refused}
use Rattle.records.specs.Steps.{on_words}
use Rattle.records.proofs.Working.{on_records_lem}
use Rattle.records.proofs.checking.check.Goals as goal

pub returns : goal.returns
returns c =
    let a = c.args in
    let call = check_with (lent_of a.graph.now) a.marks.now in
    c.check_words.ensures
    ∙ ap (λ words. on_words (length a.latches.now) words call (check_refused a.marks.now)) c.to_words.ensures
    ∙ on_records_lem call (check_refused a.marks.now) a.latches.now a.words.now
