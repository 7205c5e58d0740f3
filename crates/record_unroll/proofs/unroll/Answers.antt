-- `record_unroll::unroll` meets its contract.
use Rattle.std.proofs.Common.{ℕ, List, length, refl, ap, ◌∙◌}
use Rattle.edge.specs.Answers.{value_or}
use Rattle.graph.specs.Graph.{lent_of}
use Rattle.output.specs.Tables.{lent_in}
use Rattle.renumber.specs.Seen.{RebuiltSeen, rebuilt_seen}
use Rattle.records.specs.Checking.{with_words}
use Rattle.records.specs.Table.{words_of, wiped}
use Rattle.records.specs.Steps.{on_both}
use Rattle.records.specs.Pairing.{pair_seen}
use Rattle.records.proofs.Pairing.{on_both_nexts}
use Rattle.record_unroll.specs.Call.{unroll_with, unroll_refused}
use Rattle.record_unroll.proofs.Nexting.{unroll_alone}
use Rattle.record_unroll.proofs.unroll.Goals as goal

pub returns-clause-unrolled : goal.returns-clause-unrolled
returns-clause-unrolled c =
    let a = c.args in
    let t = a.latches.now in
    let t2 = a.latches2.now in
    let first = lent_in a.tables.now a.counts in
    let second = lent_of a.graph.now in
    let call = unroll_with first second a.marks.now in
    let refused = unroll_refused first a.marks.now in
    let r = c.unroll_words-answer in
    let seen = λ (l : List ℕ). rebuilt_seen r.result (with_words (lent_in r.new.tables (value_or a.counts r.result)) l) r.new.marks in
    let e₁ = c.to_words.ensures in
    let e₂ = c.to_words-2.ensures in
    let called = r.ensures.unrolled ∙ (λ j. on_both (length t) (e₁ j) (length t2) (e₂ j) call refused) in
    (λ j. pair_seen (seen (words_of c.nexts_back.new.table)) (c.wipe.ensures j) ((c.wipe-2.ensures ∙ ap (wiped (length t2)) e₂) j)) ∙
    on_both_nexts call refused seen (λ (s : RebuiltSeen). s.graph.latches)
    (λ (s : RebuiltSeen) (l : List ℕ). record { given = s.given; graph = with_words s.graph l; marks = s.marks })
    (λ l. refl) (λ l. refl) (λ l m. refl) (λ l m. refl) (λ (x y : List ℕ). unroll_alone (with_words first x) (with_words second y) a.marks.now) t a.words.now t2 a.words2.now
    r.new.words called (r.auto.words ∙ c.to_words.auto.words) c.nexts_back.new.table c.nexts_back.ensures
