-- `record_unroll::unroll_words` meets its contract.
use mathlib.Core.List.{List, ◌++◌}
use Prim.Native.Nat.{ℕ, ◌*◌}
use mathlib.Core.Path.{◌≡◌}
use lib.ListN.{length, drop}
use Rattle.edge.specs.Answers.{value_or}
use Rattle.graph.specs.Graph.{lent_of}
use Rattle.output.specs.Tables.{lent_in}
use Rattle.renumber.specs.Seen.{rebuilt_seen}
use Rattle.records.specs.Checking.{with_words}
use Rattle.record_unroll.specs.Call.{unroll_with, unroll_refused}
use Rattle.records.proofs.Pairing.{too_few_first, too_few_second, done_both}
use Rattle.record_unroll.proofs.unroll_words.Goals as goal

pub returns-then-words-n-clause-unrolled : goal.returns-then-words-n-clause-unrolled
returns-then-words-n-clause-unrolled c =
    let a = c.args in
    let first = lent_in a.tables.now a.counts in
    too_few_first (unroll_with first (lent_of a.graph.now) a.marks.now) (unroll_refused first a.marks.now) a.n a.words.now a.n2 a.words2.now c.if-words-n.true

pub returns-then-words2-n2-clause-unrolled : goal.returns-then-words2-n2-clause-unrolled
returns-then-words2-n2-clause-unrolled c =
    let a = c.args in
    let first = lent_in a.tables.now a.counts in
    too_few_second (unroll_with first (lent_of a.graph.now) a.marks.now) (unroll_refused first a.marks.now) a.n a.words.now a.n2 a.words2.now c.if-words-n.false c.if-words2-n2.true

pub returns-clause-unrolled : goal.returns-clause-unrolled
returns-clause-unrolled c =
    let a = c.args in
    let first = lent_in a.tables.now a.counts in
    let r = c.unroll_on in
    let k : length (r.new.latches ++ drop (3 * a.n) a.words.now) ≡ length a.words.now = c.words-1.given.1 in
    done_both (unroll_with first (lent_of a.graph.now) a.marks.now) (unroll_refused first a.marks.now) a.n a.words.now a.n2 a.words2.now c.if-words-n.false c.if-words2-n2.false
    (λ (l : List ℕ). rebuilt_seen r.result (with_words (lent_in r.new.tables (value_or a.counts r.result)) l) r.new.marks) r.new.latches k r.ensures.unrolled
