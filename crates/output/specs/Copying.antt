-- A graph copied to the front of an output graph's lists.
-- Assumes nothing.
use Rattle.std.specs.Prelude.{ℕ, ◌*◌, List, get_or}
use Rattle.graph.specs.declared.Counts.{Counts}
use Rattle.graph.specs.Latches.{latch_words}
use Rattle.graph.specs.Graph.{Lent, lent}
use Rattle.output.specs.Writing.{written}

-- word j of a list
abbrev pub words_of : List ℕ → ℕ → ℕ
words_of list j = get_or list j 0

-- the first n words of `list` at the front of `out`; the words behind them stay
unfoldable pub copied : List ℕ → List ℕ → ℕ → List ℕ
copied out list n = written out 0 (words_of list) n

-- of each list as many entries as n counts: two words a row, and those of a latch
unfoldable pub copy_of : Counts → Lent → Lent → Lent
copy_of n g out =
    lent
    (copied out.rows g.rows (2 * n.rows))
    (copied out.inputs g.inputs n.inputs)
    (copied out.latches g.latches (latch_words * n.latches))
    (copied out.constraints g.constraints n.constraints)
    (copied out.bads g.bads n.bads)
    (copied out.outputs g.outputs n.outputs)
    (copied out.ends g.ends n.sets)
    (copied out.edges g.edges n.edges)
    (copied out.fairness g.fairness n.fairness)
    n
