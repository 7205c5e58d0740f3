-- `marked::table::words` meets its contract: the words are those of the table, by computation.
use mathlib.Core.Path.{refl}
use Rattle.sulandiro_words.specs.Words.{given_words, count_words}
use Rattle.gate_clauses.specs.Shapes.{words}
use Rattle.marked.specs.Table.{table}
use Rattle.marked.specs.Words.{encoded}
use Rattle.marked.proofs.table.words.Goals as goal

pub returns : goal.returns
unfolding encoded words table count_words given_words
returns c = refl
