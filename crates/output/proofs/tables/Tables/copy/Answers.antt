-- `output::tables::Tables::copy` meets its contract.
use native.Mathlib.Omega.{arith}
use Rattle.graph.specs.Graph.{lent_of}
use Rattle.output.specs.Tables.{lent_in}
use Rattle.output.proofs.Copying.{all_copied}
use Rattle.output.proofs.tables.Tables.copy.Goals as goal

pub copy_words-requires : goal.copy_words-requires
copy_words-requires c = record { has = omega (arith, c.requires.has.rows); room = omega (arith, c.requires.room.rows) }

pub copy_words-requires-2 : goal.copy_words-requires-2
copy_words-requires-2 c = record { has = omega (arith, c.requires.has.inputs); room = omega (arith, c.requires.room.inputs) }

pub copy_words-requires-3 : goal.copy_words-requires-3
copy_words-requires-3 c = record { has = omega (arith, c.requires.has.latches); room = omega (arith, c.requires.room.latches) }

pub copy_words-requires-4 : goal.copy_words-requires-4
copy_words-requires-4 c = record { has = omega (arith, c.requires.has.constraints); room = omega (arith, c.requires.room.constraints) }

pub copy_words-requires-5 : goal.copy_words-requires-5
copy_words-requires-5 c = record { has = omega (arith, c.requires.has.bads); room = omega (arith, c.requires.room.bads) }

pub copy_words-requires-6 : goal.copy_words-requires-6
copy_words-requires-6 c = record { has = omega (arith, c.requires.has.outputs); room = omega (arith, c.requires.room.outputs) }

pub copy_words-requires-7 : goal.copy_words-requires-7
copy_words-requires-7 c = record { has = omega (arith, c.requires.has.ends); room = omega (arith, c.requires.room.ends) }

pub copy_words-requires-8 : goal.copy_words-requires-8
copy_words-requires-8 c = record { has = omega (arith, c.requires.has.edges); room = omega (arith, c.requires.room.edges) }

pub copy_words-requires-9 : goal.copy_words-requires-9
copy_words-requires-9 c = record { has = omega (arith, c.requires.has.fairness); room = omega (arith, c.requires.room.fairness) }

pub returns-clause-copied : goal.returns-clause-copied
returns-clause-copied c =
    let n = c.args.graph.now.counts in
    all_copied n (lent_of c.args.graph.now) (lent_in c.args.self.now n) c.copy_words.ensures c.copy_words-2.ensures c.copy_words-3.ensures c.copy_words-4.ensures c.copy_words-5.ensures
    c.copy_words-6.ensures c.copy_words-7.ensures c.copy_words-8.ensures c.copy_words-9.ensures
