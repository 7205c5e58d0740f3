-- `renumber::write_edges` meets its contract.
use mathlib.Core.Path.{◌∙◌}
use borrow.Author.Rules.{rules}
use Rattle.output.proofs.Writing.{each_taken}
use Rattle.renumber.specs.Renumber.{renamed, by}
use Rattle.renumber.proofs.write_edges.Goals as goal

pub returns : goal.returns
returns c =
    let a = c.args in
    c.write_each.ensures (renamed (by a.map.now)) (λ x r p. search rules) ∙ each_taken a.out.now a.at (renamed (by a.map.now)) a.list.now a.n c.requires.has
