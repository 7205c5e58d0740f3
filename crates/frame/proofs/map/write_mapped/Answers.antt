-- `frame::map::write_mapped` meets its contract.
use mathlib.Core.Path.{◌∙◌}
use borrow.Author.Rules.{rules}
use Rattle.output.proofs.Writing.{each_taken}
use Rattle.frame.specs.Map.{mapped}
use Rattle.frame.proofs.map.write_mapped.Goals as goal

pub returns : goal.returns
returns c =
    let a = c.args in
    c.write_each.ensures (mapped a.map.now) (λ x r p. search rules) ∙ each_taken a.out.now a.at (mapped a.map.now) a.list.now a.n c.requires.used_edges.has
