-- `merge::write_rows` meets its contract.
use borrow.Author.Rules.{rules}
use Rattle.renumber.specs.Renumber.{renamed}
use Rattle.merge.specs.Merge.{shifted}
use Rattle.merge.proofs.write_rows.Goals as goal

pub returns : goal.returns
returns c = c.write_each.ensures (renamed (shifted c.args.by)) (λ x r p. search rules)
