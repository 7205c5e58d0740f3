-- `output::tables::copy_words` meets its contract.
use Prim.Native.Nat.{ℕ}
use mathlib.Core.Path.{◌∙◌}
use borrow.Author.Rules.{rules}
use Rattle.output.specs.Copying.{copied}
use Rattle.output.proofs.Writing.{each_taken}
use Rattle.output.proofs.tables.copy_words.Goals as goal

pub returns : goal.returns
unfolding copied
returns c =
    let a = c.args in
    c.write_each.ensures (λ (x : ℕ). x) (λ x r p. search rules) ∙ each_taken a.out.now 0 (λ (x : ℕ). x) a.list.now a.n c.requires.has
