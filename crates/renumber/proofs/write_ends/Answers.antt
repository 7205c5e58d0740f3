-- `renumber::write_ends` meets its contract.
use mathlib.Core.Path.{◌∙◌}
use Prim.Native.Nat.{ℕ, ◌+◌}
use borrow.Author.Rules.{rules}
use Rattle.output.proofs.Writing.{each_taken}
use Rattle.renumber.proofs.write_ends.Goals as goal

pub returns : goal.returns
returns c =
    let a = c.args in
    c.write_each.ensures (λ (x : ℕ). x + a.by) (λ x r p. search rules) ∙ each_taken a.out.now a.at (λ (x : ℕ). x + a.by) a.ends.now a.n c.requires.has
