-- `sulandiro_words::counts_in` meets its contract.
use Rattle.sulandiro_words.specs.Words.{counts_in}
use Rattle.sulandiro_words.proofs.counts_in.Goals as goal

pub returns : goal.returns
unfolding counts_in
returns c =
    rw (
      c.at.ensures,
      c.at-2.ensures,
      c.at-3.ensures,
      c.at-4.ensures,
      c.at-5.ensures,
      c.at-6.ensures,
      c.at-7.ensures,
      c.at-8.ensures,
      c.at-9.ensures,
    )
