-- `sulandiro_words::tell_counts` meets its contract.
use Rattle.sulandiro_words.specs.Words.{count_words}
use Rattle.sulandiro_words.proofs.tell_counts.Goals as goal

pub returns : goal.returns
unfolding count_words
returns c =
    rw (
      c.put-9.ensures,
      c.put-8.ensures,
      c.put-7.ensures,
      c.put-6.ensures,
      c.put-5.ensures,
      c.put-4.ensures,
      c.put-3.ensures,
      c.put-2.ensures,
      c.put.ensures,
    )
