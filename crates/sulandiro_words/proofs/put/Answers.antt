-- `sulandiro_words::put` meets its contract.
use Rattle.sulandiro_words.proofs.Words.{set_beyond}
use Rattle.sulandiro_words.proofs.put.Goals as goal

pub returns-then-words-i : goal.returns-then-words-i
returns-then-words-i c = set_beyond _ _ _ c.if-words-i.true
