-- `unroll_to::answer_of` meets its contract.
use borrow.Author.Tests.{lt-ltb, le-ltb}
use Rattle.unroll_to.specs.Call.{frames_answer}
use Rattle.unroll_to.proofs.answer_of.Goals as goal

pub returns-then-finished-frames : goal.returns-then-finished-frames
unfolding frames_answer
returns-then-finished-frames c = rw (lt-ltb _ _ c.if-finished-frames.true)

pub returns : goal.returns
unfolding frames_answer
returns c = rw (le-ltb _ _ c.if-finished-frames.false)
