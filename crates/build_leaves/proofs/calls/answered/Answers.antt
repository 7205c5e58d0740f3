-- `build_leaves::calls::answered` meets its contract.
use Rattle.build_leaves.specs.Calls.{constructor_answer}
use Rattle.build_leaves.proofs.calls.answered.Goals as goal

pub returns-then-not-sizes : goal.returns-then-not-sizes
unfolding constructor_answer
returns-then-not-sizes c = rw c.if-not-sizes.true

pub returns-then-not-good : goal.returns-then-not-good
unfolding constructor_answer
returns-then-not-good c = rw (c.if-not-sizes.false, c.if-not-good.true)

pub returns-then-not-room : goal.returns-then-not-room
unfolding constructor_answer
returns-then-not-room c = rw (c.if-not-sizes.false, c.if-not-good.false, c.if-not-room.true)

pub returns : goal.returns
unfolding constructor_answer
returns c = rw (c.if-not-sizes.false, c.if-not-good.false, c.if-not-room.false)
