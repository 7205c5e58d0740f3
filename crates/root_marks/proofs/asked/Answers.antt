-- `root_marks::asked` meets its contract.
use mathlib.Core.Path.{refl, ap, ◌∙◌}
use Rattle.graph.specs.Graph.{lent_of}
use Rattle.graph.specs.Check.{check_seen}
use Rattle.std.specs.Prelude.{Ok, Err}
use Rattle.edge.specs.declared.answer.Refusal.TheVariants.{BadArgument}
use Rattle.edge.proofs.Answers.{handed_on}
use Rattle.root_marks.proofs.Arguments.{args_room, args_refused, args_done}
use Rattle.root_marks.proofs.asked.Goals as goal

pub returns-then-not-room : goal.returns-then-not-room
returns-then-not-room c = args_room c.args.room c.args.good (lent_of c.args.graph.now) c.args.marks.now c.if-not-room.true

pub returns-in_err-check : goal.returns-in_err-check
returns-in_err-check c =
    ap (λ r. check_seen r c.check.new.marks) (handed_on _ _ c.from_residual.ensures.1) ∙
    args_refused c.args.room c.args.good (lent_of c.args.graph.now) c.args.marks.now c.if-not-room.false _ _ c.check.ensures _ c.in_err-check.was

pub returns-then-good : goal.returns-then-good
returns-then-good c =
    args_done c.args.room c.args.good (lent_of c.args.graph.now) c.args.marks.now c.if-not-room.false _ _ c.check.ensures c.in_ok-check.was (Ok tt) (rw c.if-good.true refl)

pub returns-else-good : goal.returns-else-good
returns-else-good c =
    args_done c.args.room c.args.good (lent_of c.args.graph.now) c.args.marks.now c.if-not-room.false _ _ c.check.ensures c.in_ok-check.was (Err BadArgument) (rw c.if-good.false refl)
