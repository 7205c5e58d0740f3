-- `cone::fanin_logic_cone` meets its contract.
use mathlib.Core.Path.{sym, ap, ◌∙◌}
use Rattle.edge.proofs.Answers.{handed_on}
use Rattle.graph.specs.Graph.{lent_of}
use Rattle.graph.specs.Check.{check_seen}
use Rattle.cone.specs.Call.{cone_seen, cone_checked}
use Rattle.cone.proofs.Call.{ConeReady, roomy_checked, ready, cone_refused, cone_done}
use Rattle.std.specs.Prelude.{◌≡◌, length, Ok, Err}
use Rattle.cone.proofs.fanin_logic_cone.Goals as goal
use Rattle.cone.proofs.fanin_logic_cone.Goals.{In_ok-asked}

-- the call is accepted
seen : (c : In_ok-asked) → let graph = lent_of c.args.graph.now in
    check_seen (Ok tt) c.asked.new.marks ≡ cone_checked graph c.args.roots.now (length c.args.flags.now) c.args.marks.now
seen c = roomy_checked (lent_of c.args.graph.now) c.args.roots.now c.args.flags.now c.args.marks.now (Ok tt) c.roots_good.ensures c.in_ok-asked.ensures

known : (c : In_ok-asked) → ConeReady (lent_of c.args.graph.now) c.args.roots.now c.args.flags.now
known c = ready (lent_of c.args.graph.now) c.args.roots.now c.args.flags.now c.args.marks.now (seen c)

pub returns-in_err-asked : goal.returns-in_err-asked
returns-in_err-asked c =
    let graph = lent_of c.args.graph.now in
    ap (λ r. cone_seen r c.args.flags.now c.asked.new.marks) (handed_on _ _ c.from_residual.ensures.1) ∙
    cone_refused graph c.args.roots.now c.args.flags.now c.args.marks.now _
    (roomy_checked graph c.args.roots.now c.args.flags.now c.args.marks.now (Err c.in_err-asked.field-0.0) c.roots_good.ensures c.in_err-asked.ensures)

pub slice_bounds-write-end : goal.slice_bounds-write-end
slice_bounds-write-end c = (known (goal.at.slice_bounds-write-end c).In_ok-asked).long

pub slice_bounds-write-end-2 : goal.slice_bounds-write-end-2
slice_bounds-write-end-2 c = sym (known (goal.at.slice_bounds-write-end-2 c).In_ok-asked).part

pub write-requires : goal.write-requires
write-requires c = record { flags_in_bounds = (known (goal.at.write-requires c).In_ok-asked).rows; roots_value = (known (goal.at.write-requires c).In_ok-asked).used }

pub returns : goal.returns
returns c = cone_done (lent_of c.args.graph.now) c.args.roots.now c.args.flags.now c.args.marks.now (seen (goal.at.returns c).In_ok-asked) c.write.ensures
