-- `kept_rows::copies::write_inputs` meets its contract.
use native.Mathlib.Omega.{arith}
use mathlib.Core.Path.{sym, ◌∙◌}
use Rattle.renumber.specs.Renumber.{ids_of, by}
use Rattle.kept_rows.specs.Keeping.{word_put, numbered, kept_input}
use Rattle.kept_rows.proofs.Copying.{keep_start, keep_taken, keep_left, keep_room}
use Rattle.graph.proofs.Counting.{count_small}
use borrow.Author.Rules.{rules}
use Rattle.kept_rows.proofs.copies.write_inputs.Goals as goal
use Rattle.kept_rows.proofs.copies.write_inputs.Goals.{else-is_numbered, then-is_numbered}

pub loop-input-init : goal.loop-input-init
loop-input-init c = (search rules, keep_start (kept_input (numbered c.args.map.now) c.args.inputs.now) (word_put (ids_of (by c.args.map.now) c.args.inputs.now)) c.args.out.now)

pub offset_bounds-out-k : goal.offset_bounds-out-k
offset_bounds-out-k c = omega (arith, count_small _ _ c.loop-input.invariant.1.count)

pub bounds-out-k : goal.bounds-out-k
bounds-out-k c =
    omega (
      arith,
      c.requires.room,
      keep_room (kept_input (numbered c.args.map.now) c.args.inputs.now) (word_put (ids_of (by c.args.map.now) c.args.inputs.now)) c.args.out.now c.loop-input.input-index _
          c.loop-input.invariant.1 c.loop-input-test.true (sym c.is_numbered.ensures ∙ c.if-is_numbered.true),
    )

pub overflow_add-k : goal.overflow_add-k
overflow_add-k c = omega (arith, count_small _ _ c.loop-input.invariant.1.count)

pub loop-input-preserved : goal.loop-input-preserved
loop-input-preserved c =
    let kept = kept_input (numbered c.args.map.now) c.args.inputs.now in
    let put = word_put (ids_of (by c.args.map.now) c.args.inputs.now) in
    let l = c.loop-input in (
      search rules,
      elim c.if-is_numbered.branch [
        | then-is_numbered w ↦ keep_taken kept put c.args.out.now l.input-index l.invariant.1 (sym c.is_numbered.ensures ∙ w.if-is_numbered.true) w.out-is w.k-is
        | else-is_numbered w ↦ keep_left kept put c.args.out.now l.input-index l.invariant.1 (sym c.is_numbered.ensures ∙ w.if-is_numbered.false) w.out-is w.k-is
      ],
    )
