-- `kept_rows::copies::write_rows` meets its contract.
use Prim.Native.Nat.{ℕ}
use native.Mathlib.Omega.{arith}
use mathlib.Core.Path.{sym, ◌∙◌}
use Rattle.renumber.specs.Renumber.{by}
use Rattle.kept_rows.specs.Keeping.{word_put, numbered}
use Rattle.kept_rows.specs.Copying.{row_put}
use Rattle.kept_rows.proofs.Copying.{keep_start, keep_taken, keep_left, keep_room}
use Rattle.graph.proofs.Counting.{count_small}
use borrow.Author.Rules.{rules}
use Rattle.kept_rows.proofs.copies.write_rows.Goals as goal
use Rattle.kept_rows.proofs.copies.write_rows.Goals.{else-is_numbered, then-is_numbered}

pub loop-i-init : goal.loop-i-init
loop-i-init c = (
  search rules,
  keep_start (numbered c.args.map.now) (row_put (by c.args.map.now) c.args.rows.now) c.args.out.now,
  keep_start (numbered c.args.map.now) (word_put (λ (j : ℕ). j)) c.args.old.now,
)

pub copy_row-requires : goal.copy_row-requires
copy_row-requires c =
    let a = c.args in
    record {
      row = omega (arith, c.requires.long);
      place = omega (
        arith,
        c.requires.room,
        keep_room (numbered a.map.now) (row_put (by a.map.now) a.rows.now) a.out.now c.loop-i.i a.used c.loop-i.invariant.1 c.loop-i-test.true
            (sym c.is_numbered.ensures ∙ c.if-is_numbered.true),
      );
      small = omega (arith, c.requires.small);
      known = λ j l. c.requires.known j (omega arith);
    }

pub offset_bounds-old-k : goal.offset_bounds-old-k
offset_bounds-old-k c = omega (arith, count_small _ _ c.loop-i.invariant.1.count, c.requires.small)

pub bounds-old-k : goal.bounds-old-k
bounds-old-k c =
    let a = c.args in
    omega (
      arith,
      c.requires.old_room,
      keep_room (numbered a.map.now) (row_put (by a.map.now) a.rows.now) a.out.now c.loop-i.i a.used c.loop-i.invariant.1 c.loop-i-test.true
          (sym c.is_numbered.ensures ∙ c.if-is_numbered.true),
    )

pub overflow_add-k : goal.overflow_add-k
overflow_add-k c = omega (arith, count_small _ _ c.loop-i.invariant.1.count, c.requires.small)

pub loop-i-preserved : goal.loop-i-preserved
loop-i-preserved c =
    let kept = numbered c.args.map.now in
    let put = row_put (by c.args.map.now) c.args.rows.now in
    let same = word_put (λ (j : ℕ). j) in
    let l = c.loop-i in (
      search rules,
      elim c.if-is_numbered.branch [
        | then-is_numbered w ↦ keep_taken kept put c.args.out.now l.i l.invariant.1 (sym c.is_numbered.ensures ∙ w.if-is_numbered.true) (w.out-is ∙ w.copy_row.ensures) w.k-is
        | else-is_numbered w ↦ keep_left kept put c.args.out.now l.i l.invariant.1 (sym c.is_numbered.ensures ∙ w.if-is_numbered.false) w.out-is w.k-is
      ],
      elim c.if-is_numbered.branch [
        | then-is_numbered w ↦ keep_taken kept same c.args.old.now l.i l.invariant.2 (sym c.is_numbered.ensures ∙ w.if-is_numbered.true) w.old-is w.k-is
        | else-is_numbered w ↦ keep_left kept same c.args.old.now l.i l.invariant.2 (sym c.is_numbered.ensures ∙ w.if-is_numbered.false) w.old-is w.k-is
      ],
    )
