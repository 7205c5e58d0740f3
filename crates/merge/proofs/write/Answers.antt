-- `merge::write` meets its contract.
use native.Mathlib.Omega.{arith}
use Prim.Native.Nat.{ℕ, ◌≤◌}
use mathlib.Core.Path.{◌≡◌, ◌∙◌}
use mathlib.Core.List.{List, ◌++◌}
use lib.ListN.{length, drop}
use Rattle.output.proofs.Writing.{written_length}
use Rattle.std.proofs.lemmas.List.{length-take-le}
use Rattle.graph.specs.Graph.{lent_of}
use Rattle.output.specs.Tables.{lent_in}
use Rattle.output.specs.Writing.{written}
use Rattle.renumber.specs.Steps.{MarksHold}
use Rattle.merge.specs.Merge.{shifted, offset}
use Rattle.merge.proofs.Ready.{few, filled_front, filled, map_cleared, rows_ready, inputs_ready, all_ready, whole}
use Rattle.merge.proofs.write.Goals as goal
use Rattle.merge.proofs.write.Goals.{After-fill}

-- the map, and the marks behind it
abbrev map : After-fill → List ℕ
map c = c.fill.new.map ++ drop c.args.other.now.counts.rows c.args.marks.now

mapped : (c : After-fill) → map c ≡ written c.args.marks.now 0 (shifted (offset (lent_in c.args.tables.now c.args.counts))) c.args.other.now.counts.rows
mapped c = filled_front (shifted (offset (lent_in c.args.tables.now c.args.counts))) c.args.other.now.counts.rows c.args.marks.now c.fill.ensures c.requires.sized.second.marked

held : (c : After-fill) → MarksHold c.args.other.now.counts.rows (shifted (offset (lent_in c.args.tables.now c.args.counts))) (map c)
held c = filled (shifted (offset (lent_in c.args.tables.now c.args.counts))) c.args.other.now.counts.rows c.args.marks.now (mapped c) c.requires.sized.second.marked

long : (c : After-fill) → c.args.other.now.counts.rows ≤ length (map c)
long c =
    rw (mapped c, written_length c.args.marks.now 0 (shifted (offset (lent_in c.args.tables.now c.args.counts))) c.args.other.now.counts.rows)
    c.requires.sized.second.marked

pub fill-requires : goal.fill-requires
fill-requires c =
    omega (
      arith,
      length-take-le c.args.other.now.counts.rows c.args.marks.now c.requires.sized.second.marked,
      few (lent_in c.args.tables.now c.args.counts) (lent_of c.args.other.now) _ c.requires,
      c.requires.sized.first.rows.some,
    )

pub write_rows-requires : goal.write_rows-requires
write_rows-requires c = rows_ready (lent_in c.args.tables.now c.args.counts) (lent_of c.args.other.now) _ c.requires

pub write_ids-requires : goal.write_ids-requires
write_ids-requires c =
    inputs_ready (lent_in c.args.tables.now c.args.counts) (lent_of c.args.other.now) _ c.requires _ (held (goal.at.write_ids-requires c).After-fill)
    (long (goal.at.write_ids-requires c).After-fill)

pub write_lists-requires-clause-lists_ready : goal.write_lists-requires-clause-lists_ready
write_lists-requires-clause-lists_ready c =
    all_ready (lent_in c.args.tables.now c.args.counts) (lent_of c.args.other.now) _ c.requires _
    (held (goal.at.write_lists-requires-clause-lists_ready c).After-fill)
    (long (goal.at.write_lists-requires-clause-lists_ready c).After-fill)

pub returns-clause-all_written : goal.returns-clause-all_written
returns-clause-all_written c =
    whole (lent_in c.args.tables.now c.args.counts) (lent_of c.args.other.now) _ c.requires _ (held (goal.at.returns-clause-all_written c).After-fill)
    (c.write_lists.ensures.leaves_kept.0 ∙ c.write_rows.ensures) (c.write_lists.ensures.leaves_kept.1 ∙ c.write_ids.ensures) c.write_lists.ensures.lists_written

pub returns-clause-marks_after : goal.returns-clause-marks_after
returns-clause-marks_after c =
    map_cleared (shifted (offset (lent_in c.args.tables.now c.args.counts))) c.args.other.now.counts.rows c.args.marks.now (mapped (goal.at.returns-clause-marks_after c).After-fill) c.clear.ensures
