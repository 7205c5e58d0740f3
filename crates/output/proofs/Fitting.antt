-- Laws of an output graph's room.
-- Assumes nothing.
use mathlib.Core.Path.{◌≡◌}
use mathlib.Core.Bool.{true}
use lib.ListN.{length}
use lib.Dec.{leb}
use borrow.Author.Tests.{leb-true, le-leb}
use Rattle.edge.proofs.Tests.{both, both_true}
use Rattle.rows.specs.Sizes.{max_rows, max_entries, rows_lent}
use Rattle.graph.specs.declared.Counts.{Counts}
use Rattle.graph.specs.Latches.{latches_lent}
use Rattle.graph.specs.Graph.{Lent}
use Rattle.output.specs.Room.{room_in, limits_in, limits, Limited, fits_in, Fits, has_room, Room}

module _ (out : Lent) where
  pub limited : limits out ≡ true → Limited out
  unfolding limits_in
  limited h =
      let a = both {b = leb (length out.fairness) max_entries} h in
      let b = both {b = leb (length out.edges) max_entries} a.0 in
      let c = both {b = leb (length out.ends) max_entries} b.0 in
      let d = both {b = leb (length out.outputs) max_entries} c.0 in
      let e = both {b = leb (length out.bads) max_entries} d.0 in
      let f = both {b = leb (length out.constraints) max_entries} e.0 in
      let i = both {b = leb (latches_lent out.latches) max_entries} f.0 in
      let j = both {a = leb (rows_lent out.rows) max_rows} {b = leb (length out.inputs) max_entries} i.0 in
      record {
        rows = leb-true _ _ j.0;
        inputs = leb-true _ _ j.1;
        latches = leb-true _ _ i.1;
        constraints = leb-true _ _ f.1;
        bads = leb-true _ _ e.1;
        outputs = leb-true _ _ d.1;
        ends = leb-true _ _ c.1;
        edges = leb-true _ _ b.1;
        fairness = leb-true _ _ a.1;
      }

  pub limits_true : Limited out → limits out ≡ true
  unfolding limits_in
  limits_true s =
      both_true (both_true (both_true (both_true (both_true (both_true (both_true (both_true
      (le-leb _ _ s.rows)
      (le-leb _ _ s.inputs))
      (le-leb _ _ s.latches))
      (le-leb _ _ s.constraints))
      (le-leb _ _ s.bads))
      (le-leb _ _ s.outputs))
      (le-leb _ _ s.ends))
      (le-leb _ _ s.edges))
      (le-leb _ _ s.fairness)

module _ (room n : Counts) where
  pub fits_known : fits_in room n ≡ true → Fits room n
  unfolding fits_in
  fits_known h =
      let a = both {b = leb n.fairness room.fairness} h in
      let b = both {b = leb n.edges room.edges} a.0 in
      let c = both {b = leb n.sets room.sets} b.0 in
      let d = both {b = leb n.outputs room.outputs} c.0 in
      let e = both {b = leb n.bads room.bads} d.0 in
      let f = both {b = leb n.constraints room.constraints} e.0 in
      let i = both {b = leb n.latches room.latches} f.0 in
      let j = both {a = leb n.rows room.rows} {b = leb n.inputs room.inputs} i.0 in
      record {
        rows = leb-true _ _ j.0;
        inputs = leb-true _ _ j.1;
        latches = leb-true _ _ i.1;
        constraints = leb-true _ _ f.1;
        bads = leb-true _ _ e.1;
        outputs = leb-true _ _ d.1;
        ends = leb-true _ _ c.1;
        edges = leb-true _ _ b.1;
        fairness = leb-true _ _ a.1;
      }

  pub fits_true : Fits room n → fits_in room n ≡ true
  unfolding fits_in
  fits_true s =
      both_true (both_true (both_true (both_true (both_true (both_true (both_true (both_true
      (le-leb _ _ s.rows)
      (le-leb _ _ s.inputs))
      (le-leb _ _ s.latches))
      (le-leb _ _ s.constraints))
      (le-leb _ _ s.bads))
      (le-leb _ _ s.outputs))
      (le-leb _ _ s.ends))
      (le-leb _ _ s.edges))
      (le-leb _ _ s.fairness)

-- ---- the same of the lists that are lent
pub roomy : (out : Lent) (n : Counts) → has_room out n ≡ true → Room out n
roomy out n = fits_known (room_in out) n

pub room_true : (out : Lent) (n : Counts) → Room out n → has_room out n ≡ true
room_true out n = fits_true (room_in out) n
