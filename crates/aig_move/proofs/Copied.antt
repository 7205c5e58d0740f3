-- The steps on the copy make the whole result.
-- Assumes nothing.
use Prim.Native.Nat.{ℕ}
use native.Mathlib.Omega.{arith}
use mathlib.Core.Path.{◌≡◌, ap, ◌∙◌}
use mathlib.Core.Bool.{true}
use mathlib.Core.List.{List, []}
use lib.ListN.{length, take}
use Rattle.edge.specs.Edges.{constant_of}
use Rattle.graph.specs.declared.Counts.{Counts}
use Rattle.graph.specs.Latches.{latch_set, latch}
use Rattle.graph.specs.Graph.{Lent, lent, Sized}
use Rattle.output.specs.Room.{Room}
use Rattle.output.specs.Copying.{copy_of}
use Rattle.output.specs.Steps.{CopyFits}
use Rattle.aig_move.specs.declared.making.Made.{Made}
use Rattle.aig_move.specs.Making.{Making}
use Rattle.aig_move.specs.Steps.{making_seen}
use Rattle.aig_move.specs.Moving.{making, copy_counts, counts_with, moved_counts, first_set, finished, moved}
use Rattle.aig_move.specs.Steps.{MakeReady, FinishReady, MoveReady}
use Rattle.output.proofs.Copying.{is_copy}
use Rattle.aig_move.proofs.Steps.{making_more}

-- what `make` needs
pub make_ready : (g : Lent) (marks : ℕ) → Sized g marks → MakeReady g
make_ready g marks s =
    record {
      rows = omega (arith, s.rows.fit.within, s.rows.fit.limited);
      constraints_has = s.constraints.within;
      few = omega (arith, s.constraints.within, s.constraints.limited);
      bads_has = s.bads.within;
      outputs_has = s.outputs.within;
    }

-- where the result has room, the copy has
pub copy_room : (g out : Lent) → Room out (moved_counts g) → Room out (copy_counts g.counts)
unfolding counts_with
copy_room g out o =
    record {
      rows = omega (arith, o.rows, making_more [] g.counts.rows (take g.counts.constraints g.constraints) (take g.counts.bads g.bads) (take g.counts.outputs g.outputs));
      inputs = o.inputs;
      latches = omega (arith, o.latches);
      constraints = omega arith;
      bads = o.bads;
      outputs = o.outputs;
      ends = o.ends;
      edges = o.edges;
      fairness = o.fairness;
    }

-- the same words with other counts
abbrev with : Lent → Counts → Lent
with g n = lent g.rows g.inputs g.latches g.constraints g.bads g.outputs g.ends g.edges g.fairness n

module _ (g out : Lent) (r : MoveReady g out) where
  abbrev n : Counts
  n = copy_counts g.counts

  pub copy_fits : CopyFits (with g n) (with out n) n
  copy_fits =
      let s = r.sized in
      let o = copy_room g out r.room in
      record {
        has = record {
          rows = s.rows.fit.within;
          inputs = s.inputs.within;
          latches = s.latches.within;
          constraints = omega arith;
          bads = s.bads.within;
          outputs = s.outputs.within;
          ends = s.ends.within;
          edges = s.edges.within;
          fairness = s.fairness.within;
        };
        room = record { rows = o.rows; inputs = o.inputs; latches = o.latches; constraints = o.constraints; bads = o.bads; outputs = o.outputs; ends = o.ends; edges = o.edges; fairness = o.fairness };
      }

  -- c is the copy
  pub finish_ready : (c : Lent) → c ≡ copy_of n (with g n) (with out n) → FinishReady g c
  unfolding counts_with
  finish_ready c copy =
      let k = is_copy n (with g n) (with out n) copy_fits.room in
      let latches : length c.latches ≡ length out.latches = ap (λ (x : Lent). length x.latches) copy ∙ k.latches.long in
      let bads : length c.bads ≡ length out.bads = ap (λ (x : Lent). length x.bads) copy ∙ k.bads.long in
      let outputs : length c.outputs ≡ length out.outputs = ap (λ (x : Lent). length x.outputs) copy ∙ k.outputs.long in
      record {
        make = make_ready g r.marked r.sized;
        latch = omega (arith, latches, r.room.latches);
        bads_room = omega (arith, bads, r.room.bads);
        outputs_room = omega (arith, outputs, r.room.outputs);
      }

  pub all_moved : (c : Lent) → c ≡ copy_of n (with g n) (with out n) → finished g c ≡ moved g out
  unfolding moved copy_of
  all_moved c copy = ap (finished g) copy

-- ---- what is done on the copy c, by what was made
module _ (g c : Lent) {rows latches bads outputs : List ℕ} (r : Made) (e : making_seen rows r ≡ making g c.rows) where
  pub all_finished : latches ≡ latch_set c.latches g.counts.latches (latch g.counts.rows r.next (constant_of true))
      → bads ≡ first_set c.bads g.counts.bads r.bad → outputs ≡ first_set c.outputs g.counts.outputs r.output
      → lent rows c.inputs latches c.constraints bads outputs c.ends c.edges c.fairness (moved_counts g) ≡ finished g c
  unfolding finished
  all_finished l b o =
      rw (l, b, o)
      (ap (λ (m : Making). lent m.rows c.inputs (latch_set c.latches g.counts.latches (latch g.counts.rows m.next (constant_of true))) c.constraints
      (first_set c.bads g.counts.bads m.bad) (first_set c.outputs g.counts.outputs m.output) c.ends c.edges c.fairness (moved_counts g)) e)
