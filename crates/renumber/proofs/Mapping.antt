-- The lists of a well-formed graph can be written by a map that the marks hold, and what is written is as the map's definition says.
-- Assumes nothing.
use Prim.Native.Nat.{ℕ, zero, suc, ◌+◌, ◌-◌, ◌≤◌, ◌<◌, ◌^◌}
use native.Mathlib.Omega.{arith}
use mathlib.Core.Path.{◌≡◌, refl, ap, ◌∙◌}
use mathlib.Core.Logic.{◌⊎◌, inl, inr}
use mathlib.Core.List.{List}
use lib.ListN.{length, get_or}
use borrow.Author.Tests.{eq-eqb}
use Rattle.edge.specs.Edges.{id_of}
use Rattle.rows.specs.Rows.{none}
use Rattle.graph.specs.declared.Counts.{Counts}
use Rattle.graph.specs.declared.latch.Latch.{Latch}
use Rattle.graph.specs.Latches.{latch_at, latch_set}
use Rattle.graph.specs.Graph.{Lent, Sized, no_counts}
use Rattle.graph.specs.WellFormed.{WellFormed}
use Rattle.output.specs.Room.{Room}
use Rattle.output.specs.Writing.{written}
use Rattle.renumber.specs.Renumber.{renamed, renamed_latch, edges_of, latches_written, Lists, lists_of, renumber, by}
use Rattle.renumber.specs.Steps.{Known, Mapped, EdgesReady, ListsReady}
use Rattle.renumber.specs.Steps.{MarksHold, Small, UsedLatch, UsedEdges, ListsUsed, ListsRoom}
use Rattle.output.proofs.Writing.{written_same}
use Rattle.renumber.proofs.Writing.{all_lists}

-- ---- a well-formed graph
module _ (g : Lent) (marks : ℕ) (s : Sized g marks) (w : WellFormed g) where
  -- no end is above the last
  end_within : (k j : ℕ) → j + (k + 1) ≡ g.counts.sets → get_or g.ends j 0 ≤ g.counts.edges
  end_within zero j e = let q : j + 1 ≡ g.counts.sets = omega arith in omega (arith, w.last j q)
  end_within (suc k) j e =
      let q : j + 1 < g.counts.sets = omega arith in
      let p : (j + 1) + (k + 1) ≡ g.counts.sets = omega arith in
      omega (arith, w.ends j q, end_within k (j + 1) p)

  pub lists_used : ListsUsed g.counts.rows (lists_of g) g.counts
  lists_used =
      record {
        latches_has = omega (arith, s.latches.within);
        latches = λ j l. record { input = (w.latches j l).0; next = w.nexts j l; init = w.inits j l };
        constraints = record { has = s.constraints.within; below = w.constraints };
        bads = record { has = s.bads.within; below = w.bads };
        outputs = record { has = s.outputs.within; below = w.outputs };
        ends_has = s.ends.within;
        edges = record { has = s.edges.within; below = w.edges };
        fairness = record { has = s.fairness.within; below = w.fairness };
        ends = λ j l. let p : j + ((g.counts.sets - 1 - j) + 1) ≡ g.counts.sets = omega arith in end_within (g.counts.sets - 1 - j) j p;
        few = omega (arith, s.edges.within, s.edges.limited);
      }

-- ---- an output's lists fit from their first entry on
pub lists_room : (out : Lent) (n : Counts) → Room out n → ListsRoom (lists_of out) no_counts n
lists_room out n s =
    record {
      latches = omega (arith, s.latches);
      constraints = omega (arith, s.constraints);
      bads = omega (arith, s.bads);
      outputs = omega (arith, s.outputs);
      ends = omega (arith, s.ends);
      edges = omega (arith, s.edges);
      fairness = omega (arith, s.fairness);
    }

module _ (used : ℕ) (m : ℕ → ℕ) (map : List ℕ) (h : MarksHold used m map) where
  -- ---- what is written
  pub renamed_by_lem : (e : ℕ) → (e ≡ none) ⊎ (id_of e < used) → renamed (by map) e ≡ renamed m e
  unfolding renamed
  renamed_by_lem e (inl q) = rw (eq-eqb e none q)
  renamed_by_lem e (inr l) = rw (h (id_of e) l)

  pub edges_by : (out : List ℕ) (at : ℕ) (list : List ℕ) (n : ℕ) → UsedEdges used list n → written out at (edges_of (by map) list) n ≡ written out at (edges_of m list) n
  edges_by out at list n u = written_same out at (edges_of (by map) list) (edges_of m list) n (λ j l. renamed_by_lem (get_or list j 0) (inr (u.below j l)))

  latch_by : (l : Latch) → UsedLatch used l → renamed_latch (by map) l ≡ renamed_latch m l
  unfolding renamed_latch
  latch_by l u = simp (h l.input u.input, renamed_by_lem l.next (inr u.next), renamed_by_lem l.init u.init)

  latches_by :
      (out : List ℕ) (at : ℕ) (latches : List ℕ) (n : ℕ) → ((j : ℕ) → j < n → UsedLatch used (latch_at latches j)) → latches_written (by map) out at latches n ≡ latches_written m out at latches
      n
  unfolding latches_written
  latches_by out at latches zero u = refl
  latches_by out at latches (suc n) u =
      ap (λ (x : List ℕ). latch_set x (at + n) (renamed_latch (by map) (latch_at latches n))) (latches_by out at latches n (λ j l. u j (omega arith)))
      ∙ ap (latch_set (latches_written m out at latches n) (at + n)) (latch_by (latch_at latches n) (u n (omega arith)))

  pub renumber_by : (out : Lists) (at : Counts) (from : Lists) (n : Counts) → ListsUsed used from n → renumber (by map) out at from n ≡ renumber m out at from n
  unfolding renumber
  renumber_by out at from n u =
      all_lists (renumber m out at from n)
      (latches_by out.latches at.latches from.latches n.latches u.latches)
      (edges_by out.constraints at.constraints from.constraints n.constraints u.constraints)
      (edges_by out.bads at.bads from.bads n.bads u.bads)
      (edges_by out.outputs at.outputs from.outputs n.outputs u.outputs)
      refl
      (edges_by out.edges at.edges from.edges n.edges u.edges)
      (edges_by out.fairness at.fairness from.fairness n.fairness u.fairness)

  -- ---- it can be written
  module _ (small : Small used m) (long : used ≤ length map) where
    pub known : (i : ℕ) → i < used → Known map i
    known i l = record { has = omega arith; small = rw (h i l) (small i l) }

    pub mapped : (e : ℕ) → (e ≡ none) ⊎ (id_of e < used) → Mapped map e
    mapped e (inl q) n = absurd (n q)
    mapped e (inr l) n = known (id_of e) l

    pub edges_ready : (out : List ℕ) (at : ℕ) (list : List ℕ) (n : ℕ) → UsedEdges used list n → at + n ≤ length out → EdgesReady map out at list n
    edges_ready out at list n u r = record { room = r; has = u.has; mapped = λ j l. mapped (get_or list j 0) (inr (u.below j l)) }

    pub lists_ready : (out : Lists) (at : Counts) (from : Lists) (n : Counts) → ListsUsed used from n → ListsRoom out at n → at.edges < 2 ^ 31 → ListsReady map out at from n
    lists_ready out at from n u r few =
        record {
          latches = record {
            room = r.latches;
            has = u.latches_has;
            mapped = λ j l. let t = u.latches j l in record {
              input = known (latch_at from.latches j).input t.input;
              next = mapped (latch_at from.latches j).next (inr t.next);
              init = mapped (latch_at from.latches j).init t.init;
            };
          };
          constraints = edges_ready out.constraints at.constraints from.constraints n.constraints u.constraints r.constraints;
          bads = edges_ready out.bads at.bads from.bads n.bads u.bads r.bads;
          outputs = edges_ready out.outputs at.outputs from.outputs n.outputs u.outputs r.outputs;
          ends = record { room = r.ends; has = u.ends_has; words = λ j l. omega (arith, u.ends j l, u.few) };
          edges = edges_ready out.edges at.edges from.edges n.edges u.edges r.edges;
          fairness = edges_ready out.fairness at.fairness from.fairness n.fairness u.fairness r.fairness;
        }
