-- A copy of a well-formed graph is well-formed, and its rows mean the same. It may have fewer constraints.
-- Assumes nothing.
use Prim.Native.Nat.{ℕ, zero, suc, ◌+◌, ◌*◌, ◌≤◌, ◌<◌}
use native.Mathlib.Omega.{arith}
use mathlib.Core.Path.{◌≡◌, refl, ap, ap₂}
use mathlib.Core.Bool.{Bool, true}
use mathlib.Core.List.{List, [], ◌∷◌, ◌++◌}
use lib.ListN.{length, get_or, take}
use Rattle.rows.specs.Rows.{leaf_at}
use Rattle.rows.specs.Value.{value}
use Rattle.rows.proofs.Value.{local}
use Rattle.graph.specs.declared.Counts.{Counts}
use Rattle.graph.specs.declared.latch.Latch.{Latch}
use Rattle.graph.specs.Latches.{latch_words, latch_at, latch_inputs}
use Rattle.graph.specs.Graph.{Lent, Sized}
use Rattle.graph.specs.WellFormed.{UsedLeaf, listed, WellFormed}
use Rattle.graph.proofs.Latches.{same_latches, same_inputs}
use Rattle.output.specs.Room.{Limited, Room}
use Rattle.output.specs.Copying.{copy_of}
use Rattle.output.specs.Meaning.{Front, IsCopy}
use Rattle.output.proofs.Copying.{is_copy}

-- ---- lists that agree at their front
pub take_same : (n : ℕ) (xs ys : List ℕ) → n ≤ length xs → n ≤ length ys → ((k : ℕ) → k < n → get_or xs k 0 ≡ get_or ys k 0) → take n xs ≡ take n ys
take_same zero xs ys a b h = refl
take_same (suc n) [] ys a b h = absurd (omega arith)
take_same (suc n) (x ∷ xs) [] a b h = absurd (omega arith)
take_same (suc n) (x ∷ xs) (y ∷ ys) a b h =
    ap₂ (λ (z : ℕ) (zs : List ℕ). z ∷ zs) (h 0 (omega arith)) (take_same n xs ys (omega arith) (omega arith) (λ k l. h (suc k) (omega arith)))

module _ (n : ℕ) (from out after : List ℕ) (f : Front (latch_words * n) from out after) where
  pub latch_same : (i : ℕ) → i < n → latch_at after i ≡ latch_at from i
  latch_same = same_latches n after from f.same

  pub latch_inputs_same : (k : ℕ) → k ≤ n → latch_inputs after k ≡ latch_inputs from k
  latch_inputs_same k l = same_inputs after from k (λ i h. ap (λ (x : Latch). x.input) (latch_same i (omega arith)))

-- ---- rows that agree at their front mean the same
pub value_same : (used : ℕ) (from out after : List ℕ) → Front (2 * used) from out after → (leaf : ℕ → Bool) (i : ℕ) → i < used → value after leaf i ≡ value from leaf i
value_same used from out after f leaf i l =
    (local after from leaf leaf).by_rows_up_to i
    (λ j k. record { first = f.same (2 * j) (omega arith); second = f.same (2 * j + 1) (omega arith); chosen = λ h. refl })

-- ---- the graph with its first m constraints
abbrev pub constrained : Counts → ℕ → Counts
constrained n m =
    record { rows = n.rows; inputs = n.inputs; latches = n.latches; constraints = m; bads = n.bads; outputs = n.outputs; sets = n.sets; edges = n.edges; fairness = n.fairness }

module _ (g out : Lent) (marks : ℕ) (s : Sized g marks) (w : WellFormed g) (m : ℕ) (few : m ≤ g.counts.constraints) (r : Room out (constrained g.counts m)) where
  abbrev n : Counts
  n = constrained g.counts m

  abbrev copy : Lent
  copy = copy_of n g out

  c : IsCopy n g out copy
  c = is_copy n g out r

  leaf_same : (x : ℕ) → UsedLeaf g x → (x < n.rows) × (leaf_at copy.rows x ≡ true)
  leaf_same x h = (h.0, rw (c.rows.same (2 * x) (omega (arith, h.0)), c.rows.same (2 * x + 1) (omega (arith, h.0))) h.1)

  listed_same : take n.inputs copy.inputs ++ latch_inputs copy.latches n.latches ≡ listed g
  listed_same =
      ap₂ (λ (a b : List ℕ). a ++ b)
      (take_same n.inputs copy.inputs g.inputs (omega (arith, c.inputs.long, r.inputs)) s.inputs.within c.inputs.same)
      (latch_inputs_same n.latches g.latches out.latches copy.latches c.latches n.latches (omega arith))

  latch_is : (i : ℕ) → i < n.latches → latch_at copy.latches i ≡ latch_at g.latches i
  latch_is = latch_same n.latches g.latches out.latches copy.latches c.latches

  pub copy_formed : WellFormed copy
  unfolding copy_of
  copy_formed =
      record {
        rows = λ i l. rw (c.rows.same (2 * i) (omega arith), c.rows.same (2 * i + 1) (omega arith)) (w.rows i l);
        inputs = λ i l. rw (c.inputs.same i l) (leaf_same (get_or g.inputs i 0) (w.inputs i l));
        latches = λ i l. rw (ap (λ (x : Latch). x.input) (latch_is i l)) (leaf_same (latch_at g.latches i).input (w.latches i l));
        once = rw listed_same w.once;
        nexts = λ i l. rw (ap (λ (x : Latch). x.next) (latch_is i l)) (w.nexts i l);
        inits = λ i l. rw (ap (λ (x : Latch). x.init) (latch_is i l)) (w.inits i l);
        constraints = λ i l. rw (c.constraints.same i l) (w.constraints i (omega arith));
        bads = λ i l. rw (c.bads.same i l) (w.bads i l);
        outputs = λ i l. rw (c.outputs.same i l) (w.outputs i l);
        edges = λ i l. rw (c.edges.same i l) (w.edges i l);
        fairness = λ i l. rw (c.fairness.same i l) (w.fairness i l);
        ends = λ k l. rw (c.ends.same k (omega arith), c.ends.same (k + 1) l) (w.ends k l);
        last = λ k e. rw (c.ends.same k (omega arith)) (w.last k e);
        no_sets = w.no_sets;
      }

  -- where the room keeps the limits
  pub copy_sized : Limited out → (marks' : ℕ) → g.counts.rows ≤ marks' → Sized copy marks'
  unfolding copy_of
  copy_sized o marks' l =
      record {
        rows = record { some = s.rows.some; fit = record { within = rw c.rows.long r.rows; limited = rw c.rows.long o.rows } };
        marked = l;
        inputs = record { within = rw c.inputs.long r.inputs; limited = rw c.inputs.long o.inputs };
        latches = record { within = rw c.latches.long r.latches; limited = rw c.latches.long o.latches };
        constraints = record { within = rw c.constraints.long r.constraints; limited = rw c.constraints.long o.constraints };
        bads = record { within = rw c.bads.long r.bads; limited = rw c.bads.long o.bads };
        outputs = record { within = rw c.outputs.long r.outputs; limited = rw c.outputs.long o.outputs };
        ends = record { within = rw c.ends.long r.ends; limited = rw c.ends.long o.ends };
        edges = record { within = rw c.edges.long r.edges; limited = rw c.edges.long o.edges };
        fairness = record { within = rw c.fairness.long r.fairness; limited = rw c.fairness.long o.fairness };
      }
