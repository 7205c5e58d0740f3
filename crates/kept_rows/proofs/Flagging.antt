-- Laws of the loops that flag the kept rows.
-- Assumes nothing.
use Prim.Native.Nat.{ℕ, zero, suc, ◌+◌, ◌*◌, ◌/◌, ◌<◌}
use native.Mathlib.Omega.{arith}
use native.Mathlib.Numerals.{add-one}
use mathlib.Core.Path.{◌≡◌, refl, sym, ap, ◌∙◌}
use mathlib.Core.Bool.{true}
use mathlib.Core.List.{List, [], ◌∷◌, ◌++◌}
use lib.ListN.{length, set, replicate, length-set, length-replicate}
use borrow.Author.Tests.{lt-ltb}
use Rattle.edge.proofs.Tests.{both_true}
use Rattle.rows.specs.Value.InCone.{here}
use Rattle.graph.specs.declared.Counts.{Counts}
use Rattle.graph.specs.Graph.{Lent}
use Rattle.graph.specs.declared.latch.Latch.{Latch}
use Rattle.graph.specs.Latches.{latch_at}
use Rattle.graph.specs.Leaves.{used_edge}
use Rattle.root_marks.specs.Arguments.{every}
use Rattle.root_marks.specs.Marking.{mark_edges}
use Rattle.root_marks.specs.Roots.{roots_of}
use Rattle.root_marks.specs.Flags.{Flagged, Flags}
use Rattle.root_marks.proofs.Marking.{edges_long, edges_both}
use Rattle.root_marks.proofs.Roots.{both_every}
use Rattle.cone.specs.Cone.{mark_below, cone_of}
use Rattle.cone.specs.Meaning.{IsCone}
use Rattle.cone.proofs.Meaning.{is_cone}
use Rattle.kept_rows.specs.Kept.{input_edges, kept_edges, kept_cone}
use Rattle.kept_rows.specs.Steps.{FlagsReady}

-- ---- the inputs of latches
inputs_more : (latches : List ℕ) (k : ℕ) (marks : List ℕ) → mark_edges (input_edges latches (k + 1)) marks ≡ set (mark_edges (input_edges latches k) marks) (latch_at latches k).input 1
unfolding input_edges mark_edges
inputs_more latches k marks =
    let e : k + 1 ≡ suc k = add-one k in
    let h : 2 * (latch_at latches k).input / 2 ≡ (latch_at latches k).input = omega arith in
    ap (λ (n : ℕ). mark_edges (input_edges latches n) marks) e
    ∙ (edges_both (input_edges latches k) (2 * (latch_at latches k).input ∷ []) marks ∙ ap (λ (x : ℕ). set (mark_edges (input_edges latches k) marks) x 1) h)

pub inputs_turn : (latches : List ℕ) (k : ℕ) (marks : List ℕ) {now : List ℕ} {l : Latch} → now ≡ mark_edges (input_edges latches k) marks → l ≡ latch_at latches k
    → set now l.input 1 ≡ mark_edges (input_edges latches (k + 1)) marks
inputs_turn latches k marks e p = rw (e, p) (sym (inputs_more latches k marks))

pub inputs_start : (latches : List ℕ) (marks : List ℕ) → marks ≡ mark_edges (input_edges latches 0) marks
unfolding input_edges mark_edges
inputs_start latches marks = refl

inputs_good : (latches : List ℕ) (n used : ℕ) → ((k : ℕ) → k < n → (latch_at latches k).input < used) → every (used_edge used) (input_edges latches n) ≡ true
unfolding input_edges every
inputs_good latches zero used h = refl
inputs_good latches (suc n) used h =
    let l : 2 * (latch_at latches n).input / 2 < used = omega (arith, h n (omega arith)) in
    both_every (used_edge used) (input_edges latches n) (2 * (latch_at latches n).input ∷ []) (inputs_good latches n used (λ k m. h k (omega arith)))
    (both_true {a = used_edge used (2 * (latch_at latches n).input)} (lt-ltb _ _ l) refl)

-- ---- row 0, the roots, the inputs, and all below
module _ (g : Lent) (marks : List ℕ) (r : FlagsReady g marks) where
  abbrev n : Counts
  n = g.counts

  abbrev roots : List ℕ
  roots = roots_of g

  pub marks_long : length marks ≡ n.rows
  marks_long = ap length r.zeros ∙ length-replicate n.rows 0

  module _ {one : List ℕ} (p : one ≡ set marks 0 1) where
    pub one_long : length one ≡ n.rows
    one_long = ap length p ∙ (length-set marks 0 1 ∙ marks_long)

    pub roots_used : every (used_edge (length one)) roots ≡ true
    roots_used = rw one_long r.roots.used

    module _ {two : List ℕ} (q : two ≡ mark_edges roots one) where
      pub two_long : length two ≡ n.rows
      two_long = ap length q ∙ (edges_long roots one ∙ one_long)

      pub three_long : {three : List ℕ} → three ≡ mark_edges (input_edges g.latches n.latches) two → length three ≡ n.rows
      three_long s = ap length s ∙ (edges_long (input_edges g.latches n.latches) two ∙ two_long)

      pub kept_flagged : {three four : List ℕ} → three ≡ mark_edges (input_edges g.latches n.latches) two → four ≡ mark_below g.rows (length three) three
          → four ≡ kept_cone g
      unfolding cone_of mark_edges
      kept_flagged {three} {four} s t =
          let l : length three ≡ n.rows = three_long s in
          let start : one ≡ set (replicate n.rows 0) 0 1 = p ∙ ap (λ (x : List ℕ). set x 0 1) r.zeros in
          let all : three ≡ mark_edges (roots ++ input_edges g.latches n.latches) (set (replicate n.rows 0) 0 1)
          = s ∙ (ap (mark_edges (input_edges g.latches n.latches)) (q ∙ ap (mark_edges roots) start) ∙ sym (edges_both roots (input_edges g.latches n.latches) (set (replicate n.rows 0) 0 1))) in
          t ∙ (ap (λ (k : ℕ). mark_below g.rows k three) l ∙ ap (mark_below g.rows n.rows) all)

  -- ---- the flags
  edges_used : every (used_edge n.rows) (kept_edges g) ≡ true
  unfolding every
  edges_used =
      both_true {a = used_edge n.rows 0} (lt-ltb 0 n.rows r.some)
      (both_every (used_edge n.rows) roots (input_edges g.latches n.latches) r.roots.used (inputs_good g.latches n.latches n.rows r.inputs_used.used))

  pub is_kept_cone : IsCone g.rows n.rows (kept_edges g) (kept_cone g)
  is_kept_cone = is_cone g.rows n.rows (kept_edges g) edges_used

  pub cone_flags : Flags n.rows (kept_cone g)
  cone_flags = is_kept_cone.one_each

  pub cone_zero : Flagged (kept_cone g) 0
  cone_zero = is_kept_cone.reached 0 (record { root = 0; within = omega arith; path = here })
