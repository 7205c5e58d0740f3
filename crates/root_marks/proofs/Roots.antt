-- Laws of a graph's roots.
-- Assumes nothing.
use Prim.Native.Nat.{ℕ, zero, suc, ◌+◌, ◌≤◌, ◌<◌}
use native.Mathlib.Omega.{arith}
use native.Mathlib.Nat.{eq-or-lt_of_le}
use native.Mathlib.Numerals.{add-one}
use mathlib.Core.Path.{◌≡◌, refl, ap, ◌∙◌}
use mathlib.Core.Bool.{Bool, true, false, cond}
use mathlib.Core.Logic.{◌⊎◌, inl, inr, ⊎_elim}
use mathlib.Core.List.{List, [], ◌∷◌, ◌++◌}
use lib.ListN.{length, get_or, set, take}
use lib.Seq.{length-take-le, get_or-take}
use lib.Dec.{eqb}
use borrow.Author.Tests.{lt-ltb, eqb-false}
use Rattle.edge.specs.Edges.{id_of}
use Rattle.edge.proofs.Tests.{both, both_true}
use Rattle.rows.specs.Rows.{none}
use Rattle.graph.specs.declared.latch.Latch.{Latch}
use Rattle.graph.specs.Latches.{latch_at}
use Rattle.graph.specs.Leaves.{used_edge}
use Rattle.graph.specs.Graph.{Lent, Sized}
use Rattle.graph.specs.WellFormed.{WellFormed}
use Rattle.root_marks.specs.Arguments.{every}
use Rattle.root_marks.specs.Marking.{mark_edges}
use Rattle.root_marks.specs.Roots.{latch_root, latch_roots}
use Rattle.root_marks.specs.Steps.{RootsKnown}
use Rattle.root_marks.proofs.Arguments.{at_every}
use Rattle.root_marks.proofs.Marking.{edges_long, edges_both}

-- ---- every entry of two lists
pub every_both : (good : ℕ → Bool) (xs ys : List ℕ) → every good (xs ++ ys) ≡ true → (every good xs ≡ true) × (every good ys ≡ true)
unfolding every
every_both good [] ys h = (refl, h)
every_both good (x ∷ xs) ys h =
    let t = both {a = good x} {b = every good (xs ++ ys)} h in
    let u = every_both good xs ys t.1 in
    (both_true {a = good x} t.0 u.0, u.1)

pub both_every : (good : ℕ → Bool) (xs ys : List ℕ) → every good xs ≡ true → every good ys ≡ true → every good (xs ++ ys) ≡ true
unfolding every
both_every good [] ys p q = q
both_every good (x ∷ xs) ys p q =
    let t = both {a = good x} {b = every good xs} p in
    both_true {a = good x} t.0 (both_every good xs ys t.1 q)

-- ---- one latch
module _ (l : Latch) where
  pub next_good : (good : ℕ → Bool) → every good (latch_root l) ≡ true → good l.next ≡ true
  unfolding latch_root every
  next_good good h = (both {a = good l.next} {b = every good (cond (eqb l.init none) [] (l.init ∷ []))} h).0

  pub init_good : (good : ℕ → Bool) → every good (latch_root l) ≡ true → eqb l.init none ≡ false → good l.init ≡ true
  unfolding latch_root every
  init_good good h e =
      let t : every good (cond (eqb l.init none) [] (l.init ∷ [])) ≡ true = (both {a = good l.next} {b = every good (cond (eqb l.init none) [] (l.init ∷ []))} h).1 in
      (both {a = good l.init} {b = true} (rw e at t)).0

  pub latch_without : (marks : List ℕ) → eqb l.init none ≡ true → set marks (id_of l.next) 1 ≡ mark_edges (latch_root l) marks
  unfolding latch_root mark_edges
  latch_without marks e = rw e

  pub latch_with : (marks : List ℕ) → eqb l.init none ≡ false → set (set marks (id_of l.next) 1) (id_of l.init) 1 ≡ mark_edges (latch_root l) marks
  unfolding latch_root mark_edges
  latch_with marks e = rw e

-- ---- the latches
pub latch_good : (good : ℕ → Bool) (latches : List ℕ) (n i : ℕ) → every good (latch_roots latches n) ≡ true → i < n → every good (latch_root (latch_at latches i)) ≡ true
unfolding latch_roots
latch_good good latches zero i h l = absurd (omega arith)
latch_good good latches (suc n) i h l =
    let t = every_both good (latch_roots latches n) (latch_root (latch_at latches n)) h in
    ⊎_elim (λ (e : i ≡ n). rw e t.1) (λ (k : i < n). latch_good good latches n i t.0 k) (eq-or-lt_of_le (omega arith))

-- latch i is next
pub latches_turn :
    (latches : List ℕ) (i : ℕ) (marks : List ℕ) → mark_edges (latch_roots latches (i + 1)) marks ≡ mark_edges (latch_root (latch_at latches i)) (mark_edges (latch_roots latches i) marks)
unfolding latch_roots
latches_turn latches i marks =
    let e : i + 1 ≡ suc i = add-one i in
    ap (λ (k : ℕ). mark_edges (latch_roots latches k) marks) e ∙ edges_both (latch_roots latches i) (latch_root (latch_at latches i)) marks

pub latches_end : (latches : List ℕ) (n i : ℕ) (marks : List ℕ) {after : List ℕ} → i ≤ n → n ≤ i → after ≡ mark_edges (latch_roots latches i) marks → after ≡ mark_edges (latch_roots latches n) marks
latches_end latches n i marks l k h = let e : n ≡ i = omega arith in rw e h

-- ---- the lists, one after the other
-- marking changes no length
pub still_used : (es marks fs : List ℕ) {after : List ℕ} → after ≡ mark_edges es marks → every (used_edge (length marks)) fs ≡ true → every (used_edge (length after)) fs ≡ true
still_used es marks fs e h = rw (e, edges_long es marks) h

pub all_marked : (a b c d e f marks : List ℕ) {m₁ m₂ m₃ m₄ m₅ m₆ : List ℕ}
    → m₁ ≡ mark_edges a marks → m₂ ≡ mark_edges b m₁ → m₃ ≡ mark_edges c m₂ → m₄ ≡ mark_edges d m₃ → m₅ ≡ mark_edges e m₄ → m₆ ≡ mark_edges f m₅
    → m₆ ≡ mark_edges (a ++ (b ++ (c ++ (d ++ (e ++ f))))) marks
all_marked a b c d e f marks p q r s t u =
    rw (edges_both a (b ++ (c ++ (d ++ (e ++ f)))) marks, ← p, edges_both b (c ++ (d ++ (e ++ f))), ← q, edges_both c (d ++ (e ++ f)), ← r, edges_both d (e ++ f), ← s, edges_both e f, ← t) u

-- each of six lists, where all are good
pub record Six (good : ℕ → Bool) (a b c d e f : List ℕ) : Type 0 where
  pub first : every good a ≡ true
  pub second : every good b ≡ true
  pub third : every good c ≡ true
  pub fourth : every good d ≡ true
  pub fifth : every good e ≡ true
  pub sixth : every good f ≡ true

pub six : (good : ℕ → Bool) (a b c d e f : List ℕ) → every good (a ++ (b ++ (c ++ (d ++ (e ++ f))))) ≡ true → Six good a b c d e f
six good a b c d e f h =
    let p = every_both good a (b ++ (c ++ (d ++ (e ++ f)))) h in
    let q = every_both good b (c ++ (d ++ (e ++ f))) p.1 in
    let r = every_both good c (d ++ (e ++ f)) q.1 in
    let s = every_both good d (e ++ f) r.1 in
    let t = every_both good e f s.1 in
    record { first = p.0; second = q.0; third = r.0; fourth = s.0; fifth = t.0; sixth = t.1 }

-- ---- the roots of a well-formed graph
latches_good : (good : ℕ → Bool) (latches : List ℕ) (n : ℕ) → ((i : ℕ) → i < n → every good (latch_root (latch_at latches i)) ≡ true) → every good (latch_roots latches n) ≡ true
unfolding latch_roots
latches_good good latches zero h = unfold every in refl
latches_good good latches (suc n) h = both_every good (latch_roots latches n) (latch_root (latch_at latches n)) (latches_good good latches n (λ i l. h i (omega arith))) (h n (omega arith))

module _ (g : Lent) (marks : ℕ) (s : Sized g marks) (w : WellFormed g) where
  used : ℕ → Bool
  used = used_edge g.counts.rows

  latch_used : (i : ℕ) → i < g.counts.latches → every used (latch_root (latch_at g.latches i)) ≡ true
  unfolding used latch_root every
  latch_used i l = both_true {a = used (latch_at g.latches i).next} (lt-ltb _ _ (w.nexts i l)) (go (eqb (latch_at g.latches i).init none) refl (w.inits i l))
    where
      go :
          (t : Bool) → eqb (latch_at g.latches i).init none ≡ t → ((latch_at g.latches i).init ≡ none) ⊎ (id_of (latch_at g.latches i).init < g.counts.rows) → every used
          (cond t [] ((latch_at g.latches i).init ∷ [])) ≡ true
      go true e d = refl
      go false e (inl d) = absurd (eqb-false _ _ e d)
      go false e (inr d) = both_true {a = used (latch_at g.latches i).init} (lt-ltb _ _ d) refl

  list_used : (list : List ℕ) (n : ℕ) → n ≤ length list → ((i : ℕ) → i < n → id_of (get_or list i 0) < g.counts.rows) → every used (take n list) ≡ true
  unfolding used
  list_used list n l h =
      let e = length-take-le n list l in
      at_every used (take n list) (λ k b. let b' : k < n = omega (arith, e) in rw (get_or-take n list k 0 b') (lt-ltb _ _ (h k b')))

  pub roots_known : RootsKnown g
  unfolding used
  roots_known =
      record {
        fit = record {
          latches_fit = omega (arith, s.latches.within);
          constraints_fit = s.constraints.within;
          bads_fit = s.bads.within;
          outputs_fit = s.outputs.within;
          edges_fit = s.edges.within;
          fairness_fit = s.fairness.within;
        };
        used = both_every used (latch_roots g.latches g.counts.latches) _ (latches_good used g.latches g.counts.latches latch_used)
            (both_every used (take g.counts.constraints g.constraints) _ (list_used g.constraints _ s.constraints.within w.constraints)
            (both_every used (take g.counts.bads g.bads) _ (list_used g.bads _ s.bads.within w.bads)
            (both_every used (take g.counts.outputs g.outputs) _ (list_used g.outputs _ s.outputs.within w.outputs)
            (both_every used (take g.counts.edges g.edges) (take g.counts.fairness g.fairness) (list_used g.edges _ s.edges.within w.edges)
            (list_used g.fairness _ s.fairness.within w.fairness)))));
      }
