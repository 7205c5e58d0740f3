-- The kept rows: the cone that the code flags is the cone of influence of the roots.
-- Assumes nothing.
use Prim.Native.Nat.{ℕ, zero, suc, ◌*◌, ◌/◌, ◌<◌}
use native.Mathlib.Omega.{arith}
use native.Mathlib.Nat.{eq-or-lt_of_le}
use mathlib.Core.Path.{◌≡◌, refl, sym, subst}
use mathlib.Core.Bool.{Bool, true, false, cond, ◌||◌}
use mathlib.Core.Logic.{◌⊎◌, inl, inr, ⊎_elim}
use mathlib.Core.List.Memᴰ
use mathlib.Core.List.{List, [], ◌∷◌, ◌++◌, map}
use lib.ListN.{get_or}
use lib.Dec.{eqb}
use borrow.Author.Tests.{ltb-true, lt-ltb, ne_eqb, eqb-true, eqb-false}
use Rattle.edge.specs.Edges.{id_of}
use Rattle.rows.specs.Rows.{none}
use Rattle.rows.specs.Value.{InCone}
use Rattle.rows.specs.Value.InCone.{here, by0, by1}
use Rattle.graph.specs.declared.latch.Latch.{Latch}
use Rattle.graph.specs.Latches.{latch_at, latch_inputs}
use Rattle.graph.specs.Leaves.{used_edge}
use Rattle.graph.specs.Graph.{Lent, Sized}
use Rattle.graph.specs.WellFormed.{WellFormed}
use Rattle.root_marks.specs.Arguments.{every}
use Rattle.root_marks.specs.Flags.{Flagged}
use Rattle.root_marks.specs.Roots.{latch_root, latch_roots, roots_of}
use Rattle.root_marks.proofs.Arguments.{every_at, at_every}
use Rattle.root_marks.proofs.Flagging.{same_flags}
use Rattle.root_marks.proofs.Roots.{roots_known}
use Rattle.cone.specs.Meaning.{IsCone}
use Rattle.coi.specs.Coi.{used_row}
use Rattle.coi.specs.Meaning.{Reached, IsCoi}
use Rattle.coi.specs.Meaning.Reached.{always, root, left, right, latch}
use Rattle.coi.proofs.Searching.{On, on_at, place}
use Rattle.coi.proofs.Meaning.{is_coi}
use Rattle.kept_rows.specs.Kept.{init_root, init_roots, list_roots, refine_roots, kept_flags, input_edges, kept_edges, kept_cone}
use Rattle.kept_rows.specs.Steps.{FlagsReady}
use Rattle.kept_rows.proofs.Flagging.{is_kept_cone}

-- ---- lists made part by part
record Part (x : ℕ) (parts : ℕ → List ℕ) (n : ℕ) : Type 0 where
  at : ℕ
  within : at < n
  on : On x (parts at)

module _ (whole parts : ℕ → List ℕ) (nil : whole 0 ≡ []) (more : (n : ℕ) → whole (suc n) ≡ whole n ++ parts n) (x : ℕ) where
  part_on : (n k : ℕ) → k < n → On x (parts k) → On x (whole n)
  part_on zero k l o = absurd (omega arith)
  part_on (suc n) k l o =
      ⊎_elim
      (λ (e : suc k ≡ suc n). let q : k ≡ n = omega arith in rw (more n) (Memᴰ.append_right (whole n) (rw q at o)))
      (λ (h : suc k < suc n). rw (more n) (Memᴰ.append_left (parts n) (part_on n k (omega arith) o)))
      (eq-or-lt_of_le l)

  on_part : (n : ℕ) → On x (whole n) → Part x parts n
  on_part zero o = absurd (Memᴰ.not-nil (subst (On x) nil o))
  on_part (suc n) o =
      ⊎_elim (λ (h : On x (whole n)). later (on_part n h)) (λ (h : On x (parts n)). record { at = n; within = omega arith; on = h })
      (Memᴰ.append_cases (whole n) (subst (On x) (more n) o))
    where
      later : Part x parts n → Part x parts (suc n)
      later p = record { at = p.at; within = omega (arith, p.within); on = p.on }

-- ---- one latch
module _ (l : Latch) where
  next_on : On l.next (latch_root l)
  unfolding latch_root
  next_on = Memᴰ.head refl

  init_on : (l.init ≡ none → ⊥) → On l.init (latch_root l)
  unfolding latch_root
  init_on h = rw (ne_eqb l.init none h) (Memᴰ.tail (Memᴰ.head refl))

  -- a root of a latch is its next, or its init where it has one
  latch_root_lem : (e : ℕ) → On e (latch_root l) → (e ≡ l.next) ⊎ ((e ≡ l.init) × (l.init ≡ none → ⊥))
  unfolding latch_root
  latch_root_lem e o = ⊎_elim (λ (q : e ≡ l.next). inl q) (λ (m : On e (cond (eqb l.init none) [] (l.init ∷ []))). go (eqb l.init none) refl m) (Memᴰ.cases_cons o)
    where
      go : (t : Bool) → eqb l.init none ≡ t → On e (cond t [] (l.init ∷ [])) → (e ≡ l.next) ⊎ ((e ≡ l.init) × (l.init ≡ none → ⊥))
      go true q m = absurd (Memᴰ.not-nil m)
      go false q m = inr (Memᴰ.eq_of_singleton m, eqb-false _ _ q)

  init_root_on : (l.init ≡ none → ⊥) → (id_of l.init ≡ 0 → ⊥) → On l.init (init_root l)
  unfolding init_root
  init_root_on a b = rw (ne_eqb l.init none a, ne_eqb (id_of l.init) 0 b) (Memᴰ.head refl)

  init_root_lem : (e : ℕ) → On e (init_root l) → (e ≡ l.init) × (l.init ≡ none → ⊥)
  unfolding init_root
  init_root_lem e o = go (eqb l.init none) (eqb (id_of l.init) 0) refl o
    where
      go : (t u : Bool) → eqb l.init none ≡ t → On e (cond (t || u) [] (l.init ∷ [])) → (e ≡ l.init) × (l.init ≡ none → ⊥)
      go true u q m = absurd (Memᴰ.not-nil m)
      go false true q m = absurd (Memᴰ.not-nil m)
      go false false q m = (Memᴰ.eq_of_singleton m, eqb-false _ _ q)

-- ---- the latches
module _ (latches : List ℕ) (x : ℕ) where
  abbrev nth : ℕ → Latch
  nth k = latch_at latches k

  roots_on : (n k : ℕ) → k < n → On x (latch_root (nth k)) → On x (latch_roots latches n)
  unfolding latch_roots
  roots_on = part_on (latch_roots latches) (λ (k : ℕ). latch_root (nth k)) refl (λ n. refl) x

  on_roots : (n : ℕ) → On x (latch_roots latches n) → Part x (λ (k : ℕ). latch_root (nth k)) n
  unfolding latch_roots
  on_roots = on_part (latch_roots latches) (λ (k : ℕ). latch_root (nth k)) refl (λ n. refl) x

  inits_on : (n k : ℕ) → k < n → On x (init_root (nth k)) → On x (init_roots latches n)
  unfolding init_roots
  inits_on = part_on (init_roots latches) (λ (k : ℕ). init_root (nth k)) refl (λ n. refl) x

  on_inits : (n : ℕ) → On x (init_roots latches n) → Part x (λ (k : ℕ). init_root (nth k)) n
  unfolding init_roots
  on_inits = on_part (init_roots latches) (λ (k : ℕ). init_root (nth k)) refl (λ n. refl) x

  inputs_on : (n k : ℕ) → k < n → On x ((nth k).input ∷ []) → On x (latch_inputs latches n)
  unfolding latch_inputs
  inputs_on = part_on (latch_inputs latches) (λ (k : ℕ). (nth k).input ∷ []) refl (λ n. refl) x

  on_inputs : (n : ℕ) → On x (latch_inputs latches n) → Part x (λ (k : ℕ). (nth k).input ∷ []) n
  unfolding latch_inputs
  on_inputs = on_part (latch_inputs latches) (λ (k : ℕ). (nth k).input ∷ []) refl (λ n. refl) x

  input_edges_on : (n k : ℕ) → k < n → On x (2 * (nth k).input ∷ []) → On x (input_edges latches n)
  unfolding input_edges
  input_edges_on = part_on (input_edges latches) (λ (k : ℕ). 2 * (nth k).input ∷ []) refl (λ n. refl) x

  on_input_edges : (n : ℕ) → On x (input_edges latches n) → Part x (λ (k : ℕ). 2 * (nth k).input ∷ []) n
  unfolding input_edges
  on_input_edges = on_part (input_edges latches) (λ (k : ℕ). 2 * (nth k).input ∷ []) refl (λ n. refl) x

-- ---- a well-formed graph of right sizes
module _ (g : Lent) (marks : ℕ) (s : Sized g marks) (w : WellFormed g) where
  abbrev used : ℕ
  used = g.counts.rows

  abbrev n : ℕ
  n = g.counts.latches

  abbrev edges : List ℕ
  edges = kept_edges g

  -- roots are used rows
  root_used : (e : ℕ) → On e (roots_of g) → id_of e < used
  root_used e o =
      let p = place (roots_of g) o in
      rw (← p.same) (ltb-true _ _ (every_at (used_edge used) (roots_of g) (roots_known g marks s w).used p.at p.within))

  init_is_root : (e : ℕ) → On e (init_roots g.latches n) → On e (latch_roots g.latches n)
  init_is_root e o =
      let p = on_inits g.latches e n o in
      let q = init_root_lem (latch_at g.latches p.at) e p.on in
      roots_on g.latches e n p.at p.within (subst (λ (x : ℕ). On x (latch_root (latch_at g.latches p.at))) (sym q.0) (init_on (latch_at g.latches p.at) q.1))

  -- where an id of the roots comes from: an edge that is a root, or a latch's input
  data From (x : ℕ) : Type 0 where
    by_edge : (e : ℕ) → On e (roots_of g) → id_of e ≡ x → From x
    by_input : (k : ℕ) → k < n → x ≡ (latch_at g.latches k).input → From x

  from : (x : ℕ) → On x (refine_roots g) → From x
  unfolding refine_roots
  from x o = ⊎_elim edge input (Memᴰ.append_cases (map id_of (list_roots g ++ init_roots g.latches n)) o)
    where
      edge : On x (map id_of (list_roots g ++ init_roots g.latches n)) → From x
      edge m =
          let t = Memᴰ.of_map id_of (list_roots g ++ init_roots g.latches n) m in
          ⊎_elim
          (λ (h : On t.0 (list_roots g)). by_edge t.0 (Memᴰ.append_right (latch_roots g.latches n) h) t.2)
          (λ (h : On t.0 (init_roots g.latches n)). by_edge t.0 (Memᴰ.append_left (list_roots g) (init_is_root t.0 h)) t.2)
          (Memᴰ.append_cases (list_roots g) t.1)

      input : On x (latch_inputs g.latches n) → From x
      input m = let p = on_inputs g.latches x n m in by_input p.at p.within (Memᴰ.eq_of_singleton p.on)

  pub ids_used : every (used_row used) (refine_roots g) ≡ true
  ids_used = at_every (used_row used) (refine_roots g) (λ k l. lt-ltb _ _ (below (get_or (refine_roots g) k 0) (from (get_or (refine_roots g) k 0) (on_at (refine_roots g) k l))))
    where
      below : (x : ℕ) → From x → x < used
      below x (by_edge e o q) = rw (← q) (root_used e o)
      below x (by_input k l q) = rw q (w.latches k l).0

  pub kept_coi : IsCoi g (refine_roots g) (kept_flags g)
  unfolding kept_flags
  kept_coi = is_coi g marks s w (refine_roots g) ids_used

  abbrev Reach : ℕ → Type 0
  Reach x = Reached g (refine_roots g) x

  -- ---- what is flagged is reached
  on_reached : (x : ℕ) → On x (refine_roots g) → Reach x
  on_reached x o = let p = place (refine_roots g) o in rw (← p.same) (root p.at p.within)

  pub input_reached : (k : ℕ) → k < n → Reach (latch_at g.latches k).input
  unfolding refine_roots
  input_reached k l =
      on_reached (latch_at g.latches k).input
      (unfold refine_roots in Memᴰ.append_right (map id_of (list_roots g ++ init_roots g.latches n)) (inputs_on g.latches (latch_at g.latches k).input n k l (Memᴰ.head refl)))

  pub edge_on : (e : ℕ) → On e (list_roots g ++ init_roots g.latches n) → Reach (id_of e)
  edge_on e o = on_reached (id_of e) (unfold refine_roots in Memᴰ.append_left (latch_inputs g.latches n) (Memᴰ.map id_of o))

  pub init_reached : (k : ℕ) → k < n → ((latch_at g.latches k).init ≡ none → ⊥) → Reach (id_of (latch_at g.latches k).init)
  init_reached k l h = go (eqb (id_of (latch_at g.latches k).init) 0) refl
    where
      go : (t : Bool) → eqb (id_of (latch_at g.latches k).init) 0 ≡ t → Reach (id_of (latch_at g.latches k).init)
      go true q = let z = eqb-true (id_of (latch_at g.latches k).init) 0 q in rw z always
      go false q =
          edge_on (latch_at g.latches k).init
          (Memᴰ.append_right (list_roots g) (inits_on g.latches (latch_at g.latches k).init n k l (init_root_on (latch_at g.latches k) h (eqb-false _ _ q))))

  edge_reached : (e : ℕ) → On e edges → Reach (id_of e)
  edge_reached e o = ⊎_elim (λ (q : e ≡ 0). rw q always) (λ (m : On e (roots_of g ++ input_edges g.latches n)). ⊎_elim roots inputs (Memᴰ.append_cases (roots_of g) m)) (Memᴰ.cases_cons o)
    where
      by_latch : (k : ℕ) → k < n → (e ≡ (latch_at g.latches k).next) ⊎ ((e ≡ (latch_at g.latches k).init) × ((latch_at g.latches k).init ≡ none → ⊥)) → Reach (id_of e)
      by_latch k l (inl q) = rw q (latch k l (input_reached k l))
      by_latch k l (inr q) = rw q.0 (init_reached k l q.1)

      latches : On e (latch_roots g.latches n) → Reach (id_of e)
      latches m = let p = on_roots g.latches e n m in by_latch p.at p.within (latch_root_lem (latch_at g.latches p.at) e p.on)

      roots : On e (roots_of g) → Reach (id_of e)
      roots m = ⊎_elim latches (λ (h : On e (list_roots g)). edge_on e (Memᴰ.append_left (init_roots g.latches n) h)) (Memᴰ.append_cases (latch_roots g.latches n) m)

      inputs : On e (input_edges g.latches n) → Reach (id_of e)
      inputs m =
          let p = on_input_edges g.latches e n m in
          let q = Memᴰ.eq_of_singleton p.on in
          let h : e / 2 ≡ (latch_at g.latches p.at).input = omega arith in
          rw h (input_reached p.at p.within)

  -- what is below a reached row is reached
  cone_reached : (j : ℕ) {i : ℕ} → InCone g.rows j i → Reach i → Reach j
  cone_reached j here r = r
  cone_reached j (by0 h p) r = cone_reached j p (left r h)
  cone_reached j (by1 h p) r = cone_reached j p (right r h)

  -- ---- what is reached is flagged
  module _ (zeros : List ℕ) (ready : FlagsReady g zeros) where
    cone : IsCone g.rows used edges (kept_cone g)
    cone = is_kept_cone g zeros ready

    edge_flagged : (e : ℕ) → On e edges → Flagged (kept_cone g) (id_of e)
    edge_flagged e o = let p = place edges o in rw (← p.same) (cone.reached (id_of (get_or edges p.at 0)) (record { root = p.at; within = p.within; path = here }))

    root_flagged : (e : ℕ) → On e (roots_of g) → Flagged (kept_cone g) (id_of e)
    root_flagged e o = edge_flagged e (Memᴰ.tail (Memᴰ.append_left (input_edges g.latches n) o))

    input_flagged : (k : ℕ) → k < n → Flagged (kept_cone g) (latch_at g.latches k).input
    input_flagged k l =
        let h : 2 * (latch_at g.latches k).input / 2 ≡ (latch_at g.latches k).input = omega arith in
        let f = edge_flagged (2 * (latch_at g.latches k).input)
        (Memᴰ.tail (Memᴰ.append_right (roots_of g) (input_edges_on g.latches (2 * (latch_at g.latches k).input) n k l (Memᴰ.head refl)))) in
        rw h at f

    flagged : {x : ℕ} → Reach x → Flagged (kept_cone g) x
    flagged always = edge_flagged 0 (Memᴰ.head refl)
    flagged (root k l) = by (from (get_or (refine_roots g) k 0) (on_at (refine_roots g) k l))
      where
        by : {x : ℕ} → From x → Flagged (kept_cone g) x
        by (by_edge e o q) = rw (← q) (root_flagged e o)
        by (by_input j m q) = rw q (input_flagged j m)
    flagged (left {i} r h) = (cone.closed i (flagged r) h).0
    flagged (right {i} r h) = (cone.closed i (flagged r) h).1
    flagged (latch k l r) = root_flagged (latch_at g.latches k).next (Memᴰ.append_left (list_roots g) (roots_on g.latches (latch_at g.latches k).next n k l (next_on (latch_at g.latches k))))

    -- the kept rows are those that `coi` flags from the roots
    pub kept_is : kept_cone g ≡ kept_flags g
    kept_is =
        same_flags (kept_cone g) (kept_flags g) cone.one_each kept_coi.one_each
        (λ j m. let b = cone.only j m in kept_coi.reached j (cone_reached j b.path (edge_reached (get_or edges b.root 0) (on_at edges b.root b.within))))
        (λ j m. flagged (kept_coi.only j m))
