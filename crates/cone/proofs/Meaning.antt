-- The flags of `cone_of` are those of the rows reached from the roots, and the call writes them.
-- Assumes nothing.
use Prim.Native.Nat.{ℕ, zero, suc, ◌≤◌, ◌<◌}
use native.Mathlib.Omega.{arith}
use native.Mathlib.Nat.{eq-or-lt_of_le, le_of_suc-le-suc}
use mathlib.Core.Path.{◌≡◌, refl, sym, ◌∙◌}
use mathlib.Core.Logic.{⊎_elim}
use mathlib.Core.Bool.{Bool, true, false, cond, ◌&&◌}
use mathlib.Core.List.{List, ◌++◌}
use lib.ListN.{length, get_or, set, drop, replicate, length-set, length-replicate}
use lib.Seq.{get_or-set_same}
use lib.Dec.{eqb, leb}
use borrow.Author.Tests.{ltb-true, lt-ltb, le-leb, eq-eqb, eqb-true}
use Rattle.edge.specs.Edges.{id_of}
use Rattle.edge.proofs.Tests.{both, both_true}
use Rattle.rows.specs.Rows.{word0, word1, gate_at}
use Rattle.rows.specs.Value.{InCone}
use Rattle.rows.specs.Value.InCone.{here, by0, by1}
use Rattle.rows.proofs.Laws.{gate_below}
use Rattle.graph.specs.Leaves.{used_edge}
use Rattle.graph.specs.Graph.{Lent}
use Rattle.root_marks.specs.Arguments.{every}
use Rattle.root_marks.specs.Marking.{mark_edges}
use Rattle.root_marks.specs.Flags.{Flagged, Flags, Closed}
use Rattle.root_marks.proofs.Flagging.{set_keeps, set_cases, Bits, none_flagged, zero_bits, set_bits, same_flags, same_value, same_edge}
use Rattle.root_marks.proofs.Marking.{EdgeAt, edges_long, edges_bits, edges_flagged, edges_only}
use Rattle.cone.specs.Cone.{mark_row, mark_below, cone_of}
use Rattle.cone.specs.Call.{cone_room, cone_checked, cone_call}
use Rattle.cone.specs.Meaning.{Below, IsCone, ConeLent, ConeRight}
use Rattle.root_marks.proofs.Arguments.{every_at, at_every, args_accepts, args_answers}
use Rattle.cone.proofs.Call.{cone_accepted, own_sizes}

module _ (rows : List ℕ) where
  abbrev left : ℕ → ℕ
  left i = id_of (word0 rows i)

  abbrev right : ℕ → ℕ
  right i = id_of (word1 rows i)

  -- ---- what one row does to the flags: both fanins of a flagged gate are flagged, or nothing changes
  data Did (i : ℕ) (f : List ℕ) : List ℕ → Type 0 where
    flags : Flagged f i → gate_at rows i ≡ true → Did i f (set (set f (left i) 1) (right i) 1)
    stays : Did i f f

  did : (i : ℕ) (f : List ℕ) → Did i f (mark_row rows i f)
  unfolding mark_row
  did i f = go (eqb (get_or f i 0) 1 && gate_at rows i) refl
    where
      go : (t : Bool) → eqb (get_or f i 0) 1 && gate_at rows i ≡ t → Did i f (cond t (set (set f (left i) 1) (right i) 1) f)
      go true e = let k = both {a = eqb (get_or f i 0) 1} {b = gate_at rows i} e in flags (eqb-true _ _ k.0) k.1
      go false e = stays

  row_long : (i : ℕ) (f : List ℕ) → length (mark_row rows i f) ≡ length f
  row_long i f = elim (did i f) as (λ f' _. length f' ≡ length f) [ flags m g ↦ simp length-set | stays ↦ refl ]

  row_bits : (i : ℕ) (f : List ℕ) → Bits f → Bits (mark_row rows i f)
  row_bits i f b = elim (did i f) as (λ f' _. Bits f') [ flags m g ↦ set_bits (set f (left i) 1) (right i) (set_bits f (left i) b) | stays ↦ b ]

  row_keeps : (i : ℕ) (f : List ℕ) (j : ℕ) → Flagged f j → Flagged (mark_row rows i f) j
  row_keeps i f j h =
      elim (did i f) as (λ f' _. Flagged f' j) [
        | flags m g ↦ set_keeps (set f (left i) 1) (right i) j (set_keeps f (left i) j h)
        | stays ↦ h
      ]

  module _ (i : ℕ) (f : List ℕ) (l : i < length f) (m : Flagged f i) (g : gate_at rows i ≡ true) where
    row_is : mark_row rows i f ≡ set (set f (left i) 1) (right i) 1
    unfolding mark_row
    row_is = simp (eq-eqb _ _ m, g)

    row_left : Flagged (mark_row rows i f) (left i)
    row_left =
        let h = gate_below i (word0 rows i) (word1 rows i) g in
        rw row_is (set_keeps (set f (left i) 1) (right i) (left i) (get_or-set_same f (left i) 1 0 (omega arith)))

    row_right : Flagged (mark_row rows i f) (right i)
    row_right =
        let h = gate_below i (word0 rows i) (word1 rows i) g in
        rw row_is (get_or-set_same (set f (left i) 1) (right i) 1 0 (rw length-set (omega arith)))

  -- a row flagged now was flagged, or is a fanin of row i
  data From (i : ℕ) (f : List ℕ) (j : ℕ) : Type 0 where
    kept : Flagged f j → From i f j
    as_left : j ≡ left i → Flagged f i → gate_at rows i ≡ true → From i f j
    as_right : j ≡ right i → Flagged f i → gate_at rows i ≡ true → From i f j

  row_from : (i : ℕ) (f : List ℕ) (j : ℕ) → Flagged (mark_row rows i f) j → From i f j
  row_from i f j =
      elim (did i f) as (λ f' _. Flagged f' j → From i f j) [
        | flags m g ↦ λ h.
            ⊎_elim (λ p. as_right p.0 m g)
            (λ e. ⊎_elim (λ q. as_left q.0 m g) (λ d. kept (sym d ∙ (sym e ∙ h))) (set_cases f (left i) j))
            (set_cases (set f (left i) 1) (right i) j)
        | stays ↦ λ h. kept h
      ]

  -- ---- all rows below n
  below_long : (n : ℕ) (f : List ℕ) → length (mark_below rows n f) ≡ length f
  unfolding mark_below
  below_long zero f = refl
  below_long (suc n) f = below_long n (mark_row rows n f) ∙ row_long n f

  below_bits : (n : ℕ) (f : List ℕ) → Bits f → Bits (mark_below rows n f)
  unfolding mark_below
  below_bits zero f b = b
  below_bits (suc n) f b = below_bits n (mark_row rows n f) (row_bits n f b)

  below_keeps : (n : ℕ) (f : List ℕ) (j : ℕ) → Flagged f j → Flagged (mark_below rows n f) j
  unfolding mark_below
  below_keeps zero f j h = h
  below_keeps (suc n) f j h = below_keeps n (mark_row rows n f) j (row_keeps n f j h)

  -- a row that is reached from a flagged row is flagged: first from row n, given the same of the rows below n once row n is done
  reached_top : (n : ℕ) (f : List ℕ) (j : ℕ) → n < length f
      → ((i : ℕ) → i < n → Flagged (mark_row rows n f) i → InCone rows j i → Flagged (mark_below rows n (mark_row rows n f)) j)
      → {i : ℕ} → InCone rows j i → i ≡ n → Flagged f i → Flagged (mark_below rows n (mark_row rows n f)) j
  reached_top n f j k below here e m = below_keeps n (mark_row rows n f) j (row_keeps n f j m)
  reached_top n f j k below (by0 {i} g r) e m =
      let t = gate_below i (word0 rows i) (word1 rows i) g in
      below (left i) (omega arith) (rw (← e) (row_left i f (omega arith) m g)) r
  reached_top n f j k below (by1 {i} g r) e m =
      let t = gate_below i (word0 rows i) (word1 rows i) g in
      below (right i) (omega arith) (rw (← e) (row_right i f (omega arith) m g)) r

  reached_below : (n : ℕ) (f : List ℕ) (i j : ℕ) → n ≤ length f → i < n → Flagged f i → InCone rows j i → Flagged (mark_below rows n f) j
  unfolding mark_below
  reached_below zero f i j k l m r = absurd (omega arith)
  reached_below (suc n) f i j k l m r =
      let below : (i : ℕ) → i < n → Flagged (mark_row rows n f) i → InCone rows j i → Flagged (mark_below rows n (mark_row rows n f)) j =
      λ i lt. reached_below n (mark_row rows n f) i j (rw row_long (omega arith)) lt in
      ⊎_elim (λ e. reached_top n f j k below r e m) (λ lt. below i lt (row_keeps n f i m) r) (eq-or-lt_of_le (le_of_suc-le-suc l))

  -- a flagged row is reached from a row that was flagged
  record Started (f : List ℕ) (j : ℕ) : Type 0 where
    at : ℕ
    flagged : Flagged f at
    path : InCone rows j at

  only_below : (n : ℕ) (f : List ℕ) (j : ℕ) → Flagged (mark_below rows n f) j → Started f j
  unfolding mark_below
  only_below zero f j m = record { at = j; flagged = m; path = here }
  only_below (suc n) f j m = go (only_below n (mark_row rows n f) j m)
    where
      go : Started (mark_row rows n f) j → Started f j
      go s = by (row_from n f s.at s.flagged)
        where
          by : From n f s.at → Started f j
          by (kept h) = record { at = s.at; flagged = h; path = s.path }
          by (as_left e h g) = record { at = n; flagged = h; path = by0 g (rw e at s.path) }
          by (as_right e h g) = record { at = n; flagged = h; path = by1 g (rw e at s.path) }

  -- ---- the cone
  further : (j : ℕ) {i r : ℕ} → InCone rows j i → InCone rows i r → InCone rows j r
  further j p here = p
  further j p (by0 g q) = by0 g (further j p q)
  further j p (by1 g q) = by1 g (further j p q)

  module _ (used : ℕ) (roots : List ℕ) (good : every (used_edge used) roots ≡ true) where
    abbrev start : List ℕ
    start = mark_edges roots (replicate used 0)

    abbrev cone : List ℕ
    cone = cone_of rows used roots

    start_long : length start ≡ used
    start_long = edges_long roots (replicate used 0) ∙ length-replicate used 0

    root_used : (k : ℕ) → k < length roots → id_of (get_or roots k 0) < used
    root_used k l = ltb-true _ _ (every_at (used_edge used) roots good k l)

    reached : (j : ℕ) → Below rows roots j → Flagged cone j
    unfolding cone_of
    reached j b =
        let u = root_used b.root b.within in
        reached_below used start (id_of (get_or roots b.root 0)) j (omega (arith, start_long)) u
        (edges_flagged roots (replicate used 0) b.root b.within (rw (length-replicate {A = ℕ} used 0) u)) b.path

    only : (j : ℕ) → Flagged cone j → Below rows roots j
    unfolding cone_of
    only j m = go (only_below used start j m)
      where
        go : Started start j → Below rows roots j
        go s =
            ⊎_elim (λ (r : EdgeAt roots s.at). record { root = r.at; within = r.within; path = rw r.same at s.path }) (λ m. absurd (none_flagged used s.at m))
            (edges_only roots (replicate used 0) s.at s.flagged)

    closed : Closed rows cone
    closed i m g = (reached (left i) (below (left i) (by0 g here)), reached (right i) (below (right i) (by1 g here)))
      where
        below : (j : ℕ) → InCone rows j i → Below rows roots j
        below j p = let b = only i m in record { root = b.root; within = b.within; path = further j p b.path }

    one_each : Flags used cone
    unfolding cone_of
    one_each = record { long = below_long used start ∙ start_long; bits = below_bits used start (edges_bits roots (replicate used 0) (zero_bits used)) }

    pub is_cone : IsCone rows used roots cone
    is_cone =
        record {
          one_each = one_each;
          reached = reached;
          only = only;
          closed = closed;
          values = λ other leaf leaf' agree k l. same_edge _ _ (get_or roots k 0)
              (same_value rows cone closed other leaf leaf' agree (id_of (get_or roots k 0)) (reached (id_of (get_or roots k 0)) (record { root = k; within = l; path = here })));
        }

  pub one_cone : (used : ℕ) (roots a b : List ℕ) → IsCone rows used roots a → IsCone rows used roots b → a ≡ b
  one_cone used roots a b p q = same_flags a b p.one_each q.one_each (λ j m. q.reached j (p.only j m)) (λ j m. p.reached j (q.only j m))

-- ---- the call
module _ (g : Lent) (roots flags marks : List ℕ) where
  checked : (cone_call g roots flags marks).given.number ≡ 0 → (cone_checked g roots (length flags) marks).given.number ≡ 0
  unfolding cone_call
  checked z = z

  accepted : (cone_call g roots flags marks).given.number ≡ 0 → ConeLent g roots flags marks
  accepted z =
      let t = cone_accepted g roots (length flags) marks (checked z) in
      let s = own_sizes g roots (length flags) t.roomy in
      record { sized = t.sized; flags_long = s.0; roots_few = s.1; well_formed = t.well_formed; roots_used = λ k l. ltb-true _ _ (every_at (used_edge g.counts.rows) roots t.all_good k l) }

  accepts : ConeLent g roots flags marks → (cone_call g roots flags marks).given.number ≡ 0
  unfolding cone_call cone_checked
  accepts c =
      let room : cone_room g roots (length flags) ≡ true = both_true {a = leb g.counts.rows (length flags)} (le-leb _ _ c.flags_long) (le-leb _ _ c.roots_few) in
      let good = at_every (used_edge g.counts.rows) roots (λ k l. lt-ltb _ _ (c.roots_used k l)) in
      rw (args_accepts (cone_room g roots (length flags)) (every (used_edge g.counts.rows) roots) g marks (record { roomy = room; all_good = good; sized = c.sized; well_formed = c.well_formed }))

  written : (cone_call g roots flags marks).given.number ≡ 0 → (cone_call g roots flags marks).flags ≡ cone_of g.rows g.counts.rows roots ++ drop g.counts.rows flags
  unfolding cone_call
  written z = rw (eq-eqb (cone_checked g roots (length flags) marks).given.number 0 z)

  pub cone_right : ConeRight g roots flags marks
  unfolding cone_call cone_checked
  cone_right =
      record {
        accepts = accepts;
        accepted = accepted;
        answers = args_answers (cone_room g roots (length flags)) (every (used_edge g.counts.rows) roots) g marks;
        writes = λ z. record {
          cone = cone_of g.rows g.counts.rows roots;
          is_cone = is_cone g.rows g.counts.rows roots (cone_accepted g roots (length flags) marks (checked z)).all_good;
          written = written z;
        };
        one = one_cone g.rows g.counts.rows roots;
      }
