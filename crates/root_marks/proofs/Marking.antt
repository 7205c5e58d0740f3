-- Laws of marks on the rows of edges.
-- Assumes nothing.
use Prim.Native.Nat.{ℕ, zero, suc, ◌+◌, ◌≤◌, ◌<◌}
use native.Mathlib.Omega.{arith}
use native.Mathlib.Numerals.{add-one}
use mathlib.Core.Path.{◌≡◌, refl, sym, ◌∙◌}
use mathlib.Core.Logic.{◌⊎◌, inl, inr, ⊎_elim}
use mathlib.Core.List.{List, [], ◌∷◌, ◌++◌}
use lib.ListN.{length, get_or, set, drop, drop_of_length-le, length-set}
use lib.Seq.{drop-cons, get_or-set_same}
use Rattle.edge.specs.Edges.{id_of}
use Rattle.root_marks.specs.Marking.{mark_edges}
use Rattle.root_marks.specs.Flags.{Flagged}
use Rattle.root_marks.proofs.Flagging.{Bits, set_keeps, set_cases, set_bits}

-- ---- by what is left of the edges
module _ (edges : List ℕ) (i : ℕ) (marks : List ℕ) where
  pub edges_end : length edges ≤ i → mark_edges (drop i edges) marks ≡ marks
  unfolding mark_edges
  edges_end l = rw drop_of_length-le

  pub edges_turn : i < length edges → mark_edges (drop i edges) marks ≡ mark_edges (drop (i + 1) edges) (set marks (id_of (get_or edges i 0)) 1)
  unfolding mark_edges
  edges_turn l = let cons : drop i edges ≡ get_or edges i 0 ∷ drop (i + 1) edges = rw (add-one, drop-cons edges i 0) in rw cons

pub edges_long : (edges marks : List ℕ) → length (mark_edges edges marks) ≡ length marks
unfolding mark_edges
edges_long [] marks = refl
edges_long (e ∷ es) marks = edges_long es (set marks (id_of e) 1) ∙ length-set marks (id_of e) 1

-- two lists, one after the other
pub edges_both : (es fs marks : List ℕ) → mark_edges (es ++ fs) marks ≡ mark_edges fs (mark_edges es marks)
unfolding mark_edges
edges_both [] fs marks = refl
edges_both (e ∷ es) fs marks = edges_both es fs (set marks (id_of e) 1)

-- ---- which rows are marked
pub edges_bits : (edges f : List ℕ) → Bits f → Bits (mark_edges edges f)
unfolding mark_edges
edges_bits [] f b = b
edges_bits (e ∷ es) f b = edges_bits es (set f (id_of e) 1) (set_bits f (id_of e) b)

pub edges_keep : (edges f : List ℕ) (j : ℕ) → Flagged f j → Flagged (mark_edges edges f) j
unfolding mark_edges
edges_keep [] f j m = m
edges_keep (e ∷ es) f j m = edges_keep es (set f (id_of e) 1) j (set_keeps f (id_of e) j m)

pub edges_flagged : (edges f : List ℕ) (k : ℕ) → k < length edges → id_of (get_or edges k 0) < length f → Flagged (mark_edges edges f) (id_of (get_or edges k 0))
unfolding mark_edges
edges_flagged [] f k l u = absurd (omega arith)
edges_flagged (e ∷ es) f zero l u = edges_keep es (set f (id_of e) 1) (id_of e) (get_or-set_same f (id_of e) 1 0 u)
edges_flagged (e ∷ es) f (suc k) l u = edges_flagged es (set f (id_of e) 1) k (omega arith) (rw length-set u)

-- row j is an edge's
pub record EdgeAt (edges : List ℕ) (j : ℕ) : Type 0 where
  pub at : ℕ
  pub within : at < length edges
  pub same : j ≡ id_of (get_or edges at 0)

pub edges_only : (edges f : List ℕ) (j : ℕ) → Flagged (mark_edges edges f) j → EdgeAt edges j ⊎ Flagged f j
unfolding mark_edges
edges_only [] f j m = inr m
edges_only (e ∷ es) f j m = ⊎_elim (λ r. inl (later r)) (λ m. ⊎_elim (λ p. inl (first p.0)) (λ q. inr (sym q ∙ m)) (set_cases f (id_of e) j)) (edges_only es (set f (id_of e) 1) j m)
  where
    later : EdgeAt es j → EdgeAt (e ∷ es) j
    later r = record { at = suc r.at; within = omega (arith, r.within); same = r.same }

    first : j ≡ id_of e → EdgeAt (e ∷ es) j
    first q = record { at = 0; within = omega arith; same = q }
