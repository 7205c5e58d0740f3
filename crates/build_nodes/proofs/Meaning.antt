-- What the constructors mean: older rows keep their values, and an edge that was made has the value of what it was made of.
-- Assumes nothing.
use Prim.Native.Nat.{ℕ, ◌≤◌, ◌<◌}
use native.Mathlib.Omega.{arith}
use mathlib.Core.Path.{◌≡◌, refl, ap, ◌∙◌}
use mathlib.Core.Bool.{Bool, true, false, cond, not, ◌&&◌, ◌||◌, and-true, or-false}
use mathlib.Core.List.{List, [], ◌∷◌}
use lib.ListN.{length, get_or}
use lib.Dec.{leb}
use borrow.Author.Tests.{ltb-true, leb-true, eq-eqb}
use Rattle.edge.specs.Edges.{id_of, complement}
use Rattle.edge.specs.Meaning.{edge_value}
use Rattle.edge.proofs.Meaning.{complementing}
use Rattle.edge.proofs.Tests.{both, false_true}
use Rattle.rows.specs.Sizes.{max_entries, rows_lent, rows_fit}
use Rattle.rows.specs.Value.{value}
use Rattle.rows.proofs.Laws.{rows_fit_lem}
use Rattle.graph.specs.declared.Counts.{Counts}
use Rattle.build_leaves.specs.Calls.{constructor_answer, counted, Left, left, call_of}
use Rattle.gates.specs.Gates.{State}
use Rattle.gates.specs.Lists.{list_of, eq_of}
use Rattle.build_nodes.specs.Nodes.{all_used, gate_sizes, gate_call, list_call, eq_call}
use Rattle.build_nodes.specs.Meaning.{Of, Means, Nodes}
use Rattle.build_leaves.proofs.Answering.{all_three}
use Rattle.build_leaves.proofs.Keeping.{keeps}
use Rattle.gates.specs.Meaning.{Grows, AllUsed, all_true, any_true}
use Rattle.gates.proofs.Growing.{list_grows, eq_grows}
use Rattle.gates.proofs.Meaning.{list_true, list_value, eq_value}
use Rattle.std.specs.Prelude.{Option, Some, None, is_none}
use Rattle.graph.specs.Search.{first_bad}
use Rattle.graph.specs.Leaves.{good_edge}
use Rattle.graph.proofs.Searching.{all_good}

-- ---- lists of used edges
pub all_used_lem : (used : ℕ) (es : List ℕ) → all_used used es ≡ true → AllUsed used es
unfolding all_used
all_used_lem used es = go (first_bad (good_edge used es) 0 (length es)) refl
  where
    go : (f : Option ℕ) → first_bad (good_edge used es) 0 (length es) ≡ f → is_none f ≡ true → AllUsed used es
    go (Some i) e h = absurd (false_true h)
    go None e h = λ j l. ltb-true (id_of (get_or es j 0)) used (all_good (good_edge used es) (length es) 0 e j (omega arith) (omega arith))

-- ---- the calls
module _ (rows : List ℕ) (n : Counts) (es : List ℕ) (s : State) where
  abbrev after : Left
  after = left s.rows [] (counted n s.used n.inputs n.latches) s.edge

  -- what is known where such a call is done
  pub record Went : Type 0 where
    pub some : 0 < n.rows
    pub used : AllUsed n.rows es
    pub room : s.used ≤ rows_lent rows
    pub done : (gate_call rows n es s).left ≡ after

  pub went : (gate_call rows n es s).given.number ≡ 0 → Went
  unfolding gate_call call_of
  went z =
      let h = eq-eqb (constructor_answer (gate_sizes rows n.rows es) (all_used n.rows es) (leb s.used (rows_lent rows))).number 0 z in
      let t = all_three _ _ _ h in
      let f = both {a = rows_fit n.rows rows} {b = leb (length es) max_entries} t.0 in
      record { some = (rows_fit_lem n.rows rows f.0).some; used = all_used_lem n.rows es t.1; room = leb-true s.used (rows_lent rows) t.2; done = rw h }

  means :
      (of : Of) → (gate_call rows n es s).given.number ≡ 0 → (Went → Grows rows n.rows s) →
      (Went → (leaf : ℕ → Bool) → edge_value (value s.rows leaf) s.edge ≡ of (edge_value (value rows leaf))) → Means rows n.rows (gate_call rows n es s).left of
  unfolding counted
  means of z grows same =
      let w = went z in
      let g = grows w in
      rw w.done (record { keeps = keeps rows n s g w.room [] n.inputs n.latches s.edge; edge = g.edge; means = same w })

module _ (rows : List ℕ) (n : Counts) where
  list_means : (trivial or : Bool) (es : List ℕ) → (list_call trivial or rows n es).given.number ≡ 0
      → Means rows n.rows (list_call trivial or rows n es).left (λ (v : ℕ → Bool). list_true or v es)
  unfolding list_call
  list_means trivial or es z =
      means rows n es (list_of trivial or rows n.rows es) (λ (v : ℕ → Bool). list_true or v es) z
      (λ w. list_grows trivial or rows n.rows es w.some w.used w.room)
      (λ w leaf. list_value trivial or rows n.rows es leaf w.some w.used w.room)

  -- the same by another way to say its value
  means_as : {after : Left} (of of' : Of) → ((v : ℕ → Bool) → of (edge_value v) ≡ of' (edge_value v)) → Means rows n.rows after of → Means rows n.rows after of'
  means_as of of' same m = record { keeps = m.keeps; edge = m.edge; means = λ leaf. m.means leaf ∙ same (value rows leaf) }

  eq_means : (a b : ℕ) → (eq_call rows n a b).given.number ≡ 0 → Means rows n.rows (eq_call rows n a b).left (λ (v : ℕ → Bool). cond (v a) (v b) (not (v b)))
  unfolding eq_call
  eq_means a b z =
      means rows n (a ∷ (b ∷ [])) (eq_of rows n.rows a b) (λ (v : ℕ → Bool). cond (v a) (v b) (not (v b))) z
      (λ w. eq_grows rows n.rows a b w.some (w.used 0 (omega arith)) (w.used 1 (omega arith)) w.room)
      (λ w leaf. eq_value rows n.rows a b w.some (w.used 0 (omega arith)) (w.used 1 (omega arith)) w.room leaf)

  two_and : (a b : ℕ) (v : ℕ → Bool) → list_true false (edge_value v) (a ∷ (b ∷ [])) ≡ edge_value v a && edge_value v b
  unfolding all_true
  two_and a b v = ap (λ (x : Bool). edge_value v a && x) (and-true (edge_value v b))

  two_or : (a b : ℕ) (v : ℕ → Bool) → list_true true (edge_value v) (a ∷ (b ∷ [])) ≡ edge_value v a || edge_value v b
  unfolding any_true
  two_or a b v = ap (λ (x : Bool). edge_value v a || x) (or-false (edge_value v b))

  pub nodes : Nodes rows n
  nodes =
      record {
        ands = λ trivial es z. list_means trivial false es z;
        ors = λ trivial es z. list_means trivial true es z;
        and = λ trivial a b z. means_as (λ (v : ℕ → Bool). list_true false v (a ∷ (b ∷ []))) (λ (v : ℕ → Bool). v a && v b) (two_and a b) (list_means trivial false (a ∷ (b ∷ [])) z);
        or = λ trivial a b z. means_as (λ (v : ℕ → Bool). list_true true v (a ∷ (b ∷ []))) (λ (v : ℕ → Bool). v a || v b) (two_or a b) (list_means trivial true (a ∷ (b ∷ [])) z);
        imply = λ a b z.
            means_as (λ (v : ℕ → Bool). list_true true v (complement a ∷ (b ∷ []))) (λ (v : ℕ → Bool). not (v a) || v b)
            (λ v. two_or (complement a) b v ∙ ap (λ (x : Bool). x || edge_value v b) (complementing.negates v a))
            (list_means false true (complement a ∷ (b ∷ [])) z);
        eq = eq_means;
      }
