-- A well-formed graph stays one.
-- Assumes nothing.
use Prim.Native.Nat.{ℕ, zero, suc, ◌+◌, ◌-◌, ◌*◌, ◌≤◌, ◌<◌}
use native.Mathlib.Omega.{arith}
use native.Mathlib.Numerals.{add-one}
use mathlib.Core.Path.{◌≡◌, refl, sym, ap, subst⁻¹, ◌∙◌}
use mathlib.Core.Bool.{Bool, true, false}
use mathlib.Core.Logic.{inl, inr, ⊎_elim}
use mathlib.Core.List.{List, [], ◌∷◌, ◌++◌, append_assoc}
use lib.ListN.{length, get_or, set, take}
use lib.Seq.{get_or-set_same, get_or-set_other, take-suc-set}
use lib.Dec.{ltb, leb, eqb}
use borrow.Author.Tests.{ltb-true, eq-eqb}
use Rattle.edge.specs.Edges.{id_of}
use Rattle.edge.proofs.Tests.{false_true, lt_or_le, or_right}
use Rattle.rows.specs.Sizes.{max_rows, rows_lent, rows_fit}
use Rattle.rows.specs.Rows.{leaf_at, AllRows}
use Rattle.graph.specs.declared.Counts.{Counts}
use Rattle.graph.specs.Latches.{latch_at, latch_inputs}
use Rattle.graph.specs.Leaves.{member}
use Rattle.graph.specs.Graph.{Lent}
use Rattle.graph.specs.WellFormed.{UsedLeaf, listed, WellFormed}
use Rattle.graph.proofs.Listed.{all_long, input_at, latch_at_lem}
use Rattle.build_leaves.specs.Calls.{constructor_answer, counted, left, call_of}
use Rattle.gates.specs.Gates.{State, leaf_added}
use Rattle.build_leaves.specs.Leaves.{new_call, free_row, leaf_answer, leaf_call, entry_answer, input_answer, new_input_call, add_input_call}
use Rattle.gates.specs.Meaning.{Grows}
use Rattle.build_leaves.specs.Graphs.{with_rows, with_inputs, Fresh, LeavesStay}
use Rattle.build_leaves.proofs.Answering.{all_three}
use Rattle.build_leaves.proofs.Adding.{entry_told}
use Rattle.build_leaves.proofs.Keeping.{keeps}
use Rattle.build_leaves.proofs.Meaning.{first_good, leaf_grows, leaf_made, leaf_told}

-- ---- one more entry in a list without doubles
abbrev pub Once : List ℕ → Type 0
Once l = (i j : ℕ) → i < j → j < length l → get_or l i 0 ≡ get_or l j 0 → ⊥

abbrev pub NotIn : ℕ → List ℕ → Type 0
NotIn x l = (j : ℕ) → j < length l → get_or l j 0 ≡ x → ⊥

once_cons : (x : ℕ) (l : List ℕ) → NotIn x l → Once l → Once (x ∷ l)
once_cons x l n o i zero h k e = absurd (omega arith)
once_cons x l n o zero (suc j) h k e = n j (omega arith) (sym e)
once_cons x l n o (suc i) (suc j) h k e = o i j (omega arith) (omega arith) e

notin_insert : (a x : ℕ) → (x ≡ a → ⊥) → (k l : List ℕ) → NotIn a (k ++ l) → NotIn a (k ++ (x ∷ l))
notin_insert a x d [] l n zero h e = d e
notin_insert a x d [] l n (suc j) h e = n j (omega arith) e
notin_insert a x d (b ∷ k) l n zero h e = n 0 (omega arith) e
notin_insert a x d (b ∷ k) l n (suc j) h e = notin_insert a x d k l (λ i m q. n (suc i) (omega arith) q) j (omega arith) e

pub once_insert : (x : ℕ) (k l : List ℕ) → Once (k ++ l) → NotIn x (k ++ l) → Once (k ++ (x ∷ l))
once_insert x [] l o n = once_cons x l n o
once_insert x (a ∷ k) l o n =
    once_cons a (k ++ (x ∷ l))
    (notin_insert a x (λ (e : x ≡ a). n 0 (omega arith) (sym e)) k l (λ j h e. o 0 (suc j) (omega arith) (omega arith) (sym e)))
    (once_insert x k l (λ i j h m e. o (suc i) (suc j) (omega arith) (omega arith) e) (λ j h e. n (suc j) (omega arith) e))

-- what is no member stands nowhere
pub not_in : (x : ℕ) (l : List ℕ) → member x l ≡ false → NotIn x l
unfolding member
not_in x [] m j h e = absurd (omega arith)
not_in x (y ∷ l) m zero h e = false_true (sym m ∙ rw (eq-eqb x y (sym e)))
not_in x (y ∷ l) m (suc j) h e = not_in x l (rest (member x l) refl) j (omega arith) e
  where
    rest : (t : Bool) → member x l ≡ t → t ≡ false
    rest true q = absurd (false_true (sym m ∙ or_right (eqb x y) q))
    rest false q = refl

-- ---- more rows
module _ (g : Lent) (w : WellFormed g) (rows : List ℕ) (used : ℕ) (more : g.counts.rows ≤ used)
    (kept : (k : ℕ) → k < 2 * g.counts.rows → get_or rows k 0 ≡ get_or g.rows k 0) (good : AllRows rows used) where
  leaf_still : (x : ℕ) → UsedLeaf g x → (x < used) × (leaf_at rows x ≡ true)
  leaf_still x h = (omega (arith, h.0), rw (kept (2 * x) (omega (arith, h.0)), kept (2 * x + 1) (omega (arith, h.0))) h.1)

  abbrev taller : Lent
  taller = with_rows g (left rows [] (counted g.counts used g.counts.inputs g.counts.latches) 0)

  pub rows_stay : WellFormed taller
  unfolding counted
  rows_stay =
      record {
        rows = good;
        inputs = λ i l. leaf_still _ (w.inputs i l);
        latches = λ i l. leaf_still _ (w.latches i l);
        once = w.once;
        nexts = λ i l. omega (arith, w.nexts i l);
        inits = λ i l. ⊎_elim (λ e. inl e) (λ (h : id_of (latch_at g.latches i).init < g.counts.rows). inr (omega arith)) (w.inits i l);
        constraints = λ i l. omega (arith, w.constraints i l);
        bads = λ i l. omega (arith, w.bads i l);
        outputs = λ i l. omega (arith, w.outputs i l);
        edges = λ i l. omega (arith, w.edges i l);
        fairness = λ i l. omega (arith, w.fairness i l);
        ends = w.ends;
        last = w.last;
        no_sets = w.no_sets;
      }

-- ---- row 0 alone
pub fresh : (g : Lent) → Fresh g
unfolding new_call call_of counted latch_inputs
fresh g z =
    let h = eq-eqb (constructor_answer (leb (rows_lent g.rows) max_rows) true (ltb 0 (rows_lent g.rows))).number 0 z in
    let t = all_three (leb (rows_lent g.rows) max_rows) true (ltb 0 (rows_lent g.rows)) h in
    rw h
    (record {
      rows = first_good g.rows (ltb-true 0 (rows_lent g.rows) t.2);
      inputs = λ i l. absurd (omega arith);
      latches = λ i l. absurd (omega arith);
      once = λ i j l m. absurd (omega arith);
      nexts = λ i l. absurd (omega arith);
      inits = λ i l. absurd (omega arith);
      constraints = λ i l. absurd (omega arith);
      bads = λ i l. absurd (omega arith);
      outputs = λ i l. absurd (omega arith);
      edges = λ i l. absurd (omega arith);
      fairness = λ i l. absurd (omega arith);
      ends = λ s l. absurd (omega arith);
      last = λ s l. absurd (omega arith);
      no_sets = λ l. refl;
    })

-- ---- one more input: a used leaf in neither list
module _ (g : Lent) (w : WellFormed g) (x : ℕ) (leaf : UsedLeaf g x) (new : NotIn x (listed g)) where
  module _ (room : g.counts.inputs + 1 ≤ length g.inputs) where
    abbrev here : ℕ
    here = g.counts.inputs

    input_is : (i : ℕ) → i < here + 1 → UsedLeaf g (get_or (set g.inputs here x) i 0)
    input_is i l =
        ⊎_elim
        (λ (h : i < here). rw (get_or-set_other g.inputs here i x 0 (λ (e : i ≡ here). omega arith)) (w.inputs i h))
        (λ (h : here ≤ i). let e : i ≡ here = omega arith in rw (e, get_or-set_same g.inputs here x 0 (omega arith)) leaf)
        (lt_or_le i here)

    listed_is : take (here + 1) (set g.inputs here x) ++ latch_inputs g.latches g.counts.latches ≡ take here g.inputs ++ (x ∷ latch_inputs g.latches g.counts.latches)
    listed_is =
        let t : take (here + 1) (set g.inputs here x) ≡ take here g.inputs ++ (x ∷ []) = rw add-one (take-suc-set g.inputs here x (omega arith)) in
        ap (λ (k : List ℕ). k ++ latch_inputs g.latches g.counts.latches) t
        ∙ append_assoc (take here g.inputs) (x ∷ []) (latch_inputs g.latches g.counts.latches)

    pub input_stays : WellFormed (with_inputs g (left g.rows (set g.inputs here x) (counted g.counts g.counts.rows (here + 1) g.counts.latches) 0))
    unfolding counted
    input_stays =
        record {
          rows = w.rows;
          inputs = input_is;
          latches = w.latches;
          once = rw listed_is (once_insert x (take here g.inputs) (latch_inputs g.latches g.counts.latches) w.once new);
          nexts = w.nexts;
          inits = w.inits;
          constraints = w.constraints;
          bads = w.bads;
          outputs = w.outputs;
          edges = w.edges;
          fairness = w.fairness;
          ends = w.ends;
          last = w.last;
          no_sets = w.no_sets;
        }

-- ---- the calls
module _ (g : Lent) (long : g.counts.inputs ≤ length g.inputs) (w : WellFormed g) where
  abbrev n : Counts
  n = g.counts

  -- what is listed is used
  pub listed_used : (j : ℕ) → j < length (listed g) → get_or (listed g) j 0 < n.rows
  listed_used j l =
      let e : length (listed g) ≡ n.inputs + n.latches = all_long g.inputs n.inputs g.latches n.latches long in
      ⊎_elim
      (λ (h : j < n.inputs). rw (input_at g.inputs n.inputs g.latches n.latches long j h) (w.inputs j h).0)
      (λ (h : n.inputs ≤ j).
      let q : j ≡ n.inputs + (j - n.inputs) = omega arith in
      let k : j - n.inputs < n.latches = omega arith in
      subst⁻¹ (λ (i : ℕ). get_or (listed g) i 0 < n.rows) q (rw (latch_at_lem g.inputs n.inputs g.latches n.latches long (j - n.inputs) k) (w.latches (j - n.inputs) k).0))
      (lt_or_le j n.inputs)

  pub grown_stays : (s : State) → Grows g.rows n.rows s → s.used ≤ rows_lent g.rows → WellFormed (with_rows g (left s.rows [] (counted n s.used n.inputs n.latches) 0))
  unfolding counted
  grown_stays s h room =
      rows_stay g w s.rows s.used h.more h.kept ((keeps g.rows n s h room [] n.inputs n.latches 0).good w.rows)

  -- with one more leaf
  module _ (sizes : rows_fit n.rows g.rows ≡ true) (free : free_row g.rows n.rows ≡ true) where
    abbrev pub taller_by_leaf : Lent
    taller_by_leaf = with_rows g (left (leaf_added g.rows n.rows) [] (counted n (n.rows + 1) n.inputs n.latches) 0)

    pub leaf_stays : WellFormed taller_by_leaf
    leaf_stays = grown_stays _ (leaf_grows g.rows n sizes free) (omega (arith, ltb-true n.rows (rows_lent g.rows) free))

    pub new_leaf_lem : UsedLeaf taller_by_leaf n.rows
    unfolding counted
    new_leaf_lem = (omega arith, (leaf_made g.rows n sizes free [] n.inputs n.latches).is_leaf)

    pub new_unlisted : NotIn n.rows (listed taller_by_leaf)
    unfolding counted
    new_unlisted j l e = let h = listed_used j l in omega arith

  new_input : (new_input_call g.rows g.inputs n).given.number ≡ 0 → WellFormed (with_inputs g (new_input_call g.rows g.inputs n).left)
  unfolding new_input_call input_answer call_of counted
  new_input z =
      let free = free_row g.rows n.rows in
      let h = eq-eqb (entry_answer g.rows n.rows n.inputs (length g.inputs) true free).number 0 z in
      let t = entry_told g.rows n.rows n.inputs (length g.inputs) true free h in
      rw h
      (input_stays (taller_by_leaf t.0 t.2) (leaf_stays t.0 t.2) n.rows (new_leaf_lem t.0 t.2) (new_unlisted t.0 t.2) (omega (arith, t.3)))

  add_input : (x : ℕ) → leaf_at g.rows x ≡ true → member x (listed g) ≡ false → (add_input_call g.rows g.inputs n x).given.number ≡ 0
      → WellFormed (with_inputs g (add_input_call g.rows g.inputs n x).left)
  unfolding add_input_call input_answer call_of counted
  add_input x leaf new z =
      let h = eq-eqb (entry_answer g.rows n.rows n.inputs (length g.inputs) (ltb x n.rows) true).number 0 z in
      let t = entry_told g.rows n.rows n.inputs (length g.inputs) (ltb x n.rows) true h in
      rw h (input_stays g w x (ltb-true x n.rows t.1, leaf) (not_in x (listed g) new) (omega (arith, t.3)))

  leaf_call_lem : (leaf_call g.rows n).given.number ≡ 0 → WellFormed (with_rows g (leaf_call g.rows n).left)
  unfolding leaf_call call_of
  leaf_call_lem z =
      let t = leaf_told g.rows n z in
      rw (eq-eqb (leaf_answer g.rows n.rows).number 0 z) (leaf_stays t.0 t.1)

  pub leaves_stay : LeavesStay g
  leaves_stay = record { leaf = leaf_call_lem; new_input = new_input; add_input = add_input }
