-- Reencoding the result once more changes nothing.
-- Assumes nothing.
use Prim.Native.Nat.{ℕ, ◌+◌, ◌-◌, ◌*◌, ◌%◌, ◌≤◌, ◌<◌}
use native.Mathlib.Omega.{arith}
use mathlib.Core.Path.{◌≡◌, refl, sym, ap, ap₂, ◌∙◌}
use mathlib.Core.Bool.{Bool, true, false, cond, not, ◌&&◌}
use mathlib.Core.Logic.{◌⊎◌, inl, inr, ⊎_elim}
use mathlib.Core.List.{List}
use lib.ListN.{length, get_or}
use lib.Dec.{eqb}
use borrow.Author.Tests.{eqb-true}
use Rattle.edge.specs.Edges.{id_of}
use Rattle.edge.specs.Answers.{done}
use Rattle.edge.proofs.Tests.{false_true, lt_or_le}
use Rattle.rows.specs.Rows.{word0, word1, none, leaf_at, gate_at}
use Rattle.rows.proofs.Laws.{gate_below}
use Rattle.graph.specs.declared.latch.Latch.{Latch}
use Rattle.graph.specs.Latches.{latch_at}
use Rattle.graph.specs.Leaves.{member}
use Rattle.graph.specs.Graph.{Lent, Sized}
use Rattle.graph.specs.WellFormed.{listed, WellFormed}
use Rattle.graph.proofs.Listed.{is_member}
use Rattle.gates.specs.Gates.{Sorted, first as first_edge, second as second_edge}
use Rattle.gates.proofs.Ordering.{ordered}
use Rattle.renumber.specs.Renumber.{renamed, renamed_latch}
use Rattle.output.specs.Room.{Limited, Room}
use Rattle.graph.proofs.Counting.{count_none, count_from}
use Rattle.output.proofs.Fitting.{limits_true}
use Rattle.graph.specs.Count.{gates_below}
use Rattle.reencode.specs.Numbers.{first_gate, new_id, orphan_at, orphans}
use Rattle.reencode.specs.Rebuilding.{rows_of, reencoded}
use Rattle.reencode.specs.Call.{reencode_call}
use Rattle.reencode.specs.Meaning.{SameGraph, Settled}
use Rattle.reencode.proofs.Call.{checked_accepts}
use Rattle.reencode.proofs.Leaving.{zero_no_leaf, leaf_gate}
use Rattle.reencode.proofs.Mapping.{new_zero, new_listed, new_gate}
use Rattle.reencode.proofs.Result as result

-- ---- an edge whose row keeps its number
same_edge : (m : ℕ → ℕ) (e : ℕ) → m (id_of e) ≡ id_of e → renamed m e ≡ e
unfolding renamed
same_edge m e h = go (eqb e none) refl
  where
    go : (t : Bool) → eqb e none ≡ t → cond t none (2 * m (id_of e) + e % 2) ≡ e
    go true q = sym (eqb-true e none q)
    go false q = rw h (omega arith)

module _ (g out : Lent) (marks : ℕ) (s : Sized g marks) (w : WellFormed g) (no : orphans g ≡ 0) (room : Room out g.counts) (limited : Limited out) where
  abbrev used : ℕ
  used = g.counts.rows

  abbrev first : ℕ
  first = first_gate g.counts

  abbrev new : Lent
  new = reencoded g out

  abbrev rows : List ℕ
  rows = rows_of g out.rows

  total : used ≡ first + gates_below g.rows used
  total = result.total g out marks s w no room limited

  new_sized : Sized new used
  new_sized = (result.renewed g out marks s w no room limited).sized used (omega arith)

  new_formed : WellFormed new
  new_formed = (result.renewed g out marks s w no room limited).well_formed

  -- ---- each row has its number already
  kept : (r : ℕ) → r < used → new_id new r ≡ r
  unfolding reencoded
  kept r l = ⊎_elim (λ p. ⊎_elim (leaf p) gate (lt_or_le r first)) (λ z. let e : r ≡ 0 = omega arith in rw e (new_zero new used new_sized new_formed)) (lt_or_le 0 r)
    where
      leaf : 0 < r → r < first → new_id new r ≡ r
      leaf p h =
          let q : get_or (listed new) (r - 1) 0 ≡ r = result.listed_number g out marks s w no room limited (r - 1) (omega arith) ∙ omega arith in
          ap (new_id new) (sym q) ∙ (new_listed new used new_sized new_formed (r - 1) (omega arith) ∙ omega arith)

      gate : first ≤ r → new_id new r ≡ r
      gate h =
          new_gate new used new_sized new_formed r (result.gate_there g out marks s w no room limited r h l)
          ∙ count_from (gate_at rows) first r h (result.low_no_gate g out marks s w no room limited) (λ i a b. result.gate_there g out marks s w no room limited i a (omega arith))

  -- ---- no leaf is an orphan
  no_orphan_lem : orphans new ≡ 0
  unfolding reencoded
  no_orphan_lem = count_none (orphan_at new) used (λ x l. ⊎_elim (λ p. ⊎_elim (leaf x p) (gate x l) (lt_or_le x first)) (λ z. let e : x ≡ 0 = omega arith in rw (e, zero_no_leaf rows)) (lt_or_le 0 x))
    where
      left : (a b : Bool) → b ≡ true → a && not b ≡ false
      left true true e = refl
      left false true e = refl
      left a false e = absurd (false_true e)

      leaf : (x : ℕ) → 0 < x → x < first → orphan_at new x ≡ false
      leaf x p h =
          let q : get_or (listed new) (x - 1) 0 ≡ x = result.listed_number g out marks s w no room limited (x - 1) (omega arith) ∙ omega arith in
          let i = is_member (listed new) (x - 1) (omega (arith, result.new_list_long g out marks s w no room limited)) in
          left (leaf_at rows x) (member x (listed new)) (ap (λ (y : ℕ). member y (listed new)) (sym q) ∙ i)

      gate : (x : ℕ) → x < used → first ≤ x → orphan_at new x ≡ false
      gate x l h = go (leaf_at rows x) refl
        where
          go : (t : Bool) → leaf_at rows x ≡ t → t && not (member x (listed new)) ≡ false
          go true e = absurd (false_true (sym (leaf_gate new used new_sized new_formed x l e) ∙ result.gate_there g out marks s w no room limited x h l))
          go false e = refl

  -- ---- once more, into any room
  module _ (out' : Lent) (limited' : Limited out') (room' : Room out' new.counts) where
    abbrev last : Lent
    last = reencoded new out'

    edge_kept : (e : ℕ) → id_of e < used → renamed (new_id new) e ≡ e
    edge_kept e l = same_edge (new_id new) e (kept (id_of e) l)

    init_kept : (e : ℕ) → (e ≡ none) ⊎ (id_of e < used) → renamed (new_id new) e ≡ e
    init_kept e (inl q) = result.none_stays (new_id new) e q ∙ sym q
    init_kept e (inr l) = edge_kept e l

    gate_kept : (r : ℕ) → r < used → gate_at rows r ≡ true → Sorted (word0 rows r) (word1 rows r) → (word0 last.rows r ≡ word0 rows r) × (word1 last.rows r ≡ word1 rows r)
    unfolding reencoded
    gate_kept r l h o =
        let b = gate_below r (word0 rows r) (word1 rows r) h in
        let x = edge_kept (word0 rows r) (omega (arith, b.0)) in
        let y = edge_kept (word1 rows r) (omega (arith, b.1)) in
        let t = (ordered (word0 rows r) (word1 rows r)).stay o in
        let row = result.gate_is new out' used new_sized new_formed no_orphan_lem room' limited' r l h in
        (ap (word0 last.rows) (sym (kept r l)) ∙ (row.first ∙ (ap₂ first_edge x y ∙ t.0)), ap (word1 last.rows) (sym (kept r l)) ∙ (row.second ∙ (ap₂ second_edge x y ∙ t.1)))

    leaf_kept : (i : ℕ) → i < g.counts.inputs + g.counts.latches → (word0 last.rows (i + 1) ≡ word0 rows (i + 1)) × (word1 last.rows (i + 1) ≡ word1 rows (i + 1))
    unfolding reencoded
    leaf_kept i l =
        let a = result.leaf_is new out' used new_sized new_formed no_orphan_lem room' limited' i l in
        let b = result.leaf_is g out marks s w no room limited i l in
        (a.first ∙ sym b.first, a.second ∙ sym b.second)

    zero_kept : (word0 last.rows 0 ≡ word0 rows 0) × (word1 last.rows 0 ≡ word1 rows 0)
    unfolding reencoded
    zero_kept =
        let a = result.zero_is new out' used new_sized new_formed no_orphan_lem room' limited' in
        let b = result.zero_is g out marks s w no room limited in
        (a.first ∙ sym b.first, a.second ∙ sym b.second)

    row_kept : (r : ℕ) → r < used → (word0 last.rows r ≡ word0 rows r) × (word1 last.rows r ≡ word1 rows r)
    row_kept r l =
        ⊎_elim
        (λ (p : 0 < r). ⊎_elim (λ (h : r < first). let e : r ≡ (r - 1) + 1 = omega arith in rw e (leaf_kept (r - 1) (omega arith)))
        (λ (h : first ≤ r). gate_kept r l (result.gate_there g out marks s w no room limited r h l) (result.gate_sorted g out marks s w no room limited r h l)) (lt_or_le r first))
        (λ (z : r ≤ 0). let e : r ≡ 0 = omega arith in rw e zero_kept) (lt_or_le 0 r)

    -- the lists
    edges_kept :
        (list after : List ℕ) (n : ℕ) → ((j : ℕ) → j < n → get_or after (0 + j) 0 ≡ renamed (new_id new) (get_or list j 0)) → ((j : ℕ) → j < n → id_of (get_or list j 0) < used) → (j : ℕ) → j < n →
        get_or after j 0 ≡ get_or list j 0
    edges_kept list after n e u j l = let z : 0 + j ≡ j = omega arith in ap (λ (k : ℕ). get_or after k 0) (sym z) ∙ (e j l ∙ edge_kept (get_or list j 0) (u j l))

    latch_kept : (l : Latch) → l.input < used → id_of l.next < used → (l.init ≡ none) ⊎ (id_of l.init < used) → renamed_latch (new_id new) l ≡ l
    unfolding renamed_latch
    latch_kept l a b c = rw (kept l.input a, edge_kept l.next b, init_kept l.init c)

    pub same_graph : SameGraph new last
    unfolding reencoded
    same_graph =
        let e = result.entries new out' used new_sized new_formed no_orphan_lem room' limited' in
        record {
          counts = refl;
          first_words = λ i l. (row_kept i l).0;
          second_words = λ i l. (row_kept i l).1;
          inputs = λ j l. result.input_number new out' used new_sized new_formed no_orphan_lem room' limited' j l ∙ sym (result.input_number g out marks s w no room limited j l);
          latches = λ j l. result.latch_entry new out' used new_sized new_formed no_orphan_lem room' limited' j l ∙ latch_kept (latch_at new.latches j) (new_formed.latches j l).0
              (new_formed.nexts j l) (new_formed.inits j l);
          constraints = edges_kept new.constraints last.constraints g.counts.constraints e.constraints new_formed.constraints;
          bads = edges_kept new.bads last.bads g.counts.bads e.bads new_formed.bads;
          outputs = edges_kept new.outputs last.outputs g.counts.outputs e.outputs new_formed.outputs;
          ends = λ j l. let z : 0 + j ≡ j = omega arith in ap (λ (k : ℕ). get_or last.ends k 0) (sym z) ∙ (e.ends j l ∙ omega arith);
          edges = edges_kept new.edges last.edges g.counts.edges e.edges new_formed.edges;
          fairness = edges_kept new.fairness last.fairness g.counts.fairness e.fairness new_formed.fairness;
        }

  pub settled : Settled new
  unfolding reencode_call reencoded
  settled = record { accepts = accepts; same = λ out' k l r h. rw (accepts out' k l r h) (same_graph out' l r) }
    where
      accepts : (out' : Lent) (k : List ℕ) → Limited out' → Room out' new.counts → new.counts.rows ≤ length k → (reencode_call new out' k).given ≡ done
      accepts out' k l r h =
          checked_accepts new out' k
          (record { limited = limits_true out' l; sized = (result.renewed g out marks s w no room limited).sized (length k) h; well_formed = new_formed; no_orphan_lem = no_orphan_lem; room = r })
