-- Laws of a call that builds: the run on no rows leaves all as it was and tells the need.
-- Assumes nothing.
use Prim.Native.Nat.{ℕ, suc, ◌/◌, ◌≤◌, ◌<◌}
use native.Mathlib.Omega.{arith}
use mathlib.Core.Path.{◌≡◌, refl, sym, ap, ◌∙◌}
use mathlib.Core.Bool.{Bool, true, cond}
use mathlib.Core.List.{List, [], ◌∷◌, ◌++◌}
use lib.ListN.{length, get_or}
use lib.Dec.{eqb, leb}
use borrow.Author.Tests.{le-leb, lt-leb, leb-true}
use Rattle.std.specs.Prelude.{Option, Some, None, Result, IsErrAnd, is_none}
use Rattle.std.specs.List.{list_all}
use Rattle.std.proofs.lemmas.List.Folds.{list_all_at}
use Rattle.edge.specs.declared.answer.Given.{Given}
use Rattle.edge.specs.declared.answer.Refusal.{Refusal}
use Rattle.edge.specs.declared.answer.Refusal.TheVariants.{NoRoom}
use Rattle.edge.specs.Answers.{done, no_room, refused}
use Rattle.edge.proofs.Answers.{not_done}
use Rattle.edge.proofs.Tests.{both}
use Rattle.rows.specs.Sizes.{max_rows, max_entries, rows_lent, rows_fit}
use Rattle.rows.proofs.Laws.{rows_fit_lem}
use Rattle.graph.specs.declared.Counts.{Counts}
use Rattle.graph.specs.Search.{first_bad}
use Rattle.graph.specs.Leaves.{used_edge, good_edge}
use Rattle.graph.proofs.Searching.{all_good, is_first}
use Rattle.build_leaves.specs.declared.calls.Built.{Built}
use Rattle.build_leaves.specs.Calls.{constructor_answer, counted, left, built_seen}
use Rattle.gates.specs.Gates.{State, state}
use Rattle.gates.specs.Lists.{list_of, eq_of}
use Rattle.build_nodes.specs.Nodes.{all_used, gate_sizes, gate_call}
use Rattle.build_nodes.specs.Steps.{gate_asked, Total}
use Rattle.build_leaves.proofs.Answering.{seen, all_three, asked_first, asked_last, build_refused, call_refused, call_done}
use Rattle.gates.proofs.Listing.{list_sized, list_like, eq_sized, eq_like}

-- the library's test of every edge is the search for a bad one
pub each_used : (used : ℕ) (es : List ℕ) → list_all (λ (e : ℕ). used_edge used e) es ≡ all_used used es
unfolding all_used
each_used used es = go (first_bad (good_edge used es) 0 (length es)) refl
  where
    every : (xs : List ℕ) → ((i : ℕ) → i < length xs → used_edge used (get_or xs i 0) ≡ true) → list_all (λ (e : ℕ). used_edge used e) xs ≡ true
    every [] h = refl
    every (x ∷ xs) h = rw (h 0 (omega arith), every xs (λ i l. h (suc i) (omega arith)))

    go : (o : Option ℕ) → first_bad (good_edge used es) 0 (length es) ≡ o → list_all (λ (e : ℕ). used_edge used e) es ≡ is_none o
    go (Some i) e =
        let f = is_first (good_edge used es) (length es) 0 i e in
        list_all_at (λ (e : ℕ). used_edge used e) es i 0 (omega (arith, f.below)) f.bad
    go None e = every es (λ i l. all_good (good_edge used es) (length es) 0 e i (omega arith) (omega arith))

pub list_total : (trivial or : Bool) (used : ℕ) (es : List ℕ) → Total (λ (x : List ℕ). list_of trivial or x used es)
list_total trivial or used es =
    record { long = λ x. (list_sized trivial or x used es).long; need = λ x y. (list_like trivial or x y used es).used }

pub eq_total : (used a b : ℕ) → Total (λ (x : List ℕ). eq_of x used a b)
eq_total used a b = record { long = λ x. (eq_sized x used a b).long; need = λ x y. (eq_like x y used a b).used }

-- what is known where 1 and 4 are not answered
pub asked_fits : (rows : List ℕ) (used : ℕ) (es : List ℕ) → eqb (gate_asked rows used es).number 0 ≡ true → (used ≤ max_rows) × (length es ≤ max_entries)
asked_fits rows used es h =
    let t = both {a = rows_fit used rows} {b = leb (length es) max_entries} (all_three _ _ _ h).0 in
    let r = rows_fit_lem used rows t.0 in
    (omega (arith, r.fit.within, r.fit.limited), leb-true (length es) max_entries t.1)

module _ (rows : List ℕ) (counts : Counts) (es : List ℕ) {of : List ℕ → State} (total : Total of) where
  abbrev asked : Given
  asked = gate_asked rows counts.rows es

  abbrev room : Bool
  room = leb (of rows).used (rows_lent rows)

  pub gate_refused : (f : Refusal) → refused f ≡ asked → (r : Result Built Refusal) → IsErrAnd r (λ e. e ≡ f) → built_seen counts r rows ≡ gate_call rows counts es (of rows)
  unfolding gate_call
  gate_refused f p r h =
      let n = ap (λ (g : Given). eqb g.number 0) (sym p) ∙ not_done f in
      build_refused rows counts _ f (p ∙ asked_first (gate_sizes rows counts.rows es) (all_used counts.rows es) room n) r h

  -- after the run on no rows
  module _ (p : done ≡ asked) (last : List ℕ) {u k : ℕ} (dry : state last u k ≡ of []) where
    pub same_rows : last ++ rows ≡ rows
    same_rows = go last (ap (λ (s : State). length s.rows) dry ∙ total.long [])
      where
        go : (xs : List ℕ) → length xs ≡ 0 → xs ++ rows ≡ rows
        go [] z = refl
        go (x ∷ xs) z = absurd (omega arith)

    need : u ≡ (of rows).used
    need = ap (λ (s : State). s.used) dry ∙ total.need [] rows

    answer : constructor_answer (gate_sizes rows counts.rows es) (all_used counts.rows es) room ≡ cond room done no_room
    answer = asked_last (gate_sizes rows counts.rows es) (all_used counts.rows es) room (ap (λ (g : Given). eqb g.number 0) (sym p))

    pub gate_full : length (last ++ rows) / 2 < u → seen no_room (left (last ++ rows) [] counts 0) ≡ gate_call rows counts es (of rows)
    unfolding gate_call
    gate_full l =
        let m : rows_lent rows < (of rows).used = rw (same_rows, need) at l in
        let q = answer ∙ ap (λ (b : Bool). cond b done no_room) (lt-leb (of rows).used (rows_lent rows) m) in
        rw same_rows (call_refused rows [] counts _ NoRoom (sym q))

    pub gate_done : u ≤ length (last ++ rows) / 2 → (s : State) → s ≡ of rows
        → seen done (left s.rows [] (counted counts s.used counts.inputs counts.latches) s.edge) ≡ gate_call rows counts es (of rows)
    unfolding gate_call
    gate_done l s w =
        let m : (of rows).used ≤ rows_lent rows = rw (same_rows, need) at l in
        let q = answer ∙ ap (λ (b : Bool). cond b done no_room) (le-leb (of rows).used (rows_lent rows) m) in
        call_done rows [] counts _ (sym q) _ (ap (λ (s : State). left s.rows [] (counted counts s.used counts.inputs counts.latches) s.edge) w)
