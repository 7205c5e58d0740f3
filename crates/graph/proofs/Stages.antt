-- Laws of stages: where the check stops, and that its answer names the first fault.
-- Assumes nothing.
use Prim.Native.Nat.{ℕ, ◌≤◌, ◌<◌}
use native.Mathlib.Omega.{arith}
use mathlib.Core.Path.{◌≡◌, refl, sym, ap, ◌∙◌}
use mathlib.Core.Bool.{Bool, true, false}
use lib.Dec.{eqb}
use lib.ListN.{length, take}
use mathlib.Core.List.{List, [], ◌∷◌, ◌++◌}
use mathlib.Core.Logic.{◌⊎◌, inl, inr}
use Rattle.edge.specs.declared.answer.Given.{Given}
use Rattle.edge.specs.declared.answer.Refusal.{Refusal}
use Rattle.edge.specs.Answers.{done, refused, or_else}
use Rattle.edge.proofs.Answers.{stops_here, goes_past, not_done}
use Rattle.std.specs.Prelude.{Option, Some, None}
use Rattle.graph.specs.Stages.{Stage, or_later, found, entry_found, first_fault, Clean, AllClean, Names}
use Rattle.graph.specs.Stages.AllClean.{nothing, more}
use Rattle.graph.specs.Stages.Names.{here, later}
use Rattle.std.proofs.lemmas.List.{get_or-take, length-take-le}
use Rattle.graph.specs.Search.{first_bad}
use Rattle.graph.specs.Leaves.{used_edge, good_edge}
use Rattle.graph.specs.Check.{entry_stage, edge_stage}
use Rattle.graph.proofs.Searching.{same_search, all_good, is_first, nothing_bad}

-- ---- one stage, then the others
module _ (s : Stage) (ss : List Stage) where
  pub stage_stops : {i : ℕ} → found s ≡ Some i → first_fault (s ∷ ss) ≡ s.bad i
  unfolding first_fault
  stage_stops e = rw e

  pub stage_goes : found s ≡ None → first_fault (s ∷ ss) ≡ first_fault ss
  unfolding first_fault
  stage_goes e = rw e

pub none_left : first_fault [] ≡ done
unfolding first_fault
none_left = refl

-- ---- stages of entries, which are answered by 3
pub data Entries : List Stage → Type 0 where
  ends : Entries []
  also : {s : Stage} {ss : List Stage} → ((i : ℕ) → (s.bad i).number ≡ 3) → Entries ss → Entries (s ∷ ss)

-- some stages, then others
first_append : {ss : List Stage} (ts : List Stage) → Entries ss → first_fault (ss ++ ts) ≡ or_else (first_fault ss) (first_fault ts)
unfolding first_fault
first_append ts ends = sym (goes_past done (first_fault ts) refl)
first_append ts (also {s} {ss} r rs) = go (found s) (first_append ts rs)
  where
    go : (f : Option ℕ) → first_fault (ss ++ ts) ≡ or_else (first_fault ss) (first_fault ts) → or_later s f (first_fault (ss ++ ts)) ≡ or_else (or_later s f (first_fault ss)) (first_fault ts)
    go (Some i) e = sym (stops_here (s.bad i) (first_fault ts) (λ (z : (s.bad i).number ≡ 0). omega (arith, r i)))
    go None e = e

module _ {ss : List Stage} (ts : List Stage) (r : Entries ss) where
  pub join_stops : eqb (first_fault ss).number 0 ≡ false → first_fault (ss ++ ts) ≡ first_fault ss
  unfolding or_else
  join_stops e = first_append ts r ∙ rw e

  pub join_goes : eqb (first_fault ss).number 0 ≡ true → first_fault (ss ++ ts) ≡ first_fault ts
  unfolding or_else
  join_goes e = first_append ts r ∙ rw e

-- what some stages answer is the answer of all, or the others are looked at
module _ {ss : List Stage} (ts : List Stage) (r : Entries ss) where
  pub stops_within : (f : Refusal) → refused f ≡ first_fault ss → first_fault (ss ++ ts) ≡ refused f
  stops_within f e = join_stops ts r (rw (← e) (not_done f)) ∙ sym e

  pub goes_beyond : done ≡ first_fault ss → first_fault (ss ++ ts) ≡ first_fault ts
  goes_beyond e = join_goes ts r (rw (← e) refl)

-- ---- one stage of entries
pub one_stage : {list n : ℕ} {good : ℕ → Bool} → Entries (entry_stage list n good ∷ [])
one_stage = also (λ i. refl) ends

pub entry_fault : (list n : ℕ) (good : ℕ → Bool) → entry_found list (first_bad good 0 n) ≡ first_fault (entry_stage list n good ∷ [])
unfolding first_fault
entry_fault list n good = go (first_bad good 0 n)
  where
    go : (o : Option ℕ) → entry_found list o ≡ or_later (entry_stage list n good) o done
    go (Some i) = refl
    go None = refl

-- a stage of entries, then others, where the first bad entry was looked for and answered
module _ (list n : ℕ) (good : ℕ → Bool) (ss : List Stage) {o : Option ℕ} (found : o ≡ first_bad good 0 n) where
  pub entries_stop : (f : Refusal) → refused f ≡ entry_found list o → refused f ≡ first_fault (entry_stage list n good ∷ ss)
  entries_stop f e = sym (stops_within ss (one_stage {list = list} {n = n} {good = good}) f (e ∙ ap (entry_found list) found ∙ entry_fault list n good))

  pub entries_go : done ≡ entry_found list o → first_fault (entry_stage list n good ∷ ss) ≡ first_fault ss
  entries_go e = goes_beyond ss (one_stage {list = list} {n = n} {good = good}) (e ∙ ap (entry_found list) found ∙ entry_fault list n good)

-- nothing was found where the answer is done
pub none_found : (list : ℕ) (o : Option ℕ) → done ≡ entry_found list o → o ≡ None
none_found list (Some i) e = absurd (not_zero (ap (λ (g : Given). g.number) e))
  where
    not_zero : ◌≡◌ {A = ℕ} 0 3 → ⊥
    not_zero z = omega arith
none_found list None e = refl

-- the edges of the used part of a list
pub edges_taken : (used list : ℕ) (es : List ℕ) (n : ℕ) → n ≤ length es
    → first_fault (edge_stage used list (take n es) (length (take n es)) ∷ []) ≡ first_fault (edge_stage used list es n ∷ [])
unfolding first_fault
edges_taken used list es n h =
    let long : length (take n es) ≡ n = length-take-le n es h in
    rw (long, same_search (good_edge used (take n es)) (good_edge used es) n 0 (λ j l m. ap (used_edge used) (get_or-take n es j 0 (omega arith)))) refl

-- the stage of that part, then others
module _ (used list : ℕ) (es : List ℕ) (n : ℕ) (h : n ≤ length es) (ss : List Stage) where
  abbrev taken : List Stage
  taken = edge_stage used list (take n es) (length (take n es)) ∷ []

  pub edges_stop : (f : Refusal) → refused f ≡ first_fault taken → refused f ≡ first_fault (edge_stage used list es n ∷ ss)
  edges_stop f e = sym (stops_within ss (one_stage {list = list} {n = n} {good = good_edge used es}) f (e ∙ edges_taken used list es n h))

  pub edges_go : done ≡ first_fault taken → first_fault (edge_stage used list es n ∷ ss) ≡ first_fault ss
  edges_go e = goes_beyond ss (one_stage {list = list} {n = n} {good = good_edge used es}) (e ∙ edges_taken used list es n h)

-- ---- the answer names the first fault, or nothing is bad
pub clean : (s : Stage) → found s ≡ None → Clean s
clean s e i l = all_good s.good s.count 0 e i (omega arith) (omega arith)

pub judged : (ss : List Stage) → AllClean ss ⊎ Names ss (first_fault ss)
unfolding first_fault
judged [] = inl nothing
judged (s ∷ ss) = go (found s) refl (judged ss)
  where
    go : (f : Option ℕ) → found s ≡ f → AllClean ss ⊎ Names ss (first_fault ss) → AllClean (s ∷ ss) ⊎ Names (s ∷ ss) (or_later s f (first_fault ss))
    go (Some i) e r =
        let f = is_first s.good s.count 0 i e in
        let l : i < s.count = omega (arith, f.below) in
        inr (here {s = s} i l f.bad (λ j m. f.before j (omega arith) m))
    go None e (inl all) = inl (more (clean s e) all)
    go None e (inr first) = inr (later (clean s e) first)

pub clean_done : {ss : List Stage} → AllClean ss → first_fault ss ≡ done
unfolding first_fault
clean_done nothing = refl
clean_done (more {s} {ss} c all) = rw (nothing_bad s.good s.count 0 (λ j l h. c j (omega arith))) (clean_done all)

pub named_entry : {ss : List Stage} {g : Given} → Entries ss → Names ss g → g.number ≡ 3
named_entry (also r rs) (here i l b before) = r i
named_entry (also r rs) (later c n) = named_entry rs n
named_entry {g = g} ends x3 = elim x3 [ ]
