-- What `check` answers.
-- Assumes nothing.
use Rattle.std.specs.Prelude.{ℕ, ◌≡◌, List, [], ◌∷◌, ◌++◌, Bool, cond, ◌||◌, length, take, drop, replicate, ltb, eqb, Result}
use Rattle.std.proofs.Common.{ap}
use Rattle.edge.specs.declared.answer.Refusal.{Refusal}
use Rattle.edge.specs.declared.answer.Given.{Given}
use Rattle.edge.specs.Answers.{given, bad_sizes, told, told_injective, determined}
use Rattle.rows.specs.Rows.{row_at}
use Rattle.graph.specs.declared.Counts.{Counts}
use Rattle.graph.specs.Stages.{Stage, first_fault}
use Rattle.graph.specs.Leaves.{good_input, good_latch, good_edge}
use Rattle.graph.specs.Justice.{good_end, edge_place}
use Rattle.graph.specs.Graph.{Lent, sizes_right}

-- ---- the stages, in document 01's order
-- 2: "a used row is none of the three kinds at its place", placed at the smallest such row
abbrev pub row_stage : List ℕ → ℕ → Stage
row_stage rows used = record { count = used; good = row_at rows; bad = λ (i : ℕ). given 2 i 0 0 }

-- 3: entry i of a list
abbrev pub entry_stage : ℕ → ℕ → (ℕ → Bool) → Stage
entry_stage list n good = record { count = n; good = good; bad = λ (i : ℕ). given 3 list i 0 }

abbrev pub input_stage : List ℕ → ℕ → List ℕ → ℕ → Stage
input_stage rows used inputs n = entry_stage 1 n (good_input rows used inputs)

abbrev pub latch_stage : List ℕ → ℕ → List ℕ → List ℕ → ℕ → Stage
latch_stage rows used listed latches n = entry_stage 2 n (good_latch rows used listed latches)

abbrev pub edge_stage : ℕ → ℕ → List ℕ → ℕ → Stage
edge_stage used list entries n = entry_stage list n (good_edge used entries)

-- "edges without sets are bad at index 0"
abbrev pub no_set_stage : ℕ → ℕ → Stage
no_set_stage sets edges = entry_stage 6 1 (λ (_ : ℕ). ltb 0 sets || eqb edges 0)

abbrev pub end_stage : List ℕ → ℕ → ℕ → Stage
end_stage ends sets edges = entry_stage 6 sets (good_end ends sets edges)

-- edges lie in the order of their sets, so "set by set" is one after the other
abbrev pub set_stage : ℕ → List ℕ → ℕ → List ℕ → ℕ → Stage
set_stage used ends sets edges n = record { count = n; good = good_edge used edges; bad = edge_place ends sets }

-- "All ends are checked before any edge"
abbrev pub justice_stages : ℕ → List ℕ → ℕ → List ℕ → ℕ → List Stage
justice_stages used ends sets edges n = no_set_stage sets n ∷ (end_stage ends sets n ∷ (set_stage used ends sets edges n ∷ []))

-- lists 1 and 2
abbrev pub leaf_stages : List ℕ → List ℕ → List ℕ → Counts → List Stage
leaf_stages rows inputs latches n =
    input_stage rows n.rows inputs n.inputs ∷ (latch_stage rows n.rows (take n.inputs inputs) latches n.latches ∷ [])

abbrev pub leaf_stages_of : Lent → List Stage
leaf_stages_of g = leaf_stages g.rows g.inputs g.latches g.counts

-- lists 3 to 7
abbrev pub list_stages : List ℕ → List ℕ → List ℕ → List ℕ → List ℕ → List ℕ → Counts → List Stage
list_stages constraints bads outputs ends edges fairness n =
    edge_stage n.rows 3 constraints n.constraints
    ∷ (edge_stage n.rows 4 bads n.bads
    ∷ (edge_stage n.rows 5 outputs n.outputs
    ∷ (justice_stages n.rows ends n.sets edges n.edges ++ (edge_stage n.rows 7 fairness n.fairness ∷ []))))

abbrev pub list_stages_of : Lent → List Stage
list_stages_of g = list_stages g.constraints g.bads g.outputs g.ends g.edges g.fairness g.counts

-- "Checks run in this order": the rows, then lists 1 to 7
abbrev pub stages : Lent → List Stage
stages g =
    row_stage g.rows g.counts.rows
    ∷ (leaf_stages_of g ++ list_stages_of g)

-- answers 2 and 3, of a graph whose sizes are right
unfoldable pub contents : Lent → Given
contents g = first_fault (stages g)

-- ---- the call
-- "Work marks are zero at exit over the rows used at entry"
abbrev pub cleared : ℕ → List ℕ → List ℕ
cleared n marks = replicate n 0 ++ drop n marks

pub record CheckSeen : Type 0 where
  pub given : Given
  pub marks : List ℕ

abbrev pub check_seen : Result Unit Refusal → List ℕ → CheckSeen
check_seen r marks = record { given = told r; marks = marks }

-- 1, "when they are untouched"; then 2 and 3
unfoldable pub check_call : Lent → List ℕ → CheckSeen
check_call g marks =
    cond (sizes_right g (length marks)) (record { given = contents g; marks = cleared g.counts.rows marks }) (record { given = bad_sizes; marks = marks })

-- any two results that the promise allows are equal
pub check_determined : (g : Lent) (marks : List ℕ) (r s : Result Unit Refusal) (m n : List ℕ) → check_seen r m ≡ check_call g marks → check_seen s n ≡ check_call g marks → (r ≡ s) × (m ≡ n)
check_determined g marks r s m n p q =
    let t = determined (check_call g) marks (check_seen r m) (check_seen s n) p q in
    (told_injective r s (ap (λ (x : CheckSeen). x.given) t), ap (λ (x : CheckSeen). x.marks) t)
