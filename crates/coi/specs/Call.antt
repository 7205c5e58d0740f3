-- What `coi` answers and writes.
-- Assumes nothing.
use Rattle.std.specs.Prelude.{ℕ, ◌≡◌, List, ◌++◌, Bool, cond, ◌&&◌, length, drop, leb, eqb, Result}
use Rattle.std.proofs.Common.{ap}
use Rattle.edge.specs.declared.answer.Refusal.{Refusal}
use Rattle.edge.specs.declared.answer.Given.{Given}
use Rattle.edge.specs.Answers.{told, told_injective, determined}
use Rattle.rows.specs.Sizes.{max_entries}
use Rattle.rows.specs.Reading.{if_done}
use Rattle.graph.specs.Graph.{Lent}
use Rattle.graph.specs.Check.{cleared, CheckSeen}
use Rattle.root_marks.specs.Arguments.{every, args_call}
use Rattle.coi.specs.Coi.{coi_of, used_row}

-- no answer 1 of the call's own: "work marks, flags .. shorter than the used rows", "at most 65,536 entries a list"; the stack is a second slice of work marks
abbrev pub coi_room : Lent → List ℕ → ℕ → ℕ → Bool
coi_room g ids flags stack = leb g.counts.rows flags && leb g.counts.rows stack && leb (length ids) max_entries

-- the answer, and the marks: "row ids (not used: 4)"
unfoldable pub coi_checked : Lent → List ℕ → ℕ → ℕ → List ℕ → CheckSeen
coi_checked g ids flags stack marks = args_call (coi_room g ids flags stack) (every (used_row g.counts.rows) ids) g marks

-- "Work marks are zero at exit over the rows used at entry, except after 1, when they are untouched"
abbrev pub work_after : Lent → Given → List ℕ → List ℕ
work_after g t stack = cond (eqb t.number 1) stack (cleared g.counts.rows stack)

pub record CoiSeen : Type 0 where
  pub given : Given
  pub flags : List ℕ
  pub marks : List ℕ
  pub stack : List ℕ

abbrev pub coi_seen : Result Unit Refusal → List ℕ → List ℕ → List ℕ → CoiSeen
coi_seen r flags marks stack = record { given = told r; flags = flags; marks = marks; stack = stack }

-- "A refusal changes no row, list, output or state"; "words beyond what a call says it writes stay as they were"
unfoldable pub coi_call : Lent → List ℕ → List ℕ → List ℕ → List ℕ → CoiSeen
coi_call g ids flags marks stack =
    let seen = coi_checked g ids (length flags) (length stack) marks in
    record {
      given = seen.given;
      flags = if_done seen.given (coi_of g ids ++ drop g.counts.rows flags) flags;
      marks = seen.marks;
      stack = work_after g seen.given stack;
    }

-- any two results that the promise allows are equal
pub coi_determined : (g : Lent) (ids flags marks stack : List ℕ) (r s : Result Unit Refusal) (f h m n p q : List ℕ)
    → coi_seen r f m p ≡ coi_call g ids flags marks stack → coi_seen s h n q ≡ coi_call g ids flags marks stack → (r ≡ s) × (f ≡ h) × (m ≡ n) × (p ≡ q)
coi_determined g ids flags marks stack r s f h m n p q a b =
    let t = determined (coi_call g ids flags marks) stack (coi_seen r f m p) (coi_seen s h n q) a b in
    (told_injective r s (ap (λ (x : CoiSeen). x.given) t), ap (λ (x : CoiSeen). x.flags) t, ap (λ (x : CoiSeen). x.marks) t, ap (λ (x : CoiSeen). x.stack) t)
