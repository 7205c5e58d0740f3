-- What `fanin_logic_cone` answers and writes.
-- Assumes nothing.
use Rattle.std.specs.Prelude.{ℕ, ◌≡◌, List, ◌++◌, Bool, ◌&&◌, length, drop, leb, Result}
use Rattle.std.proofs.Common.{ap}
use Rattle.edge.specs.declared.answer.Refusal.{Refusal}
use Rattle.edge.specs.declared.answer.Given.{Given}
use Rattle.edge.specs.Answers.{told, told_injective, determined}
use Rattle.rows.specs.Sizes.{max_entries}
use Rattle.rows.specs.Reading.{if_done}
use Rattle.graph.specs.Leaves.{used_edge}
use Rattle.graph.specs.Graph.{Lent}
use Rattle.graph.specs.Check.{CheckSeen}
use Rattle.root_marks.specs.Arguments.{every, args_call}
use Rattle.cone.specs.Cone.{cone_of}

-- no answer 1 of the call's own: "flags .. shorter than the used rows", "at most 65,536 entries a list"
abbrev pub cone_room : Lent → List ℕ → ℕ → Bool
cone_room g roots flags = leb g.counts.rows flags && leb (length roots) max_entries

-- the answer, and the marks: "flags of the edges' rows (not used: 4)"
unfoldable pub cone_checked : Lent → List ℕ → ℕ → List ℕ → CheckSeen
cone_checked g roots flags marks = args_call (cone_room g roots flags) (every (used_edge g.counts.rows) roots) g marks

pub record ConeSeen : Type 0 where
  pub given : Given
  pub flags : List ℕ
  pub marks : List ℕ

abbrev pub cone_seen : Result Unit Refusal → List ℕ → List ℕ → ConeSeen
cone_seen r flags marks = record { given = told r; flags = flags; marks = marks }

-- "A refusal changes no row, list, output or state"; "words beyond what a call says it writes stay as they were"
unfoldable pub cone_call : Lent → List ℕ → List ℕ → List ℕ → ConeSeen
cone_call g roots flags marks =
    let seen = cone_checked g roots (length flags) marks in
    record {
      given = seen.given;
      flags = if_done seen.given (cone_of g.rows g.counts.rows roots ++ drop g.counts.rows flags) flags;
      marks = seen.marks;
    }

-- any two results that the promise allows are equal
pub fanin_logic_cone_determined : (g : Lent) (roots flags marks : List ℕ) (r s : Result Unit Refusal) (f h m n : List ℕ)
    → cone_seen r f m ≡ cone_call g roots flags marks → cone_seen s h n ≡ cone_call g roots flags marks → (r ≡ s) × (f ≡ h) × (m ≡ n)
fanin_logic_cone_determined g roots flags marks r s f h m n p q =
    let t = determined (cone_call g roots flags) marks (cone_seen r f m) (cone_seen s h n) p q in
    (told_injective r s (ap (λ (x : ConeSeen). x.given) t), ap (λ (x : ConeSeen). x.flags) t, ap (λ (x : ConeSeen). x.marks) t)
