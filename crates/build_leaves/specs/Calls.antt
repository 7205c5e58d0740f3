-- What every constructor answers, and what it leaves.
-- Assumes nothing.
use Rattle.std.specs.Prelude.{ℕ, ◌≡◌, List, [], Bool, cond, eqb, Result}
use Rattle.std.proofs.Common.{ap, ap₂}
use Rattle.edge.specs.declared.answer.Given.{Given}
use Rattle.edge.specs.declared.answer.Refusal.{Refusal}
use Rattle.edge.specs.Answers.{done, bad_sizes, bad_argument, no_room, told, value_or, answer_known, determined}
use Rattle.graph.specs.declared.Counts.{Counts}
use Rattle.build_leaves.specs.declared.calls.Built.{Built}
use Rattle.build_leaves.specs.declared.calls.Added.{Added}

-- ---- the answer: "1, then 4 for an edge or a given id that is not used .., then 5"
unfoldable pub constructor_answer : Bool → Bool → Bool → Given
constructor_answer sizes good room = cond sizes (cond good (cond room done no_room) bad_argument) bad_sizes

-- ---- the counts: a constructor adds rows, inputs and latches, and nothing else
unfoldable pub counted : Counts → ℕ → ℕ → ℕ → Counts
counted n rows inputs latches =
    record {
      rows = rows;
      inputs = inputs;
      latches = latches;
      constraints = n.constraints;
      bads = n.bads;
      outputs = n.outputs;
      sets = n.sets;
      edges = n.edges;
      fairness = n.fairness;
    }

-- ---- all that is seen after a call
-- the words of the rows and of the list that were lent, the counts, and the edge or the id that was made
pub record Left : Type 0 where
  pub rows : List ℕ
  pub list : List ℕ
  pub counts : Counts
  pub made : ℕ

abbrev pub left : List ℕ → List ℕ → Counts → ℕ → Left
left rows list counts made = record { rows = rows; list = list; counts = counts; made = made }

pub record Seen : Type 0 where
  pub given : Given
  pub left : Left

-- where nothing is refused, `after` is left; "a refusal changes no row, list, output or state", and it makes nothing
unfoldable pub call_of : Given → List ℕ → List ℕ → Counts → Left → Seen
call_of g rows list counts after = record { given = g; left = cond (eqb g.number 0) after (left rows list counts 0) }

-- what comes with an answer: on a refusal the counts are as given, and nothing is made
abbrev pub built : Counts → ℕ → Built
built counts edge = record { counts = counts; edge = edge }

abbrev pub added : Counts → ℕ → Added
added counts id = record { counts = counts; id = id }

abbrev pub built_or : Counts → Result Built Refusal → Built
built_or n r = value_or (built n 0) r

abbrev pub added_or : Counts → Result Added Refusal → Added
added_or n r = value_or (added n 0) r

-- a call is given counts; one that makes an edge is lent no list
abbrev pub built_seen : Counts → Result Built Refusal → List ℕ → Seen
built_seen n r rows = record { given = told r; left = left rows [] (built_or n r).counts (built_or n r).edge }

abbrev pub added_seen : Counts → Result Added Refusal → List ℕ → List ℕ → Seen
added_seen n r rows list = record { given = told r; left = left rows list (added_or n r).counts (added_or n r).id }

-- ---- any two results that a promise allows are equal: here for any call, and beside each definition for its own
abbrev pub SameBuilt : Result Built Refusal → List ℕ → Result Built Refusal → List ℕ → Type 0
SameBuilt r x s y = (r ≡ s) × (x ≡ y)

abbrev pub SameAdded : Result Added Refusal → List ℕ → List ℕ → Result Added Refusal → List ℕ → List ℕ → Type 0
SameAdded r x v s y w = (r ≡ s) × (x ≡ y) × (v ≡ w)

pub built_determined : {L : Type 0} (call : L → Seen) (l : L) (n : Counts) (r s : Result Built Refusal) (x y : List ℕ) → built_seen n r x ≡ call l → built_seen n s y ≡ call l
    → SameBuilt r x s y
built_determined call l n r s x y p q =
    let t = determined call l (built_seen n r x) (built_seen n s y) p q in (
      answer_known (built n 0) r s (ap (λ (z : Seen). z.given) t) (ap₂ built (ap (λ (z : Seen). z.left.counts) t) (ap (λ (z : Seen). z.left.made) t)),
      ap (λ (z : Seen). z.left.rows) t,
    )

pub added_determined : {L : Type 0} (call : L → Seen) (l : L) (n : Counts) (r s : Result Added Refusal) (x y v w : List ℕ) → added_seen n r x v ≡ call l → added_seen n s y w ≡ call l
    → SameAdded r x v s y w
added_determined call l n r s x y v w p q =
    let t = determined call l (added_seen n r x v) (added_seen n s y w) p q in (
      answer_known (added n 0) r s (ap (λ (z : Seen). z.given) t) (ap₂ added (ap (λ (z : Seen). z.left.counts) t) (ap (λ (z : Seen). z.left.made) t)),
      ap (λ (z : Seen). z.left.rows) t,
      ap (λ (z : Seen). z.left.list) t,
    )
