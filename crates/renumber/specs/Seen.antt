-- What is seen of a call that rebuilds a graph.
-- Assumes nothing.
use Rattle.std.specs.Prelude.{ℕ, ◌≡◌, List, Result}
use Rattle.std.proofs.Common.{sym, ap, ◌∙◌}
use Rattle.edge.specs.declared.answer.Given.{Given}
use Rattle.edge.specs.declared.answer.Refusal.{Refusal}
use Rattle.edge.specs.Answers.{told, value_or, answer_known, determined}
use Rattle.graph.specs.declared.Counts.{Counts}
use Rattle.graph.specs.Graph.{Lent}

-- What a call that rebuilds a graph answers: the counts of the graph that it wrote. Where it is refused they are as given.
abbrev pub Rebuilt : Type 0
Rebuilt = Result Counts Refusal

-- the answer, every lent word of the graph with the counts, and the marks
pub record RebuiltSeen : Type 0 where
  pub given : Given
  pub graph : Lent
  pub marks : List ℕ

abbrev pub rebuilt_seen : Rebuilt → Lent → List ℕ → RebuiltSeen
rebuilt_seen r graph marks = record { given = told r; graph = graph; marks = marks }

-- the same of a call that hands back a list: the new-to-old list, the old bads
pub record ListedSeen : Type 0 where
  pub given : Given
  pub graph : Lent
  pub old : List ℕ
  pub marks : List ℕ

abbrev pub listed_seen : Rebuilt → Lent → List ℕ → List ℕ → ListedSeen
listed_seen r graph old marks = record { given = told r; graph = graph; old = old; marks = marks }

-- ---- any two results that a promise allows are equal: here for any call, and beside each definition for its own
-- two answers tell the same; and they are equal, counts and all, where the graphs x and y have the counts that came back, or where they were refused those that were given
abbrev pub SameAnswer : Rebuilt → Lent → Rebuilt → Lent → Type 0
SameAnswer r x s y = (told r ≡ told s) × ((given : Counts) → x.counts ≡ value_or given r → y.counts ≡ value_or given s → r ≡ s)

abbrev pub SameRebuilt : Rebuilt → Lent → List ℕ → Rebuilt → Lent → List ℕ → Type 0
SameRebuilt r x m s y n = SameAnswer r x s y × (x ≡ y) × (m ≡ n)

abbrev pub SameListed : Rebuilt → Lent → List ℕ → List ℕ → Rebuilt → Lent → List ℕ → List ℕ → Type 0
SameListed r x o m s y p n = SameAnswer r x s y × (x ≡ y) × (o ≡ p) × (m ≡ n)

same_answer : (r s : Rebuilt) (x y : Lent) → told r ≡ told s → x ≡ y → SameAnswer r x s y
same_answer r s x y t g = (t, λ given p q. answer_known given r s t (sym p ∙ (ap (λ (z : Lent). z.counts) g ∙ q)))

pub rebuilt_determined : {L : Type 0} (call : L → RebuiltSeen) (l : L) (r s : Rebuilt) (x y : Lent) (m n : List ℕ) → rebuilt_seen r x m ≡ call l → rebuilt_seen s y n ≡ call l → SameRebuilt r x m s y n
rebuilt_determined call l r s x y m n p q =
    let t = determined call l (rebuilt_seen r x m) (rebuilt_seen s y n) p q in
    let g = ap (λ (z : RebuiltSeen). z.graph) t in
    (same_answer r s x y (ap (λ (z : RebuiltSeen). z.given) t) g, g, ap (λ (z : RebuiltSeen). z.marks) t)

pub listed_determined : {L : Type 0} (call : L → ListedSeen) (l : L) (r s : Rebuilt) (x y : Lent) (o p m n : List ℕ) → listed_seen r x o m ≡ call l → listed_seen s y p n ≡ call l → SameListed r x o m s y p n
listed_determined call l r s x y o p m n u v =
    let t = determined call l (listed_seen r x o m) (listed_seen s y p n) u v in
    let g = ap (λ (z : ListedSeen). z.graph) t in
    (same_answer r s x y (ap (λ (z : ListedSeen). z.given) t) g, g, ap (λ (z : ListedSeen). z.old) t, ap (λ (z : ListedSeen). z.marks) t)
