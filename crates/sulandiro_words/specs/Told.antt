-- What a caller in C sees of a call: the lists that it was lent to write, and the answer with what comes with it as words.
-- Assumes nothing.
use Rattle.std.specs.Prelude.{ℕ, ◌≡◌, List, [], ◌∷◌}
use Rattle.std.proofs.Common.{ap}
use Rattle.std.proofs.lemmas.List.Edits.{sets}
use Rattle.edge.specs.declared.answer.Given.{Given}
use Rattle.edge.specs.Answers.{determined}
use Rattle.graph.specs.declared.Counts.{Counts}
use Rattle.graph.specs.Graph.{Lent}
use Rattle.renumber.specs.Seen.{RebuiltSeen, ListedSeen}
use Rattle.sulandiro_words.specs.Words.{given_words, count_words}

-- the number and the place, then what comes with the answer, as far as there is room
abbrev pub told_words : List ℕ → Given → List ℕ → List ℕ
told_words told g ws = sets (sets told 0 (given_words g)) 4 ws

-- the number and the place, then the counts
unfoldable pub told_rebuilt : List ℕ → Given → Counts → List ℕ
told_rebuilt told g n = told_words told g (count_words n)

-- ---- a call that rebuilds a graph: the nine lists, the marks, and the answer with the counts
pub record ToldSeen : Type 0 where
  pub lists : List (List ℕ)
  pub marks : List ℕ
  pub told : List ℕ

abbrev pub told_seen : List ℕ → List ℕ → List ℕ → List ℕ → List ℕ → List ℕ → List ℕ → List ℕ → List ℕ → List ℕ → List ℕ → ToldSeen
told_seen rows inputs latches constraints bads outputs ends edges fairness marks told =
    record { lists = rows ∷ inputs ∷ latches ∷ constraints ∷ bads ∷ outputs ∷ ends ∷ edges ∷ fairness ∷ []; marks = marks; told = told }

abbrev pub told_graph : Lent → List ℕ → List ℕ → ToldSeen
told_graph g marks told = told_seen g.rows g.inputs g.latches g.constraints g.bads g.outputs g.ends g.edges g.fairness marks told

-- what a call leaves, told over the first words that were lent; the others stay
unfoldable pub told_of : RebuiltSeen → List ℕ → ToldSeen
told_of s told = told_graph s.graph s.marks (told_rebuilt told s.given s.graph.counts)

-- the list beside that a call hands back
pub record ToldListed : Type 0 where
  pub rebuilt : ToldSeen
  pub old : List ℕ

abbrev pub told_listed : ToldSeen → List ℕ → ToldListed
told_listed rebuilt old = record { rebuilt = rebuilt; old = old }

unfoldable pub told_listed_of : ListedSeen → List ℕ → ToldListed
told_listed_of s told = told_listed (told_graph s.graph s.marks (told_rebuilt told s.given s.graph.counts)) s.old

-- any two results that a promise allows are equal: every list, the marks and what is told
pub told_determined : (promised a b : ToldSeen) → a ≡ promised → b ≡ promised → (a.lists ≡ b.lists) × (a.marks ≡ b.marks) × (a.told ≡ b.told)
told_determined promised a b p q =
    let t = determined (λ (s : ToldSeen). s) promised a b p q in
    (ap (λ (s : ToldSeen). s.lists) t, ap (λ (s : ToldSeen). s.marks) t, ap (λ (s : ToldSeen). s.told) t)

pub told_listed_determined : (promised a b : ToldListed) → a ≡ promised → b ≡ promised → (a.rebuilt ≡ b.rebuilt) × (a.old ≡ b.old)
told_listed_determined promised a b p q =
    let t = determined (λ (s : ToldListed). s) promised a b p q in
    (ap (λ (s : ToldListed). s.rebuilt) t, ap (λ (s : ToldListed). s.old) t)

-- ---- a call that rebuilds no graph: the answer, the words that come with it, and the lists that it was lent to write
pub record Handed : Type 0 where
  pub given : Given
  pub words : List ℕ
  pub lists : List (List ℕ)

pub record Shown : Type 0 where
  pub lists : List (List ℕ)
  pub told : List ℕ

abbrev pub shown : List (List ℕ) → List ℕ → Shown
shown lists told = record { lists = lists; told = told }

unfoldable pub shown_of : Handed → List ℕ → Shown
shown_of h told = shown h.lists (told_words told h.given h.words)

pub shown_determined : (promised a b : Shown) → a ≡ promised → b ≡ promised → (a.lists ≡ b.lists) × (a.told ≡ b.told)
shown_determined promised a b p q =
    let t = determined (λ (s : Shown). s) promised a b p q in
    (ap (λ (s : Shown). s.lists) t, ap (λ (s : Shown). s.told) t)
