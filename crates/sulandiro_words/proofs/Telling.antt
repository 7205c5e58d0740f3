-- Laws of what is told of a call.
-- Assumes nothing.
use Prim.Native.Nat.{ℕ}
use mathlib.Core.Path.{◌≡◌, ap, ◌∙◌}
use mathlib.Core.List.{List}
use Rattle.edge.specs.Answers.{told}
use Rattle.graph.specs.Graph.{Lent}
use Rattle.renumber.specs.Seen.{Rebuilt, RebuiltSeen, rebuilt_seen, ListedSeen, listed_seen}
use Rattle.sulandiro_words.specs.Told.{ToldSeen, told_graph, told_of, told_listed, told_listed_of, told_rebuilt, told_words, Handed, shown, shown_of}

module _ (before : List ℕ) (r : Rebuilt) (g : Lent) (m : List ℕ) {after : List ℕ} (w : after ≡ told_rebuilt before (told r) g.counts) where
  seen : told_graph g m after ≡ told_graph g m (told_rebuilt before (told r) g.counts)
  seen = ap (told_graph g m) w

  pub tells : (promised : RebuiltSeen) → rebuilt_seen r g m ≡ promised → told_graph g m after ≡ told_of promised before
  unfolding told_of
  tells promised e = seen ∙ ap (λ (s : RebuiltSeen). told_graph s.graph s.marks (told_rebuilt before s.given s.graph.counts)) e

  pub tells_listed : (o : List ℕ) (promised : ListedSeen) → listed_seen r g o m ≡ promised → told_listed (told_graph g m after) o ≡ told_listed_of promised before
  unfolding told_listed_of
  tells_listed o promised e =
      ap (λ (s : ToldSeen). told_listed s o) seen
      ∙ ap (λ (s : ListedSeen). told_listed (told_graph s.graph s.marks (told_rebuilt before s.given s.graph.counts)) s.old) e

-- what is told of a call that rebuilds no graph is what it hands back
pub tells_handed : {S : Type 0} (handed : S → Handed) (s : S) (before : List ℕ) {after : List ℕ} → after ≡ told_words before (handed s).given (handed s).words
    → (promised : S) → s ≡ promised → shown (handed s).lists after ≡ shown_of (handed promised) before
unfolding shown_of
tells_handed {S} handed s before w promised e =
    ap (shown (handed s).lists) w ∙ ap (λ (t : S). shown (handed t).lists (told_words before (handed t).given (handed t).words)) e
