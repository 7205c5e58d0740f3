-- What a caller in C sees of `unroll_to`: as of any call that rebuilds a graph, and the finished frames behind the counts.
-- Assumes nothing.
use Rattle.std.specs.Prelude.{ℕ, List, [], ◌∷◌}
use Rattle.std.proofs.lemmas.List.Edits.{sets}
use Rattle.edge.specs.declared.answer.Given.{Given}
use Rattle.graph.specs.declared.Counts.{Counts}
use Rattle.unroll_to.specs.Call.{FramesSeen}
use Rattle.sulandiro_words.specs.Told.{ToldSeen, told_graph, told_rebuilt}

-- behind the counts, how many frames are finished
unfoldable pub told_ran : List ℕ → Given → Counts → ℕ → List ℕ
told_ran told g n finished = sets (told_rebuilt told g n) 13 (finished ∷ [])

unfoldable pub told_frames : FramesSeen → List ℕ → ToldSeen
told_frames s told = told_graph s.ran.graph s.marks (told_ran told s.ran.given s.ran.graph.counts s.ran.finished)
